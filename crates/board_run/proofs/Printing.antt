-- The last of some steps printed the byte, where one did.
use Rattle.std.proofs.Common.{◌≡◌, ℕ, zero, suc, ◌<◌, Bool, true, false, if◌then◌else◌, nat_le, List, [], ◌++◌, Option, None, Some, refl, sym, ap, ◌∙◌, subst, append-nil, arith}
use Rattle.std.proofs.lemmas.Bool.Decides.{nat_tests}
use Rattle.board_bus.specs.declared.event.BusAnswer.{BusAnswer}
use Rattle.board_bus.specs.declared.event.BusEvent.{BusEvent}
use Rattle.avr_space.specs.Peer.{AnswerTo, OfBus}
use Rattle.avr_mcu.specs.Answers.{Led, led}
use Rattle.avr_mcu.specs.Run.{byte_of}
use Rattle.avr_mcu.specs.State.{McuState, printed, taken}
use Rattle.avr_mcu.specs.Step.{Gone, gone, stepped}
use Rattle.avr_mcu.specs.Stretch.{GoesOn}
use Rattle.avr_mcu.specs.declared.run.RunEnd.{RunEnd}
use Rattle.avr_mcu.specs.declared.run.RunEnd.TheVariants as ends
use Rattle.avr_mcu.specs.declared.went.McuWent.{McuWent}
use Rattle.avr_mcu.specs.declared.went.McuWent.TheVariants as wents
use Rattle.avr_run.specs.Steps.{IsStep, IsStretch}
use Rattle.avr_run.specs.Told.{Told, Tells, SoFar}
use Rattle.avr_run.proofs.Runs.{stretch-goes}
use Rattle.avr_run.proofs.Told.{Came, CameBy, plays-told}
use Rattle.board_run.specs.Printing.{LastPrints, PrintsLast}
use Rattle.board_run.specs.Wires.{WireView, told_of}

-- One step, on the answers that it took.
leads_now : {R : Type 0} (w : Option BusEvent) (tree : OfBus R) (cs : List BusEvent) (xs : List BusAnswer) (r : R) → CameBy w tree cs xs r
    → led tree xs ≡ record { result = r; left = []; asked = cs; wants = w }
leads_now None tree cs xs r it = ap (λ (ys : List BusAnswer). led tree ys) (sym (append-nil xs)) ∙ it []
leads_now (Some c) tree cs xs r it = it

step_prints : (cycles : ℕ) (s left now : McuState) (went : McuWent) (byte : Option ℕ) (told told' : Told) → (told.wanted ≡ None → Came (stepped s) told (gone went left) told') → byte ≡ printed left → now ≡ taken left
    → LastPrints cycles byte s told now told'
step_prints cycles s left now went byte told told' comes byte_is leaves v is start serial far =
    let came = comes far.none_wanted in
    let one : led (stepped s) came.answered ≡ record { result = gone went left; left = []; asked = came.asked; wants = told'.wanted } =
    leads_now told'.wanted (stepped s) came.asked came.answered (gone went left) came.leads in
    record {
      at = s;
      before = told;
      so_far = far;
      answers = came.answered;
      answers_are = ap (λ (t : Told). t.answers) came.adds;
      none_left = ap (λ (l : Led Gone). l.left) one;
      asked_are = ap (λ (t : Told). t.asked) came.adds ∙ ap (λ (l : Led Gone). told.asked ++ l.asked) (sym one);
      wanted_is = ap (λ (l : Led Gone). l.wants) (sym one);
      prints = ap (λ (l : Led Gone). printed l.result.state) one ∙ (sym byte_is ∙ is);
      leaves = leaves ∙ ap (λ (l : Led Gone). taken l.result.state) (sym one);
    }

-- A step over the firmware's bus.
pub turn_prints : (did : WireView → (c : BusEvent) → AnswerTo c → WireView → Type 0) (law : (p : WireView) (c : BusEvent) (a : AnswerTo c) (q : WireView) → did p c a q → Tells c (told_of p) a (told_of q))
    (cycles : ℕ) (s now : McuState) (w v : WireView) (wanted : Option BusEvent) (went : McuWent) (byte : Option ℕ) (end : Option RunEnd) → IsStep did cycles s w v wanted went byte end now
    → LastPrints cycles byte s (told_of w) now (told_of v)
turn_prints did law cycles s now w v wanted went byte end step =
    step_prints cycles s step.left now went byte (told_of w) (told_of v) (λ fresh. plays-told told_of did law (stepped s) w v (gone went step.left) fresh step.plays) step.prints step.leaves

-- A step that ended below the limit of cycles does not end the run.
below_none : (b : Bool) (limit cycles : ℕ) → nat_le limit cycles ≡ b → cycles < limit → (if b then Some ends.CycleLimit else None) ≡ None
below_none true limit cycles is below = absurd (grind (arith, nat_tests))
below_none false limit cycles is below = refl

unprinted : (t : McuState) → printed t ≡ None → taken t ≡ t
unprinted t none = ap (λ (byte : Option ℕ). record t { devices = record t.devices { serial = record t.devices.serial { usart = record t.devices.serial.usart { printed = byte } } } }) (sym none)

-- Steps that asked and printed nothing.
silent : (cycles k : ℕ) (s mid : McuState) → s.devices.cycles < cycles → GoesOn cycles k s mid → printed mid ≡ None → mid.devices.cycles < cycles → (start : McuState) (serial : List ℕ) (told : Told)
    → SoFar cycles start serial s told → SoFar cycles start serial mid told
silent cycles k s mid below goes none low start serial told far =
    let there = stretch-goes cycles k s mid (taken mid) (printed mid) None below goes (sym (below_none (nat_le cycles mid.devices.cycles) cycles mid.devices.cycles refl low)) refl refl refl start serial told far in
    subst (λ (m : McuState). SoFar cycles start serial m told) (unprinted mid none)
    (subst (λ (bytes : List ℕ). SoFar cycles start bytes (taken mid) told) (append-nil serial) (subst (λ (b : Option ℕ). SoFar cycles start (serial ++ byte_of b) (taken mid) told) none there))

stretch_by : (cycles k : ℕ) (s left now : McuState) (byte : Option ℕ) (told : Told) → s.devices.cycles < cycles → GoesOn cycles k s left → byte ≡ printed left → now ≡ taken left → LastPrints cycles byte s told now told
stretch_by cycles zero s left now byte told below goes byte_is leaves v is start serial far =
    let no : Some v ≡ None = sym is ∙ (byte_is ∙ (ap printed goes ∙ far.none_waits)) in absurd (cc)
stretch_by cycles (suc k) s left now byte told below goes byte_is leaves v is start serial far =
    let mid : McuState = goes.0 in
    let move = goes.2 in
    let went : McuWent = if mid.asleep then wents.Asleep else wents.Ran in
    let one : led (stepped mid) [] ≡ record { result = gone went left; left = []; asked = []; wants = None } = ap (λ (tree : OfBus Gone). led tree []) move.is in
    record {
      at = mid;
      before = told;
      so_far = silent cycles k s mid below goes.1 (move.still ∙ far.none_waits) move.below start serial told far;
      answers = [];
      answers_are = sym (append-nil told.answers);
      none_left = ap (λ (l : Led Gone). l.left) one;
      asked_are = sym (append-nil told.asked) ∙ ap (λ (l : Led Gone). told.asked ++ l.asked) (sym one);
      wanted_is = far.none_wanted ∙ ap (λ (l : Led Gone). l.wants) (sym one);
      prints = ap (λ (l : Led Gone). printed l.result.state) one ∙ (sym byte_is ∙ is);
      leaves = leaves ∙ ap (λ (l : Led Gone). taken l.result.state) (sym one);
    }

-- Steps at once.
pub stretch_prints : (cycles : ℕ) (s now : McuState) (steps : ℕ) (byte : Option ℕ) (end : Option RunEnd) (told : Told) → s.devices.cycles < cycles → IsStretch cycles s steps byte end now
    → LastPrints cycles byte s told now told
stretch_prints cycles s now steps byte end told below it = stretch_by cycles steps s it.left now byte told below it.goes it.prints it.leaves
