-- Steps of a run, as its loop makes them, are steps of the schedule.
use Rattle.std.proofs.Common.{◌≡◌, ◌⊎◌, inl, inr, ℕ, zero, suc, ◌+◌, ◌<◌, ◌≤◌, Bool, true, false, List, [], ◌∷◌, ◌++◌, Option, Some, None, if◌then◌else◌, nat_le, refl, sym, ap, subst, ◌∙◌, append_assoc, append-nil, arith}
use Rattle.std.proofs.lemmas.Bool.Decides.{nat_tests}
use Rattle.board_bus.specs.declared.event.BusEvent.{BusEvent}
use Rattle.chip_sheet.specs.declared.event.Entry.TheVariants.{Bus}
use Rattle.chip_sheet.specs.Answers.{answer}
use Rattle.avr_core.specs.Ask.{Give, Call}
use Rattle.avr_space.specs.Peer.{AnswerTo, OfBus}
use Rattle.avr_mcu.specs.Run.{at_limit, byte_of, end_of}
use Rattle.avr_mcu.specs.State.{McuState, printed, taken}
use Rattle.avr_mcu.specs.Step.{Gone, gone, stepped}
use Rattle.avr_mcu.specs.Stretch.{IsMove, GoesOn}
use Rattle.avr_mcu.specs.declared.run.RunEnd as firmware
use Rattle.avr_mcu.specs.declared.run.RunEnd.TheVariants as firmwares
use Rattle.avr_mcu.specs.declared.went.McuWent.{McuWent}
use Rattle.avr_mcu.specs.declared.went.McuWent.TheVariants.{Ran, Asleep, Served, Break, Sleep, BusOver, Stop}
use Rattle.avr_run.specs.Steps.{IsStep, IsStretch, Functional, Played, played, instructions_of}
use Rattle.avr_run.proofs.Played.{plays-by}
use Rattle.avr_mcu.specs.Answers.{first_wanted}
use Rattle.board_sim.specs.Boards.{Board, answers, next, counted, is_refused}
use Rattle.board_sim.specs.Sweeps.{Swept, rested, whole}
use Rattle.board_sim.specs.Schedule.{Standing, Turn, GoesTo, turn, turned}
use Rattle.board_sim.specs.Seats.{Seat, seen, wanted_of, IsWell}
use Rattle.board_sim.specs.Playing.{Printed, Prints, Settles, CutAt, Walked, WalkedTo, Goes, IsReady, later, standing}
use Rattle.board_sim.specs.declared.play.Cut.{Cut}
use Rattle.board_sim.specs.declared.play.Cut.TheVariants as cuts
use Rattle.board_sim.proofs.Rested.{not_due, rested_not}
use Rattle.board_sim.proofs.Printing.{prints_none, prints_more}

-- Bytes that were printed before.
abbrev ahead : List ℕ → Standing → Standing
ahead serial a = record a { serial = serial ++ a.serial }

goes_ahead : (serial : List ℕ) (steps cycles : ℕ) (a z : Standing) → GoesTo steps cycles a z → GoesTo steps cycles (ahead serial a) (ahead serial z)
goes_ahead serial zero cycles a z goes = ap (ahead serial) goes
goes_ahead serial (suc more) cycles a z goes =
    let t = turn cycles a.state a.board in
    let bytes = byte_of (printed t.state) in
    let mid : Standing = record { state = taken t.state; board = (rested t.board).board; serial = a.serial ++ bytes } in (
      goes.0,
      (goes.1.0, subst (λ (xs : List ℕ). GoesTo more cycles (standing mid.state mid.board xs) (ahead serial z)) (sym (append_assoc serial a.serial bytes)) (goes_ahead serial more cycles mid z goes.1.1)),
    )

-- Steps, and more from where they lead.
goes_then : (steps more cycles : ℕ) (a m z : Standing) → GoesTo steps cycles a m → GoesTo more cycles m z → GoesTo (steps + more) cycles a z
goes_then zero more cycles a m z first second =
    let none : more ≡ zero + more = omega arith in
    subst (λ n. GoesTo n cycles a z) none (subst (λ (x : Standing). GoesTo more cycles x z) first second)
goes_then (suc steps) more cycles a m z first second =
    let t = turn cycles a.state a.board in
    let mid : Standing = record { state = taken t.state; board = (rested t.board).board; serial = a.serial ++ byte_of (printed t.state) } in
    let one : suc (steps + more) ≡ suc steps + more = omega arith in
    subst (λ n. GoesTo n cycles a z) one (first.0, (first.1.0, goes_then steps more cycles mid m z first.1.1 second))

-- The same where the later ones are told with what they print alone.
goes_behind : (steps more cycles : ℕ) (a m z : Standing) → GoesTo steps cycles a m → GoesTo more cycles (standing m.state m.board []) z → GoesTo (steps + more) cycles a (ahead m.serial z)
goes_behind steps more cycles a m z first second =
    goes_then steps more cycles a m (ahead m.serial z) first
    (subst (λ (xs : List ℕ). GoesTo more cycles (standing m.state m.board xs) (ahead m.serial z)) (append-nil m.serial) (goes_ahead m.serial more cycles (standing m.state m.board []) z second))

-- Steps that do not end a run, and what comes behind them.
pub walked_goes : (cut : Option Cut) (cycles : ℕ) (s m now : McuState) (b c left : Board) (old mid new : Printed) → Walked cycles s b m c old mid → Goes cut cycles m c now left mid new
    → Goes cut cycles s b now left old new
walked_goes None cycles s m now b c left old mid new way goes = record {
  steps = way.steps + goes.steps;
  serial = way.serial ++ goes.serial;
  goes = goes_behind way.steps goes.steps cycles (standing s b []) (standing m c way.serial) (standing now left goes.serial) way.goes goes.goes;
  prints = prints_more old mid new way.serial goes.serial way.prints goes.prints;
}
walked_goes (Some cut) cycles s m now b c left old mid new way goes = record {
  steps = way.steps + goes.steps;
  at = ahead way.serial goes.at;
  goes = goes_behind way.steps goes.steps cycles (standing s b []) (standing m c way.serial) goes.at way.goes goes.goes;
  mid = goes.mid;
  prints = prints_more old mid goes.mid way.serial goes.at.serial way.prints goes.prints;
  cuts = goes.cuts;
}

-- A step of the schedule, told by what it comes to.
abbrev at_turn : McuState → Board → Option firmware.RunEnd → Turn
at_turn s b end = record { state = s; board = b; end = end }

one_goes : (cycles : ℕ) (s l now : McuState) (b c left : Board) (end : Option firmware.RunEnd) → turn cycles s b ≡ at_turn l c end → end ≡ None → rested c ≡ whole left → now ≡ taken l
    → GoesTo 1 cycles (standing s b []) (standing now left (byte_of (printed l)))
one_goes cycles s l now b c left end is on rests leaves =
    let bytes = byte_of (printed l) in
    subst
    (λ (t : Turn). (t.end ≡ None) × (((rested t.board).cut ≡ false) × (standing now left bytes ≡ record { state = taken t.state; board = (rested t.board).board; serial = [] ++ byte_of (printed t.state) })))
    (sym is)
    (on, (ap (λ (r : Swept). r.cut) rests, ap (λ (x : McuState). standing x left bytes) leaves ∙ ap (λ (r : Swept). standing (taken l) r.board bytes) (sym rests)))

-- A step that is the last.
at_once : (cut : Cut) (cycles : ℕ) (s now : McuState) (b left : Board) (old new : Printed) → CutAt cut cycles s b now left old new → WalkedTo cut cycles s b now left old new
at_once cut cycles s now b left old new cuts = record { steps = 0; at = standing s b []; goes = refl; mid = old; prints = prints_none old; cuts = cuts }

-- What comes behind the events of a step is a step of the schedule.
pub settled_goes : (cut : Option Cut) (cycles : ℕ) (s l now : McuState) (b q left : Board) (n : ℕ) (end : Option firmware.RunEnd) (old new : Printed) → turn cycles s b ≡ at_turn l (later n q) end → now ≡ taken l
    → Settles q n (printed l) end cut left old new → Goes cut cycles s b now left old new
settled_goes None cycles s l now b q left n end old new is leaves it = record {
  steps = 1;
  serial = byte_of (printed l);
  goes = one_goes cycles s l now b (later n q) left end is it.0 it.1.0 leaves;
  prints = it.1.1;
}
settled_goes (Some (cuts.Step e)) cycles s l now b q left n end old new is leaves it =
    at_once (cuts.Step e) cycles s now b left old new
    (subst (λ (t : Turn). (t.end ≡ Some e) × ((left ≡ t.board) × ((now ≡ taken t.state) × Prints old (byte_of (printed t.state)) new))) (sym is) (it.0, (it.1.0, (leaves, it.1.1))))
settled_goes (Some cuts.TraceFull) cycles s l now b q left n end old new is leaves it =
    at_once cuts.TraceFull cycles s now b left old new
    (subst (λ (t : Turn). (t.end ≡ None) × ((rested t.board ≡ record { board = left; cut = true }) × ((now ≡ taken t.state) × Prints old (byte_of (printed t.state)) new))) (sym is) (it.0, (it.1.0, (leaves, it.1.1))))
settled_goes (Some cuts.WriteFault) cycles s l now b q left n end old new is leaves it =
    at_once cuts.WriteFault cycles s now b left old new
    (subst (λ (t : Turn). (byte : ℕ) × ((printed t.state ≡ Some byte) × ((left ≡ t.board) × Prints old [] new))) (sym is) (it.0, (it.1.0, (it.1.1.0, it.1.1.1))))
settled_goes (Some cuts.NoMemory) cycles s l now b q left n end old new is leaves it =
    at_once cuts.NoMemory cycles s now b left old new
    (subst (λ (t : Turn). Prints old [] new ⊎ Prints old (byte_of (printed t.state)) new) (sym is) it)

-- A step over the board, where no event was refused for want of memory.
turn_is : (did : Seat → (c : BusEvent) → AnswerTo c → Seat → Type 0) (cycles : ℕ) (s now : McuState) (p q : Seat) (went : McuWent) (byte : Option ℕ) (end : Option firmware.RunEnd)
    → ((p : Seat) (c : BusEvent) (a : AnswerTo c) (q : Seat) → did p c a q → IsWell q → Functional seen IsWell answers next p c a q)
    → (step : IsStep did cycles s p q (wanted_of q.refused) went byte end now) → IsWell q
    → turn cycles s (seen p) ≡ at_turn step.left (later (instructions_of went) (seen q)) end
unfolding turn
turn_is did cycles s now p q went byte end law step well =
    let to = plays-by did seen IsWell answers next law (stepped s) p q (gone went step.left) step.plays well in
    let by : Played Board Gone = played answers next (stepped s) (seen p) in
    ap (λ (r : Gone). turned cycles (record { result = r; bus = by.bus })) (sym to.result)
    ∙ ap (λ (b : Board). turned cycles (record { result = gone went step.left; bus = b })) (sym to.bus)
    ∙ ap (λ (e : Option firmware.RunEnd). at_turn step.left (later (instructions_of went) (seen q)) e) (sym step.ends)

-- Where one was, nothing was printed.
pub turn_goes : (did : Seat → (c : BusEvent) → AnswerTo c → Seat → Type 0) (cut : Option Cut) (cycles : ℕ) (s m now : McuState) (p q : Seat) (left : Board) (went : McuWent) (byte : Option ℕ) (end : Option firmware.RunEnd) (old new : Printed)
    → ((p : Seat) (c : BusEvent) (a : AnswerTo c) (q : Seat) → did p c a q → IsWell q → Functional seen IsWell answers next p c a q)
    → IsStep did cycles s p q (wanted_of q.refused) went byte end m → now ≡ m → IsWell q ⊎ ((cut ≡ Some cuts.NoMemory) × Prints old [] new)
    → Settles (seen q) (instructions_of went) byte end cut left old new → Goes cut cycles s (seen p) now left old new
turn_goes did cut cycles s m now p q left went byte end old new law step same (inl well) it =
    settled_goes cut cycles s step.left now (seen p) (seen q) left (instructions_of went) end old new (turn_is did cycles s m p q went byte end law step well) (same ∙ step.leaves)
    (subst (λ (x : Option ℕ). Settles (seen q) (instructions_of went) x end cut left old new) step.prints it)
turn_goes did cut cycles s m now p q left went byte end old new law step same (inr none) it =
    subst (λ (x : Option Cut). Goes x cycles s (seen p) now left old new) (sym none.0) (at_once cuts.NoMemory cycles s now (seen p) left old new (inl none.1))

-- A step that asks nothing.
moved_by : (asleep : Bool) (cycles : ℕ) (t : McuState) (b : Board) → b.wanted ≡ None
    → turned cycles (record { result = gone (if asleep then Asleep else Ran) t; bus = b }) ≡ at_turn t (later 1 b) (at_limit cycles t.devices.cycles)
moved_by true cycles t b none = ap (λ (w : Option BusEvent). at_turn t (later 1 b) (end_of w Asleep cycles t.devices.cycles)) none
moved_by false cycles t b none = ap (λ (w : Option BusEvent). at_turn t (later 1 b) (end_of w Ran cycles t.devices.cycles)) none

move_is : (cycles : ℕ) (byte : Option ℕ) (s t : McuState) (b : Board) → b.wanted ≡ None → IsMove cycles byte s t → turn cycles s b ≡ at_turn t (later 1 b) (at_limit cycles t.devices.cycles)
unfolding turn
move_is cycles byte s t b none move = ap (λ (tree : OfBus Gone). turned cycles (played answers next tree b)) move.is ∙ moved_by s.asleep cycles t b none

below_limit : (cycles at : ℕ) → at < cycles → at_limit cycles at ≡ None
below_limit cycles at below =
    let no : nat_le cycles at ≡ false = grind (arith, nat_tests) in
    ap (λ (x : Bool). if x then Some firmwares.CycleLimit else None) no

still_taken : (s : McuState) → printed s ≡ None → s ≡ taken s
still_taken s none = ap (λ (byte : Option ℕ). record s { devices = record s.devices { serial = record s.devices.serial { usart = record s.devices.serial.usart { printed = byte } } } }) none

later_one : (k : ℕ) (b : Board) → later 1 (later k b) ≡ later (suc k) b
later_one k b =
    let one : b.steps + k + 1 ≡ b.steps + suc k = omega arith in
    ap (λ (n : ℕ). record b { steps = n }) one

-- Steps that ask nothing and print nothing, between which no sweep is due.
quiet_goes : (cycles k : ℕ) (s t : McuState) (b : Board) → b.wanted ≡ None → b.bytes < 8 → b.steps + k < 1024 → printed s ≡ None → GoesOn cycles k s t → t.devices.cycles < cycles → printed t ≡ None
    → GoesTo k cycles (standing s b []) (standing t (later k b) [])
quiet_goes cycles zero s t b unasked bytes steps none goes below still =
    let same : b.steps + 0 ≡ b.steps = omega arith in
    ap (λ (x : McuState). standing x (later 0 b) []) goes ∙ ap (λ (n : ℕ). standing s (record b { steps = n }) []) same
quiet_goes cycles (suc k) s t b unasked bytes steps none goes below still =
    let mid : McuState = goes.0 in
    let way = quiet_goes cycles k s mid b unasked bytes (omega (arith, steps)) none goes.1 goes.2.below (goes.2.still ∙ none) in
    let end : Option firmware.RunEnd = at_limit cycles t.devices.cycles in
    let is : turn cycles mid (later k b) ≡ at_turn t (later (suc k) b) end =
    move_is cycles (printed s) mid t (later k b) unasked goes.2 ∙ ap (λ (c : Board). at_turn t c end) (later_one k b) in
    let last : GoesTo 1 cycles (standing mid (later k b) []) (standing t (later (suc k) b) (byte_of (printed t))) =
    one_goes cycles mid t t (later k b) (later (suc k) b) (later (suc k) b) end is (below_limit cycles t.devices.cycles below) (rested_not (later (suc k) b) (not_due (later (suc k) b) bytes steps)) (still_taken t still) in
    let one : k + 1 ≡ suc k = omega arith in
    subst (λ n. GoesTo n cycles (standing s b []) (standing t (later (suc k) b) [])) one
    (goes_then k 1 cycles (standing s b []) (standing mid (later k b) []) (standing t (later (suc k) b) []) way
    (subst (λ (x : Option ℕ). GoesTo 1 cycles (standing mid (later k b) []) (standing t (later (suc k) b) (byte_of x))) still last))

-- A stretch that made steps.
pub stretch_goes : (cut : Option Cut) (cycles steps : ℕ) (s m now : McuState) (b left : Board) (byte : Option ℕ) (end : Option firmware.RunEnd) (old new : Printed) → IsReady cycles s b → 1 ≤ steps → b.steps + steps ≤ 1024
    → IsStretch cycles s steps byte end m → now ≡ m → Settles b steps byte end cut left old new → Goes cut cycles s b now left old new
stretch_goes cut cycles zero s m now b left byte end old new ready some most made same it = absurd (omega (arith, some))
stretch_goes cut cycles (suc k) s m now b left byte end old new ready some most made same it =
    let mid : McuState = made.goes.0 in
    let move : IsMove cycles (printed s) mid made.left = made.goes.2 in
    let way : Walked cycles s b mid (later k b) old old = record {
      steps = k;
      serial = [];
      goes = quiet_goes cycles k s mid b ready.none_wanted ready.bytes (omega (arith, most)) ready.still made.goes.1 move.below (move.still ∙ ready.still);
      prints = prints_none old;
    } in
    let is : turn cycles mid (later k b) ≡ at_turn made.left (later (suc k) b) end =
    move_is cycles (printed s) mid made.left (later k b) ready.none_wanted move
    ∙ ap (λ (c : Board). at_turn made.left c (at_limit cycles made.left.devices.cycles)) (later_one k b)
    ∙ ap (λ (e : Option firmware.RunEnd). at_turn made.left (later (suc k) b) e) (sym made.ends) in
    walked_goes cut cycles s mid now b (later k b) left old old new way
    (settled_goes cut cycles mid made.left now (later k b) b left (suc k) end old new is (same ∙ made.leaves)
    (subst (λ (x : Option ℕ). Settles b (suc k) x end cut left old new) made.prints it))

-- A step counts one instruction at most, and its events none.
pub one_at_most : (went : McuWent) → instructions_of went ≤ 1
one_at_most Ran = omega arith
one_at_most Asleep = omega arith
one_at_most Served = omega arith
one_at_most Break = omega arith
one_at_most Sleep = omega arith
one_at_most BusOver = omega arith
one_at_most (Stop stop) = omega arith

steps_either : (refused : Bool) (b c : Board) (n : ℕ) → b.steps ≡ n → c.steps ≡ n → (if refused then b else c).steps ≡ n
steps_either true b c n first second = first
steps_either false b c n first second = second

next_steps : (b : Board) (c : BusEvent) → (next b c).steps ≡ b.steps
unfolding next
next_steps b c =
    steps_either (is_refused b c) (record b { wanted = first_wanted c b.wanted }) (record b { past = Bus c (answer b.starts b.past c) ∷ b.past; bytes = b.bytes + counted c }) b.steps refl refl

played_steps : {R : Type 0} (tree : OfBus R) (b : Board) → (played answers next tree b).bus.steps ≡ b.steps
played_steps (Give r) b = refl
played_steps (Call c go) b = played_steps (go (answers b c)) (next b c) ∙ next_steps b c

pub turn_counts : (did : Seat → (c : BusEvent) → AnswerTo c → Seat → Type 0) (cycles : ℕ) (s now : McuState) (p q : Seat) (went : McuWent) (byte : Option ℕ) (end : Option firmware.RunEnd)
    → ((p : Seat) (c : BusEvent) (a : AnswerTo c) (q : Seat) → did p c a q → IsWell q → Functional seen IsWell answers next p c a q)
    → IsStep did cycles s p q (wanted_of q.refused) went byte end now → IsWell q → q.steps ≡ p.steps
turn_counts did cycles s now p q went byte end law step well =
    let to = plays-by did seen IsWell answers next law (stepped s) p q (gone went step.left) step.plays well in
    ap (λ (b : Board). b.steps) to.bus ∙ played_steps (stepped s) (seen p)
