-- Steps that ask nothing are steps of the run.
use Rattle.std.proofs.Common.{◌≡◌, ℕ, zero, suc, ◌+◌, ◌≤◌, ◌<◌, Bool, true, false, List, [], ◌++◌, Option, Some, None, if◌then◌else◌, nat_le, Result, Ok, Err, append-nil, refl, sym, ap, subst, ◌∙◌, arith}
use Rattle.std.specs.Prelude.{IfOk}
use Rattle.std.proofs.lemmas.Bool.Decides.{nat_tests}
use Rattle.avr_core.specs.Ask.{Give}
use Rattle.avr_mcu.specs.Answers.{Led, Listed, led}
use Rattle.avr_mcu.specs.Hurry.{hurried, RunHurries, IsHurry, GoesFurther, Rounds}
use Rattle.avr_mcu.specs.Run.{Outcome, end_by, end_of, byte_of, at_limit, after, run}
use Rattle.avr_mcu.specs.State.{McuState, printed, taken}
use Rattle.avr_mcu.specs.Step.{Gone, gone, stepped}
use Rattle.avr_mcu.specs.Stretch.{IsMove, GoesOn}
use Rattle.avr_mcu.specs.Turn.{IsTurn, IsRun}
use Rattle.avr_mcu.specs.declared.run.RunEnd.{RunEnd}
use Rattle.avr_mcu.specs.declared.run.RunEnd.TheVariants as ends
use Rattle.avr_mcu.specs.declared.went.McuWent.{McuWent}
use Rattle.avr_mcu.specs.declared.went.McuWent.TheVariants.{Ran, Asleep}
use Rattle.board_bus.specs.declared.event.BusAnswer.{BusAnswer}
use Rattle.avr_mcu.proofs.Fuel.{below-limit, by_end, run-by-end}
use Rattle.avr_mcu.proofs.Turns.{after-after, turn-goes, turn-ends}

pace-end : (asleep : Bool) (limit cycles : ℕ) → end_by (if asleep then Asleep else Ran) limit cycles ≡ at_limit limit cycles
pace-end true limit cycles = refl
pace-end false limit cycles = refl

-- A run by its first step, as a function of where that leads.
run_by : ℕ → Led Gone → Outcome
run_by limit l = by_end (end_of l.wants l.result.went limit l.result.state.devices.cycles) l (run limit (taken l.result.state) l.left)

gone-hurried : (end : Option RunEnd) (limit : ℕ) (went : McuWent) (t : McuState) (xs : List BusAnswer)
    → by_end end (led (Give (gone went t)) xs) (run limit (taken t) xs) ≡ hurried end limit t xs
gone-hurried (Some end) limit went t xs = refl
gone-hurried None limit went t xs = refl

one-hurried : (limit : ℕ) (byte : Option ℕ) (s t : McuState) (xs : List BusAnswer) → IsMove limit byte s t → run limit s xs ≡ hurried (at_limit limit t.devices.cycles) limit t xs
unfolding run_by
one-hurried limit byte s t xs move =
    let went : McuWent = if s.asleep then Asleep else Ran in
    run-by-end limit s xs
    ∙ (ap (λ tree. run_by limit (led tree xs)) move.is
    ∙ (ap (λ end. by_end end (led (Give (gone went t)) xs) (run limit (taken t) xs)) (pace-end s.asleep limit t.devices.cycles)
    ∙ gone-hurried (at_limit limit t.devices.cycles) limit went t xs))

-- Below the limit the run goes on; with nothing printed it is the run from there.
below-none : (b : Bool) (limit cycles : ℕ) → nat_le limit cycles ≡ b → cycles < limit → (if b then Some ends.CycleLimit else None) ≡ None
below-none true limit cycles is below = absurd (grind (arith, nat_tests))
below-none false limit cycles is below = refl

unprinted : (t : McuState) → printed t ≡ None → taken t ≡ t
unprinted t none = ap (λ byte. record t { devices = record t.devices { serial = record t.devices.serial { usart = record t.devices.serial.usart { printed = byte } } } }) (sym none)

silent : (limit : ℕ) (t : McuState) (xs : List BusAnswer) → printed t ≡ None → t.devices.cycles < limit → hurried (at_limit limit t.devices.cycles) limit t xs ≡ run limit t xs
silent limit t xs none below =
    ap (λ end. hurried end limit t xs) (below-none (nat_le limit t.devices.cycles) limit t.devices.cycles refl below)
    ∙ (ap (λ byte. after [] (byte_of byte) (run limit (taken t) xs)) none
    ∙ ap (λ (m : McuState). run limit m xs) (unprinted t none))

same-run : (limit k : ℕ) (s t : McuState) (xs : List BusAnswer) → printed s ≡ None → GoesOn limit k s t → printed t ≡ None → t.devices.cycles < limit → run limit s xs ≡ run limit t xs
same-run limit zero s t xs none goes still below = ap (λ (m : McuState). run limit m xs) (sym goes)
same-run limit (suc k) s t xs none goes still below =
    same-run limit k s goes.0 xs none goes.1 (goes.2.still ∙ none) goes.2.below
    ∙ (one-hurried limit (printed s) goes.0 t xs goes.2 ∙ silent limit t xs still below)

some-hurried : (limit k : ℕ) (s t : McuState) (xs : List BusAnswer) → printed s ≡ None → GoesOn limit (suc k) s t → run limit s xs ≡ hurried (at_limit limit t.devices.cycles) limit t xs
some-hurried limit k s t xs none goes =
    same-run limit k s goes.0 xs none goes.1 (goes.2.still ∙ none) goes.2.below ∙ one-hurried limit (printed s) goes.0 t xs goes.2

pub run-hurries : RunHurries
run-hurries limit more s t xs none goes =
    let is : 1 + more ≡ suc more = omega arith in
    some-hurried limit more s t xs none (subst (λ k. GoesOn limit k s t) is goes)

-- A call of `hurry` from below the limit.
pub any-hurried : (limit k : ℕ) (s t : McuState) (xs : List BusAnswer) → printed s ≡ None → s.devices.cycles < limit → GoesOn limit k s t
    → run limit s xs ≡ hurried (at_limit limit t.devices.cycles) limit t xs
any-hurried limit zero s t xs none below goes =
    subst (λ (m : McuState). run limit s xs ≡ hurried (at_limit limit m.devices.cycles) limit m xs) (sym goes) (sym (silent limit s xs none below))
any-hurried limit (suc k) s t xs none below goes = some-hurried limit k s t xs none goes

-- Behind a turn that goes on.
hurry-rounds : (end : Option RunEnd) (limit : ℕ) (s t : McuState) (q : Listed) (bytes : List ℕ) (o : Outcome) → at_limit limit t.devices.cycles ≡ end
    → s.devices.cycles + 1 ≤ t.devices.cycles → q.wanted ≡ None → o ≡ after q.asked bytes (hurried end limit t q.left)
    → Rounds end limit s (taken t) q (bytes ++ byte_of (printed t)) o
hurry-rounds (Some end) limit s t q bytes o at rises unwanted whole = record {
  ends = sym (ap (λ x. x.end) whole);
  prints = sym (ap (λ x. x.serial) whole);
  counts = sym (ap (λ x. x.cycles) whole);
  notes = sym (ap (λ x. x.trail) whole);
  asks = sym (ap (λ x. x.asked) whole ∙ append-nil q.asked);
}
hurry-rounds None limit s t q bytes o at rises unwanted whole = record {
  rises = rises;
  below = below-limit (nat_le limit t.devices.cycles) limit t.devices.cycles refl at;
  unwanted = unwanted;
  rest = whole ∙ (after-after q.asked [] bytes (byte_of (printed t)) (run limit (taken t) q.left)
      ∙ ap (λ calls. after calls (bytes ++ byte_of (printed t)) (run limit (taken t) q.left)) (append-nil q.asked));
}

pub round-goes : (limit : ℕ) (s mid now : McuState) (p q : Listed) (serial bytes all : List ℕ) (end : Option RunEnd) (o : Outcome)
    → p.wanted ≡ None → o ≡ after p.asked serial (run limit s p.left) → IsTurn limit s p serial None mid q bytes → IsHurry limit mid bytes end now all
    → Rounds end limit s now q all o
round-goes limit s mid now p q serial bytes all end o fresh before turn hurry =
    let on : GoesFurther limit s mid q bytes o = turn-goes limit s p serial mid q bytes o turn fresh before in
    let t : McuState = hurry.reached in
    let none : printed mid ≡ None = ap printed turn.leaves in
    let whole : o ≡ after q.asked bytes (hurried (at_limit limit t.devices.cycles) limit t q.left) =
    on.rest ∙ ap (after q.asked bytes) (any-hurried limit hurry.steps mid t q.left none on.below hurry.goes) in
    let rises : s.devices.cycles + 1 ≤ t.devices.cycles = omega (arith, on.rises, hurry.rises) in
    subst (λ b. Rounds end limit s now q b o) (sym hurry.prints)
    (subst (λ m. Rounds end limit s m q (bytes ++ byte_of (printed t)) o) (sym hurry.leaves)
    (hurry-rounds end limit s t q bytes o (sym hurry.ends) rises on.unwanted (subst (λ e. o ≡ after q.asked bytes (hurried e limit t q.left)) (sym hurry.ends) whole)))

pub round-ends : (limit : ℕ) (s now : McuState) (p q : Listed) (serial bytes : List ℕ) (end : RunEnd) (o : Outcome)
    → p.wanted ≡ None → o ≡ after p.asked serial (run limit s p.left) → IsTurn limit s p serial (Some end) now q bytes → Rounds (Some end) limit s now q bytes o
round-ends limit s now p q serial bytes end o fresh before turn = turn-ends limit s p serial end now q bytes o turn fresh before

-- What follows from a value, where there is one.
pub if-ok : {A E : Type 0} (P Q : A → Type 0) (r : Result A E) → ((x : A) → P x → Q x) → IfOk r P → IfOk r Q
if-ok P Q (Ok x) follows it = follows x it
if-ok P Q (Err e) follows it = tt
