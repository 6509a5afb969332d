-- Closing only adds to what happened.
use Rattle.std.proofs.Common.{◌≡◌, ◌≤◌, ℕ, ◌∷◌, Bool, length, arith}
use Rattle.chip_sheet.specs.Past.{Past}
use Rattle.chip_sheet.specs.declared.event.Entry.{Entry}
use Rattle.chip_shared.specs.State.{State}
use Rattle.chip_shared.specs.Closing.{Closes}
use Rattle.chip_shared.specs.declared.closing.Closing.{Closing}
use Rattle.board_sim.proofs.Kept.{Effect, IsKept, closes_keep}

abbrev Longer : {L : Type 0} → State L → State L → Type 0
Longer old new = length old.log.past ≤ length new.log.past

same_past : (old new : Past) → new ≡ old → length old ≤ length new
same_past old new same = rw same (omega arith)

one_more : (old new : Past) (entry : Entry) → new ≡ entry ∷ old → length old ≤ length new
one_more old new entry is = rw is (omega arith)

longer : {L : Type 0} (effect : Effect L) → IsKept effect (λ old new. Longer old new)
longer effect = record {
  same = λ s. omega arith;
  also = λ a b c one two. omega (arith, one, two);
  refused = λ old new it. same_past old.log.past new.log.past it.past;
  idled = λ old does new it. one_more old.log.past new.log.past _ it.past;
  called = λ old place does new it. one_more old.log.past new.log.past _ it.past;
}

pub closing_adds : {L : Type 0} (effect : Effect L) (more n : ℕ) (faulted : Bool) (old : State L) (answer : Closing) (new : State L)
    → Closes effect more n faulted old answer new → length old.log.past ≤ length new.log.past
closing_adds effect more n faulted old answer new it = closes_keep effect (λ old new. Longer old new) (longer effect) more n faulted old answer new it
