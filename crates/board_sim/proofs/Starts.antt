-- Where the positions of connections start never changes.
use Rattle.std.proofs.Common.{◌≡◌, ℕ, Bool, Option, Result, refl, ap, ◌∙◌}
use Rattle.board_bus.specs.declared.event.BusEvent.{BusEvent}
use Rattle.avr_core.specs.Ask.{Give, Call, Plays}
use Rattle.avr_space.specs.Peer.{AnswerTo, OfBus}
use Rattle.chip_shared.specs.State.{State}
use Rattle.chip_shared.specs.Closing.{Closes}
use Rattle.chip_shared.specs.Sweeping.{Sweeps}
use Rattle.chip_shared.specs.declared.shared.StepEnd.{StepEnd}
use Rattle.chip_shared.specs.declared.closing.Closing.{Closing}
use Rattle.board_sim.proofs.Kept.{Effect, IsKept, sweeps_keep, closes_keep}

-- A sweep, and closing.
starts_stay : {L : Type 0} (effect : Effect L) → IsKept effect (λ old new. new.starts ≡ old.starts)
starts_stay effect = record {
  same = λ s. refl;
  also = λ a b c one two. two ∙ one;
  refused = λ old new it. it.starts;
  idled = λ old does new it. it.starts;
  called = λ old place does new it. it.starts;
}

pub sweeps_starts : {L : Type 0} (effect : Effect L) (most : ℕ) (old : State L) (from : Option ℕ) (result : Result (Unit {0}) StepEnd) (new : State L) → Sweeps effect most old from result new
    → new.starts ≡ old.starts
sweeps_starts effect most old from result new it = sweeps_keep effect (λ old new. new.starts ≡ old.starts) (starts_stay effect) most old from result new it

pub closes_starts : {L : Type 0} (effect : Effect L) (more n : ℕ) (faulted : Bool) (old : State L) (answer : Closing) (new : State L) → Closes effect more n faulted old answer new
    → new.starts ≡ old.starts
closes_starts effect more n faulted old answer new it = closes_keep effect (λ old new. new.starts ≡ old.starts) (starts_stay effect) more n faulted old answer new it

-- The events of a step, where each of them keeps something of the world.
pub plays_keeps : {B V R : Type 0} (did : B → (c : BusEvent) → AnswerTo c → B → Type 0) (kept : B → V) (keeps : (p : B) (c : BusEvent) (a : AnswerTo c) (q : B) → did p c a q → kept q ≡ kept p)
    (tree : OfBus R) (before : B) (result : R) (after : B) → Plays did before tree result after → kept after ≡ kept before
plays_keeps did kept keeps (Give r) before result after it = ap kept it.1
plays_keeps did kept keeps (Call c next) before result after (answer, between, one, rest) =
    plays_keeps did kept keeps (next answer) between result after rest ∙ keeps before c answer between one
