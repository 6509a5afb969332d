-- Closing makes no event of the bus, and how a run ends behind it.
use Rattle.std.proofs.Common.{◌≡◌, ◌⊎◌, inl, inr, ℕ, ◌/◌, true, false, ◌∷◌, Option, None, Some, refl, sym, ap, ◌∙◌, subst, arith}
use Rattle.board_bus.specs.declared.event.BusEvent.{BusEvent}
use Rattle.chip_sheet.specs.declared.event.Entry.{Entry}
use Rattle.chip_sheet.specs.Windows.{flight}
use Rattle.chip_sheet.specs.LinkCalls.{due_at}
use Rattle.chip_sheet.specs.LinkAnswers.{entry_by}
use Rattle.link_trait.specs.Shown.{Shown}
use Rattle.avr_mcu.specs.declared.run.RunEnd.TheVariants as firmwares
use Rattle.avr_run.specs.Told.{EndWants}
use Rattle.chip_shared.specs.State.{State}
use Rattle.chip_shared.specs.Calling.{Called}
use Rattle.chip_shared.specs.Closing.{Closes, Leaves}
use Rattle.chip_shared.specs.declared.shared.LinkDid.{LinkDid}
use Rattle.chip_shared.specs.declared.closing.Closing.{Closing}
use Rattle.chip_shared.specs.declared.closing.Closing.TheVariants as closings
use Rattle.chip_lock.specs.declared.over.Over.{Over}
use Rattle.chip_lock.specs.declared.over.Over.TheVariants.{Stopped, TraceFull, NoMemory, PollFault, Finished}
use Rattle.board_sim.specs.Exchanges.{asked_of, answers_of}
use Rattle.board_sim.specs.declared.end.RunEnd.{RunEnd}
use Rattle.board_sim.specs.declared.end.RunEnd.TheVariants as ends
use Rattle.board_sim.proofs.Kept.{Effect, IsKept, closes_keep}
use Rattle.board_sim.proofs.Quiet.{IsQuiet, quiet_by, asked_quiet, answers_quiet}
use Rattle.board_run.specs.declared.firmware.Cut.{Cut}
use Rattle.board_run.specs.declared.firmware.Cut.TheVariants as cuts
use Rattle.board_run.specs.declared.wire.Unanswered.{Unanswered}
use Rattle.board_run.specs.Wires.{wanted_of}
use Rattle.board_run.specs.Lives.{IsClosing}
use Rattle.board_run.specs.Closing.{CauseOf, CausedBy, EndedFor, EndsWith, IsEnd, IsNotFinished, StallsOnly}

-- What no link step changes.
pub record Still {L : Type 0} (old new : State L) : Type 0 where
  pub asked : asked_of new.log.past ≡ asked_of old.log.past
  pub answers : answers_of new.log.past ≡ answers_of old.log.past
  pub starts : new.starts ≡ old.starts
  pub limit : new.log.limit ≡ old.log.limit

entry_still : {L : Type 0} (old new : State L) (entry : Entry) → IsQuiet entry → new.log.past ≡ entry ∷ old.log.past → new.starts ≡ old.starts → new.log.limit ≡ old.log.limit → Still old new
entry_still old new entry quiet is starts limit = record {
  asked = ap asked_of is ∙ asked_quiet entry old.log.past quiet;
  answers = ap answers_of is ∙ answers_quiet entry old.log.past quiet;
  starts = starts;
  limit = limit;
}

called_still : {L : Type 0} (effect : Effect L) (old : State L) (place : ℕ) (does : LinkDid) (new : State L) → Called effect old place does new → Still old new
called_still effect old place does new it =
    entry_still old new (entry_by (place / 2) (flight old.starts old.log.past (place / 2)) (due_at old.starts old.log.past place) it.answer)
    (quiet_by (place / 2) (flight old.starts old.log.past (place / 2)) (due_at old.starts old.log.past place) it.answer) it.past it.starts it.limit

still_kept : {L : Type 0} (effect : Effect L) → IsKept effect Still
still_kept effect = record {
  same = λ s. record { asked = refl; answers = refl; starts = refl; limit = refl };
  also = λ a b c one two. record {
    asked = two.asked ∙ one.asked;
    answers = two.answers ∙ one.answers;
    starts = two.starts ∙ one.starts;
    limit = two.limit ∙ one.limit;
  };
  refused = λ old new it. record { asked = ap asked_of it.past; answers = ap answers_of it.past; starts = it.starts; limit = it.limit };
  idled = λ old does new it. record { asked = ap asked_of it.past; answers = ap answers_of it.past; starts = it.starts; limit = it.limit };
  called = called_still effect;
}

pub closing_still : {L : Type 0} (effect : Effect L) (old : State L) (answer : Closing) (new : State L) → Closes effect 8 0 false old answer new → Still old new
closing_still effect old answer new it = closes_keep effect Still (still_kept effect) 8 0 false old answer new it

-- Bytes stay in flight only where a write stalled, unless memory was missing.
pub closing_stalls : {L : Type 0} (shown : L → Shown) (answer : Closing) (before : Shown) (now : State L) → (answer ≡ closings.NoMemory → ⊥) → Leaves answer before now (shown now.links) → StallsOnly shown now
closing_stalls shown closings.Clear before now other it = λ room n few some. let none = it n few in absurd (omega (arith, some, none))
closing_stalls shown closings.Waiting before now other it = λ room n few some. (it.1.1 n few some).life
closing_stalls shown closings.Faulted before now other it = λ room n few some. (it.1.1 n few some).life
closing_stalls shown closings.Full before now other it = λ room n few some. let h : true ≡ false = sym it.1 ∙ room in absurd (cc)
closing_stalls shown closings.NoMemory before now other it = absurd (other refl)

-- Behind closing.
pub closed_stalls : (S : Type 0) (own end : RunEnd) → (end ≡ ends.NoMemory) ⊎ (end ≡ own) → (end ≡ own → (own ≡ ends.NoMemory → ⊥) → S) → (own ≡ ends.NoMemory → ⊥) → IsClosing end → S
closed_stalls S own end (inl none) stalls other closing = absurd (rw none at closing)
closed_stalls S own end (inr same) stalls other closing = stalls same other

-- No closing is made for a cause of the turns.
pub ended_open : (why : Over) (end : RunEnd) → EndedFor why end → IsClosing end → ⊥
ended_open (Stopped s) end is closing = rw is at closing
ended_open TraceFull end is closing = rw is at closing
ended_open NoMemory end is closing = rw is at closing
ended_open PollFault end is closing = rw is at closing
ended_open Finished end is closing = is

-- An end for a cause, with the cause.
pub ends_with : {L : Type 0} (cut : Cut) (refused : Option Unanswered) (old : State L) (end : RunEnd) (new : State L) (before after : ℕ) → IsEnd cut refused old end new → CauseOf refused old before after
    → EndsWith cut refused new before after end
ends_with (cuts.Step firmwares.Break) refused old end new before after it cause = it
ends_with (cuts.Step firmwares.Sleep) refused old end new before after it cause = it
ends_with (cuts.Step firmwares.CycleLimit) refused old end new before after it cause = it
ends_with (cuts.Step (firmwares.Stop why)) refused old end new before after it cause = it.0
ends_with (cuts.Step (firmwares.Wants c)) None old end new before after it cause = it
ends_with (cuts.Step (firmwares.Wants c)) (Some u) old end new before after it cause =
    (it.0, subst (λ (s : State _). CausedBy u.why s u.event before after) (sym it.1) cause)
ends_with cuts.WriteFault refused old end new before after it cause = it.0

-- That the run was over is no cause.
finished_never : {L : Type 0} (why : Over) (now : State L) (c : BusEvent) (before after : ℕ) → CausedBy why now c before after → why ≡ Finished → ⊥
finished_never why now c before after cause is = rw is at cause

pub not_finished : {L : Type 0} (refused : Option Unanswered) (now : State L) (before after : ℕ) → CauseOf refused now before after → IsNotFinished refused
not_finished None now before after cause = tt
not_finished (Some u) now before after cause = finished_never u.why now u.event before after cause

pub none_unstopped : {L : Type 0} (refused : Option Unanswered) (now : State L) (before after : ℕ) → CauseOf refused now before after → refused ≡ None → now.stopped ≡ None
none_unstopped refused now before after cause is = rw is at cause

-- An event got no answer exactly where the run ended by one.
pub none_refused : (refused : Option Unanswered) → wanted_of refused ≡ None → refused ≡ None
none_refused None is = refl
none_refused (Some u) is = absurd (cc)

pub wants_some : (c : BusEvent) (refused : Option Unanswered) → EndWants (firmwares.Wants c) (wanted_of refused) → refused ≡ None → ⊥
wants_some c None wants is = let h : None ≡ Some c = wants in cc
wants_some c (Some u) wants is = let h : Some u ≡ None = is in cc

-- Memory was not missing.
pub memory_enough : (answer : Closing) → (answer ≡ closings.Clear) ⊎ ((answer ≡ closings.Waiting) ⊎ ((answer ≡ closings.Faulted) ⊎ (answer ≡ closings.Full))) → answer ≡ closings.NoMemory → ⊥
memory_enough answer (inl it) is = let h = sym it ∙ is in cc
memory_enough answer (inr (inl it)) is = let h = sym it ∙ is in cc
memory_enough answer (inr (inr (inl it))) is = let h = sym it ∙ is in cc
memory_enough answer (inr (inr (inr it))) is = let h = sym it ∙ is in cc
