-- Seats of one part, step by step through a turn, and what two of them know of the state that they leave.
use Rattle.std.specs.Prelude.{◌≡◌, ◌<◌, ◌≤◌, ◌^◌, ℕ, ◌+◌, [], ◌∷◌, ◌⊎◌, Option, Some, None, length}
use Rattle.atomic_table.specs.Table.{Me}
use Rattle.chip_sheet.specs.declared.event.Entry.{Entry}
use Rattle.chip_sheet.specs.declared.event.Entry.TheVariants.{Rest}
use Rattle.chip_sheet.specs.declared.stop.ChipStop.{ChipStop}
use Rattle.chip_sheet.specs.Past.{GoesOn}
use Rattle.chip_lock.specs.declared.over.Over.{Over}
use Rattle.chip_lock.specs.declared.over.Over.TheVariants.{Stopped}
use Rattle.chip_lock.specs.declared.table.Stage.TheVariants.{Idle, Waiting, Inside}
use Rattle.chip_lock.specs.declared.table.View.{View}
use Rattle.chip_lock.specs.Causes.{Names, Owns, StopsHere, WereFound}
use Rattle.chip_lock.specs.Lists.{IsWoven}
use Rattle.chip_lock.specs.Plays.{Slot}
use Rattle.chip_lock.specs.Standing.{KeptState, past_of}
use Rattle.chip_lock.specs.Views.{inside, starts_in, terms_of}

-- A seat of one part between two turns.
pub record Resting {L : Type 0} (me : Me (Slot L) View) : Type 0 where
  pub empty : me.1 ≡ []
  pub idle : me.0.stage ≡ Idle
  pub one : me.0.parts ≡ 1

-- A seat that waits with this ticket.
pub record IsWaiting {L : Type 0} (me : Me (Slot L) View) (t : ℕ) : Type 0 where
  pub empty : me.1 ≡ []
  pub waits : me.0.stage ≡ Waiting t
  pub one : me.0.parts ≡ 1

-- What a pass rests on.
pub record IsPass {L : Type 0} (me : Me (Slot L) View) (ended : Option Over) : Type 0 where
  pub rests : Resting me
  pub runs : ended ≡ None → me.0.runs ≡ 1
  pub same_end : me.0.ended ≡ ended

-- The seat is in its turn with the slot, and the state is taken out of that: its past goes on from all that the seat had seen.
pub record IsInside {L : Type 0} (me : Me (Slot L) View) (k : KeptState L) (me' : Me (Slot L) View) : Type 0 where
  pub view : me'.0 ≡ inside me.0 (length (past_of k)) k
  pub slot : me'.1 ≡ (0, None) ∷ []
  pub later : GoesOn me.0.seen (past_of k)
  pub live : me.0.runs ≤ k.live
  pub terms : terms_of k.state ≡ me.0.terms

-- A seat in its turn, with the slot from which the state was taken.
pub record IsOut {L : Type 0} (me : Me (Slot L) View) : Type 0 where
  pub slot : me.1 ≡ (0, None) ∷ []
  pub inside : me.0.stage ≡ Inside (length me.0.seen)
  pub one : me.0.parts ≡ 1

-- A seat in its turn may leave this state: one entry was added to what it found, as in each turn.
pub record MayLeave {L : Type 0} (v : View) (k : KeptState L) : Type 0 where
  pub entry : Entry
  pub adds : past_of k ≡ entry ∷ v.seen
  pub terms : terms_of k.state ≡ v.terms
  pub keeps : Names k.cause v.cause
  pub rests : (c : Over) → v.cause ≡ Some c → entry ≡ Rest
  pub stops : (s : ChipStop) → v.cause ≡ None → k.cause ≡ Some (Stopped s) → (entry ≡ Rest) × StopsHere (starts_in v.terms) v.terms.limit v.seen k.last s
  pub short : length (past_of k) < 2 ^ 60
  pub live : v.live ≤ v.runs + k.live
  pub calls : v.calls ≤ k.state.calls

-- The state that two seats leave, with what they know of it.
pub record Gathered {L : Type 0} (v w : View) (k : KeptState L) : Type 0 where
  pub terms : terms_of k.state ≡ v.terms
  pub first : GoesOn v.seen (past_of k)
  pub second : GoesOn w.seen (past_of k)
  pub woven : IsWoven v.mine w.mine (past_of k)
  pub calls : k.state.calls ≡ v.asked + w.asked
  pub cause : Names k.cause v.ended
  pub other_cause : Names k.cause w.ended
  pub found : WereFound k.state.starts k.state.log.limit (past_of k) v.found
  pub other_found : WereFound k.state.starts k.state.log.limit (past_of k) w.found
  pub origin : (c : Over) → k.cause ≡ Some c → Owns c v.found v.gave ⊎ Owns c w.found w.gave
