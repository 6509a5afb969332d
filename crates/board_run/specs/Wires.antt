-- The firmware's bus in a live run: the turns, the firmware's pass, and the first event that got no answer.
use Rattle.std.specs.Prelude.{◌≡◌, ℕ, List, [], map, Option, Some, None}
use Rattle.atomic_table.specs.Seated.{TableId}
use Rattle.board_bus.specs.declared.event.BusEvent.{BusEvent}
use Rattle.chip_sheet.specs.declared.event.Entry.{Entry}
use Rattle.chip_sheet.specs.Past.{Past}
use Rattle.avr_run.specs.Told.{Told}
use Rattle.chip_lock.specs.declared.over.Found.{Found}
use Rattle.chip_lock.specs.Passes.{PassView, StaysOf}
use Rattle.board_sim.specs.Exchanges.{asked_of, answers_of}
use Rattle.board_run.specs.declared.wire.Unanswered.{Unanswered}

pub record WireView : Type 0 where
  -- the turns
  pub turn : TableId
  -- the firmware's pass
  pub pass : PassView
  -- the first event that got no answer; none behind it gets one
  pub refused : Option Unanswered

-- Entries of a pass without their places.
abbrev pub entries_of : List (ℕ × Entry) → Past
entries_of mine = map (λ x. x.1) mine

abbrev pub wanted_of : Option Unanswered → Option BusEvent
wanted_of None = None
wanted_of (Some u) = Some u.event

-- As the run of the firmware sees it.
abbrev pub told_by : List (ℕ × Entry) → Option Unanswered → Told
told_by mine refused = record { asked = asked_of (entries_of mine); answers = answers_of (entries_of mine); wanted = wanted_of refused }

abbrev pub told_of : WireView → Told
told_of w = told_by w.pass.mine w.refused

-- A pass that has neither ended, nor found or given a cause, and made no turn.
pub record IsFirst (turn : TableId) (pass : PassView) : Type 0 where
  pub same_turn : pass.turn ≡ turn
  pub unended : pass.ended ≡ None
  pub unfound : pass.found ≡ None
  pub ungiven : pass.gave ≡ None
  pub none_made : pass.mine ≡ []

-- A pass that goes on: it has found no stop.
pub record GoesOn (pass : PassView) : Type 0 where
  pub unended : pass.ended ≡ None
  pub unfound : pass.found ≡ None

-- A pass that ended at an event: what it found is a stop of this event.
pub record EndedAt (pass : PassView) (u : Unanswered) : Type 0 where
  pub ended : pass.ended ≡ Some u.why
  pub found : (f : Found) → pass.found ≡ Some f → f.event ≡ u.event

abbrev pub StandsBy : PassView → Option Unanswered → Type 0
StandsBy pass None = GoesOn pass
StandsBy pass (Some u) = EndedAt pass u

-- The pass takes these turns and has given no cause.
pub record IsWire (w : WireView) : Type 0 where
  pub same_turn : w.pass.turn ≡ w.turn
  pub ungiven : w.pass.gave ≡ None
  pub stands : StandsBy w.pass w.refused

-- What no event changes.
pub record Keeps (old new : WireView) : Type 0 where
  pub turn : new.turn ≡ old.turn
  pub stays : StaysOf old.pass new.pass
