-- What the two sides of a live run leave of their passes.
use Rattle.std.specs.Prelude.{◌≡◌, ◌⊎◌, ℕ, ◌≤◌, [], Option, Some, None}
use Rattle.wz_base.specs.Outside.{Rose}
use Rattle.chip_lock.specs.declared.over.Over.{Over}
use Rattle.chip_lock.specs.declared.over.Over.TheVariants.{PollFault, Finished}
use Rattle.chip_lock.specs.declared.over.Found.{Found}
use Rattle.chip_lock.specs.Passes.{PassView, StaysOf, exchanges_of}
use Rattle.ready_loop.specs.Serving.{GivesFault, Serves}
use Rattle.board_run.specs.declared.wire.Unanswered.{Unanswered}
use Rattle.board_run.specs.Wires.{WireView, told_by, told_of}

-- A pass that served the links, and gave no cause.
pub record Quiet (old new : PassView) : Type 0 where
  pub serves : Serves old new
  pub gave : new.gave ≡ old.gave

-- The firmware's pass once it has ended, by the event that got no answer: with that event's cause, and then it gave none; else with some
-- cause, and then it found none, and gave at most that the run was over.
pub record EndedBy (pass : PassView) (u : Unanswered) : Type 0 where
  pub ended : pass.ended ≡ Some u.why
  pub found : (f : Found) → pass.found ≡ Some f → f.event ≡ u.event
  pub gave : pass.gave ≡ None

pub record EndedAlone (pass : PassView) : Type 0 where
  pub cause : Over
  pub ended : pass.ended ≡ Some cause
  pub found : pass.found ≡ None
  pub gave : (pass.gave ≡ None) ⊎ (pass.gave ≡ Some Finished)

abbrev pub EndsBy : PassView → Option Unanswered → Type 0
EndsBy pass None = EndedAlone pass
EndsBy pass (Some u) = EndedBy pass u

-- What is left of the firmware's bus: its pass, ended, with all its events.
pub record IsLeft (w : WireView) (pass : PassView) : Type 0 where
  pub stays : StaysOf w.pass pass
  pub told : told_by pass.mine w.refused ≡ told_of w
  pub ends : EndsBy pass w.refused

-- What the thread of the links hands back: its pass served them, and gave at most a fault of the poller.
pub record HandsBack {P : Type 0} (faults : P → ℕ) (old : PassView) (poller : P) (new : PassView) (poller' : P) : Type 0 where
  pub serves : Serves old new
  pub later : faults poller ≤ faults poller'
  pub gave : GivesFault (faults poller) (faults poller') old new

-- A pass that made no event of the bus and found no stop.
pub record IsQuietOther (pass : PassView) : Type 0 where
  pub no_bus : exchanges_of pass.mine ≡ []
  pub unfound : pass.found ≡ None

-- What it gave is at most a fault of a poller, whose count of faults rose.
abbrev pub OnlyFault : ℕ → ℕ → Option Over → Type 0
OnlyFault before now gave = (gave ≡ None) ⊎ ((gave ≡ Some PollFault) × Rose before now)
