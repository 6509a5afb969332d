-- Causes for which turns end.
use Rattle.chip_shared.specs.declared.shared.StepEnd.{StepEnd}
use Rattle.chip_shared.specs.declared.shared.StepEnd.TheVariants as end
use Rattle.chip_lock.specs.declared.over.Over.{Over}
use Rattle.chip_lock.specs.declared.over.Over.TheVariants.{Stopped, TraceFull, NoMemory, PollFault, Finished}

-- The cause that a refused step gives.
abbrev pub over_by : StepEnd → Over
over_by (end.Stopped s) = Stopped s
over_by end.TraceFull = TraceFull
over_by end.NoMemory = NoMemory

-- A cause that is given from outside.
abbrev pub IsGiven : Over → Type 0
IsGiven PollFault = Unit {0}
IsGiven Finished = Unit {0}
IsGiven over = ⊥
