-- What always holds of the chip, its history and its links together.
use Rattle.std.specs.Prelude.{ℕ, ◌≤◌, length}
use Rattle.chip_hist.specs.Log.{Log}
use Rattle.link_trait.specs.Shown.{Shown}
use Rattle.chip_core.specs.declared.chip.Chip.{Chip}
use Rattle.chip_core.specs.Chip.{Stands, stop_kept, starts_of}
use Rattle.chip_shared.specs.State.{State}
use Rattle.chip_shared.specs.Tied.{Tied, Ready}

abbrev pub state_of : {L : Type 0} → Chip → Log → L → ℕ → State L
state_of chip log links calls = record { starts = starts_of chip; log = log; stopped = stop_kept chip; links = links; calls = calls }

-- The chip stands for the history, so it is legal; the links agree with it, and are ready for the calls that come; no more calls were
-- made than there are entries.
pub record Sound {L : Type 0} (shown : L → Shown) (chip : Chip) (log : Log) (links : L) (calls : ℕ) : Type 0 where
  pub stands : Stands (starts_of chip) chip log.past
  pub tied : Tied (starts_of chip) log.past (shown links)
  pub ready : Ready log.past (shown links)
  pub counted : calls ≤ length log.past
