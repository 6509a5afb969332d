-- A session as contracts see it.
use Rattle.std.specs.Prelude.{◌≡◌, ℕ, ◌+◌, ◌/◌, Option}
use Rattle.chip_sheet.specs.declared.stop.ChipStop.{ChipStop}
use Rattle.chip_sheet.specs.Past.{Past}
use Rattle.chip_sheet.specs.Streams.{Starts}
use Rattle.chip_core.specs.declared.chip.Chip.{Chip}
use Rattle.chip_core.specs.Chip.{Stands, starts_of}
use Rattle.chip_hist.specs.Log.{Log, HasRoom}
use Rattle.board_gen.specs.declared.session.TheConstants.{WEIGHT_LIMIT}

pub record SessionState : Type 0 where
  -- where the pointers start
  pub starts : Starts
  -- what happened
  pub past : Past
  -- the stop that the chip keeps
  pub stopped : Option ChipStop

-- The chip stands for the history.
pub record Together (chip : Chip) (history : Log) : Type 0 where
  pub stands : Stands (starts_of chip) chip history.past
  pub limited : history.limit ≡ WEIGHT_LIMIT

-- A text of so many bytes may come yet: two bytes or more stand in it for each unit that an event adds to the weight at most.
abbrev pub HasTextRoom : Past → ℕ → Type 0
HasTextRoom past bytes = HasRoom past ((bytes + 1) / 2) WEIGHT_LIMIT

-- Between two pasts so many bytes of text were taken: what is behind them has room still.
abbrev pub Spends : Past → ℕ → Past → Type 0
Spends old bytes new = (more : ℕ) → HasTextRoom old (bytes + more) → HasTextRoom new more
