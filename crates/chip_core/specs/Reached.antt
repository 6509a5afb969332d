-- Chips that a history has led to.
use Rattle.std.specs.Prelude.{◌≤◌, ℕ, length}
use Rattle.chip_sheet.specs.Past.{Past}
use Rattle.chip_sheet.specs.Streams.{Starts}
use Rattle.chip_core.specs.declared.chip.Chip.{Chip}
use Rattle.chip_core.specs.Chip.{Stands}

-- The chip stands for some history, of at most so many entries.
pub record Reached (chip : Chip) (most : ℕ) : Type 0 where
  pub starts : Starts
  pub past : Past
  pub stands : Stands starts chip past
  pub short : length past ≤ most
