-- Accesses of the bus.
use Rattle.std.specs.Prelude.{◌<◌}
use Rattle.chip_sheet.specs.declared.phase.Access.{Access}
use Rattle.chip_sheet.specs.declared.phase.Access.TheVariants.{NoAccess, Read, Write}

-- Its block, if it has one, is one of 32.
abbrev pub IsWithin : Access → Type 0
IsWithin NoAccess = Unit {0}
IsWithin (Read block addr) = block < 32
IsWithin (Write block addr v) = block < 32
