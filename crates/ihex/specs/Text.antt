-- Intel HEX files: lines that end with LF or CR LF, the last of which may have no end. A line that is not empty is a record.
use Rattle.std.specs.Prelude.{◌≡◌, ℕ, ◌+◌, List, [], ◌∷◌, ◌++◌, Option, None, Some, if◌then◌else◌}
use Rattle.std.specs.Str.Lines.{lines}
use Rattle.ihex.specs.declared.fault.HexKind.{HexKind}
use Rattle.ihex.specs.declared.fault.HexKind.TheVariants.{NoEnd}
use Rattle.ihex.specs.declared.fault.HexFault.{HexFault}
use Rattle.ihex.specs.declared.fault.HexError.{HexError}
use Rattle.ihex.specs.declared.fault.HexError.TheVariants.{Fault, NoMemory}
use Rattle.ihex.specs.Flash.{Placed}
use Rattle.ihex.specs.Record.{Above, at_start, fault_of, below, line_data}

-- A line's fault, if it has one, else that of the lines behind it.
abbrev pub fault_or : ℕ → Option HexKind → Option HexFault → Option HexFault
fault_or number (Some kind) behind = Some (record { line = number; kind = kind })
fault_or number None behind = behind

-- The first fault of the lines behind line `number`. Where no line has one and no end record was there, NoEnd stands at the last line.
abbrev pub fault_behind : ℕ → Above → List (List ℕ) → Option HexFault
fault_behind number above [] = if above.ended then None else Some (record { line = number; kind = NoEnd })
fault_behind number above (line ∷ more) = fault_or (number + 1) (fault_of above line) (fault_behind (number + 1) (below above line) more)

-- The first fault of a text. Lines count from 1, empty ones too.
unfoldable pub fault_in : List ℕ → Option HexFault
fault_in text = fault_behind 0 at_start (lines text)

-- The data bytes of lines, in their order.
abbrev pub data_behind : Above → List (List ℕ) → List Placed
data_behind above [] = []
data_behind above (line ∷ more) = line_data above line ++ data_behind (below above line) more

-- The data bytes of a text, in their order.
unfoldable pub data_in : List ℕ → List Placed
data_in text = data_behind at_start (lines text)

-- An error tells the first fault of a text, or that no memory was there.
abbrev pub Tells : List ℕ → HexError → Type 0
Tells text (Fault fault) = fault_in text ≡ Some fault
Tells text NoMemory = Unit {0}
