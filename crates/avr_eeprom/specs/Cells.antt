-- The cells of the EEPROM (ATmega328P datasheet, "EEPROM Data Memory").
use Rattle.std.specs.Prelude.{ℕ, List, [], ◌∷◌, ◌==◌, if◌then◌else◌, replicate}

-- so many copies of a byte
unfoldable pub filled : ℕ → ℕ → List ℕ
filled n byte = replicate n byte

-- an erased EEPROM: each of its 1,024 bytes is FF
abbrev pub erased : List ℕ
erased = filled 1024 255

-- a write of a cell: its address, below 1,024, and the byte
pub record CellWrite : Type 0 where
  pub address : ℕ
  pub byte : ℕ

-- the byte of a cell after these writes, the newest first: that of the last write to it, else FF
abbrev pub cell_byte : List CellWrite → ℕ → ℕ
cell_byte [] at = 255
cell_byte (write ∷ earlier) at = if at == write.address then write.byte else cell_byte earlier at
