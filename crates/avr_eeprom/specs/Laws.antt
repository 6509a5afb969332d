-- What a reading of a cell gives: over all that was done since reset, the byte of the last write of it that is complete.
use Rattle.std.specs.Prelude.{◌≡◌, ◌<◌, ℕ, ◌+◌, ◌==◌, ◌&&◌, Bool, true, false, List, [], ◌∷◌, if◌then◌else◌, nat_le, slice_index}
use Rattle.avr_sheet.specs.Registers.{EECR}
use Rattle.avr_eeprom.specs.declared.control.Control.{Control}
use Rattle.avr_eeprom.specs.declared.writing.Writing.{Writing}
use Rattle.avr_eeprom.specs.Cells.{CellWrite, cell_byte}
use Rattle.avr_eeprom.specs.Eeprom.{WRITE_CYCLES, EepromState, address, begins, bit_control, byte_control, control_written, is_writing, passed, reset_eeprom, written}

-- what may be done to an EEPROM
pub data Operation : Type 0 where
  Write : (at v : ℕ) → Operation
  WriteBit : (bit : ℕ) (set : Bool) → Operation
  Pass : (cycles : ℕ) → Operation

-- what an operation leaves
abbrev pub done : Operation → EepromState → EepromState
done (Write at v) s = written s at v
done (WriteBit bit set) s = control_written s (bit_control s bit set)
done (Pass cycles) s = passed s (s.cycle + cycles)

-- the EEPROM after these operations since reset, the newest first
abbrev pub after : List Operation → EepromState
after [] = reset_eeprom
after (operation ∷ earlier) = done operation (after earlier)

-- a write of EECR begins a write of a cell, with a mode that is offered
abbrev pub starts : EepromState → Control → Bool
starts s c = begins s c && c.mode == 0

-- the write of a cell that begins now
abbrev pub beginning : EepromState → Writing
beginning s = record { began = s.cycle; address = address s; byte = s.eedr }

-- whether an operation begins a write of a cell
abbrev pub starts_by : Operation → EepromState → Bool
starts_by (Write at v) s = at == EECR && starts s (byte_control v)
starts_by (WriteBit bit set) s = starts s (bit_control s bit set)
starts_by (Pass cycles) s = false

-- the writes of cells that these operations began, the newest first
abbrev pub begun : List Operation → List Writing
begun [] = []
begun (operation ∷ earlier) =
    if starts_by operation (after earlier) then beginning (after earlier) ∷ begun earlier else begun earlier

-- those of them that are complete at a cycle count
abbrev pub complete : ℕ → List Writing → List CellWrite
complete now [] = []
complete now (w ∷ earlier) =
    if nat_le (w.began + WRITE_CYCLES) now then record { address = w.address; byte = w.byte } ∷ complete now earlier
    else complete now earlier

-- each cell holds the byte of the last complete write of it, else FF
abbrev pub CellsAreWrites : Type 0
CellsAreWrites = (operations : List Operation) (at : ℕ) → at < 1024 →
    slice_index (after operations).cells at ≡ cell_byte (complete (after operations).cycle (begun operations)) at

-- so does EEDR after a reading by EERE
abbrev pub ReadsLastWrite : Type 0
ReadsLastWrite = (operations : List Operation) (c : Control) →
    begins (after operations) c ≡ false → c.reads ≡ true → is_writing (after operations) ≡ false →
    (control_written (after operations) c).eedr
    ≡ cell_byte (complete (after operations).cycle (begun operations)) (address (after operations))
