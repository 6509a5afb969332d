-- The EEPROM with its registers (ATmega328P datasheet, "EEPROM Data Memory" and "Register Description" of "AVR Memories").
-- How long a write takes is this board's own: 54,400 cycles, 3.4 ms at 16 MHz.
use Rattle.std.specs.Prelude.{◌≡◌, ◌<◌, ℕ, ◌+◌, ◌-◌, ◌*◌, ◌/◌, ◌%◌, ◌^◌, min, ◌==◌, ◌&&◌, Bool, false, not, List, Option, Some, None, is_some, Result, Ok, Err, if◌then◌else◌, nat_le, slice_index, slice_set}
use Rattle.avr_sheet.specs.Bits.{is_set, weighed, with_bit}
use Rattle.avr_sheet.specs.BitNames.{EEPE, EERE}
use Rattle.avr_sheet.specs.Registers.{EECR, EEDR, EEARL, EEARH}
use Rattle.avr_sheet.specs.declared.stop.DeviceStop.{DeviceStop}
use Rattle.avr_sheet.specs.declared.stop.DeviceStop.TheVariants.{Eeprom}
use Rattle.avr_eeprom.specs.Names.{EEMPE, EERIE, EEPM0, EEPM1, EE_READY}
use Rattle.avr_eeprom.specs.Cells.{erased}
use Rattle.avr_eeprom.specs.declared.control.Control.{Control}
use Rattle.avr_eeprom.specs.declared.writing.Writing.{Writing}

-- how many cycles a write of a cell takes
abbrev pub WRITE_CYCLES : ℕ
WRITE_CYCLES = 54400

-- for how many cycles after it was set EEMPE stays set
abbrev pub ENABLED_CYCLES : ℕ
ENABLED_CYCLES = 4

-- the registers, the cells, and the write that runs, at a cycle count
pub record EepromState : Type 0 where
  -- the cycle count up to which all has passed
  pub cycle : ℕ
  -- EERIE
  pub ready_enabled : Bool
  -- EEPM1..0 as a number: 0 erases and writes
  pub mode : ℕ
  pub eedr : ℕ
  -- EEARH and EEARL as one number
  pub eear : ℕ
  -- the cycle count of the last write of EECR that set EEMPE
  pub enabled : Option ℕ
  pub writing : Option Writing
  pub cells : List ℕ

-- the cell of the write that runs, if one does, is one of the 1,024
abbrev pub NamesCell : Option Writing → Type 0
NamesCell None = Unit {0}
NamesCell (Some w) = w.address < 1024

-- what holds at all times
pub record IsWithin (mode : ℕ) (writing : Option Writing) : Type 0 where
  pub mode_fits : mode < 4
  pub names_cell : NamesCell writing

-- after reset: all registers 00, and every cell FF
abbrev pub reset_eeprom : EepromState
reset_eeprom = record {
  cycle = 0;
  ready_enabled = false;
  mode = 0;
  eedr = 0;
  eear = 0;
  enabled = None;
  writing = None;
  cells = erased;
}

-- what was set at a cycle count is set for four cycles
abbrev pub is_enabled_at : ℕ → Option ℕ → Bool
is_enabled_at now None = false
is_enabled_at now (Some at) = nat_le now (at + ENABLED_CYCLES)

-- EEMPE is set
abbrev pub is_enabled : EepromState → Bool
is_enabled s = is_enabled_at s.cycle s.enabled

-- EEPE is set: a write runs
abbrev pub is_writing : EepromState → Bool
is_writing s = is_some s.writing

-- EECR as it reads: the mode in bits 5..4, EERIE in bit 3, EEMPE in bit 2, EEPE in bit 1; EERE reads 0
abbrev pub eecr_value : EepromState → ℕ
eecr_value s = 16 * s.mode + weighed s.ready_enabled 8 + weighed (is_enabled s) 4 + weighed (is_writing s) 2

-- the cell that EEAR names
abbrev pub address : EepromState → ℕ
address s = s.eear % 1024

-- what the write of a byte to EECR asks for
abbrev pub byte_control : ℕ → Control
byte_control v = record {
  mode = v / 16 % 4;
  ready_enabled = is_set v EERIE;
  enables = is_set v EEMPE;
  writes = is_set v EEPE;
  reads = is_set v EERE;
}

-- what the write of one bit alone asks for, where the mode and EERIE stood so; the other bits count as not written
abbrev pub one_bit_control : ℕ → Bool → ℕ → Bool → Control
one_bit_control mode ready_enabled bit set = record {
  mode = if bit == EEPM0 then with_bit mode 0 set else if bit == EEPM1 then with_bit mode 1 set else mode;
  ready_enabled = if bit == EERIE then set else ready_enabled;
  enables = bit == EEMPE && set;
  writes = bit == EEPE && set;
  reads = bit == EERE && set;
}

abbrev pub bit_control : EepromState → ℕ → Bool → Control
bit_control s bit set = one_bit_control s.mode s.ready_enabled bit set

-- a write of a cell would begin: 1 is written to EEPE, EEMPE was set by an earlier write, and no write runs
abbrev pub begins : EepromState → Control → Bool
begins s c = c.writes && (is_enabled s && not (is_writing s))

-- the answer to a write of EECR: a stop where a write of a cell would begin with a mode other than 0
abbrev pub control_answer : EepromState → Control → Result Unit DeviceStop
control_answer s c = if begins s c && not (c.mode == 0) then Err Eeprom else Ok tt

-- the mode, EERIE and EEMPE are as the write of EECR leaves them
abbrev pub controlled : EepromState → Control → EepromState
controlled s c = record s {
  mode = c.mode;
  ready_enabled = c.ready_enabled;
  enabled = if c.enables then Some s.cycle else s.enabled;
}

-- a write of EECR that does not stop: it begins a write of the cell that EEAR names, by the byte of EEDR; or it reads that
-- cell into EEDR, where no write runs; or neither
abbrev pub control_done : EepromState → Control → EepromState
control_done s c =
    if begins s c then record (controlled s c) { writing = Some (record { began = s.cycle; address = address s; byte = s.eedr }) }
    else if c.reads && not (is_writing s) then record (controlled s c) { eedr = slice_index s.cells (address s) }
    else controlled s c

-- what a write of EECR leaves; where it stops the board, all is as it was
abbrev pub control_written : EepromState → Control → EepromState
control_written s c = if begins s c && not (c.mode == 0) then s else control_done s c

-- what a data address reads; 00 where no register of the EEPROM stands
abbrev pub read_value : EepromState → ℕ → ℕ
read_value s at =
    if at == EECR then eecr_value s
    else if at == EEDR then s.eedr
    else if at == EEARL then s.eear % 256
    else if at == EEARH then s.eear / 256
    else 0

-- the answer to a write of a data address
abbrev pub write_answer : EepromState → ℕ → ℕ → Result Unit DeviceStop
write_answer s at v = if at == EECR then control_answer s (byte_control v) else Ok tt

-- what a write of a data address leaves
abbrev pub written : EepromState → ℕ → ℕ → EepromState
written s at v =
    if at == EECR then control_written s (byte_control v)
    else if at == EEDR then record s { eedr = v }
    else if at == EEARL then record s { eear = s.eear / 256 * 256 + v }
    else if at == EEARH then record s { eear = 256 * v + s.eear % 256 }
    else s

-- the write that runs, if one does, is complete where its cycles are over: its cell has the byte
abbrev pub completed : ℕ → Option Writing → EepromState → EepromState
completed by_now None s = s
completed by_now (Some w) s =
    if nat_le (w.began + WRITE_CYCLES) by_now then record s { writing = None; cells = slice_set s.cells w.address w.byte } else s

-- all at a later cycle count
abbrev pub passed : EepromState → ℕ → EepromState
passed s to = completed to s.writing (record s { cycle = to })

-- the cycle count at which the running write is complete, as a number of 64 bits; the largest of these where none runs
abbrev pub end_of_writing : Option Writing → ℕ
end_of_writing None = 2 ^ 64 - 1
end_of_writing (Some w) = min (w.began + WRITE_CYCLES) (2 ^ 64 - 1)

-- the next event: EE READY comes at no other time by itself
abbrev pub next_event : EepromState → ℕ
next_event s = end_of_writing s.writing

-- until then nothing changes but the cycle count
abbrev pub StaysUntil : EepromState → ℕ → Type 0
StaysUntil s until = (to : ℕ) → to < until → passed s to ≡ record s { cycle = to }

-- the pending interrupt: EE READY where EERIE is set and no write runs
abbrev pub pending_vector : EepromState → Option ℕ
pending_vector s = if s.ready_enabled && not (is_writing s) then Some EE_READY else None
