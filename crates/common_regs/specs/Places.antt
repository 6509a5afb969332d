-- What the places of the common register block keep, as functions of a place.
use Rattle.std.specs.Prelude.{ℕ, ◌+◌, ◌*◌, ◌/◌, Bool, ◌==◌, ◌&&◌, ◌||◌, nat_le, Option, Some, None, unwrap_or, is_some, if◌then◌else◌}
use Rattle.chip_sheet.specs.declared.block.Block.TheVariants.{Common}
use Rattle.chip_sheet.specs.declared.phase.Access.TheVariants.{Write}
use Rattle.chip_sheet.specs.Names as names
use Rattle.chip_sheet.specs.CommonBlock.{Rule, Stored, ReadOnly, LinkUp, common_place}
use Rattle.chip_sheet.specs.Registers.{is_reset, shown}
use Rattle.chip_sheet.specs.Stops.{Writes, pppoe}
use Rattle.common_regs.specs.declared.registers.Wrote.{Wrote}
use Rattle.common_regs.specs.declared.registers.Wrote.TheVariants.{Plain, Reset, Pppoe}

-- The places that keep a written byte as it is.
abbrev pub is_stored : ℕ → Bool
is_stored addr = nat_le addr 0x14 || addr == 0x16 || (nat_le 0x18 addr && nat_le addr 0x27)

-- What a place of this rule keeps of a written byte, if it keeps one.
abbrev pub kept_of : Rule → ℕ → Option ℕ
kept_of Stored v = Some v
kept_of ReadOnly v = None
kept_of LinkUp v = Some (v / 8 * 8 + 7)

-- What a write of a byte to an address is.
abbrev pub kind_of : ℕ → ℕ → Wrote
kind_of addr v =
    if is_reset (Write 0 addr v) then Reset else
    (if is_some (pppoe (Writes 0 Common addr v)) then Pppoe else Plain)

-- What a place reads after a reset.
abbrev pub reset_value : ℕ → ℕ
reset_value at = shown (common_place at) None

-- What a place reads after a write that does not turn PPPoE on, where the places read this before.
abbrev pub after_write : ℕ → ℕ → (ℕ → ℕ) → ℕ → ℕ
after_write addr v f at =
    if is_reset (Write 0 addr v) then reset_value at else
    (if addr == at then unwrap_or (kept_of (common_place at).rule v) (f at) else f at)

-- What an address reads, where SIR shows this.
abbrev pub read_at : (ℕ → ℕ) → ℕ → ℕ → ℕ
read_at f interrupts addr = if addr == names.sir then interrupts else f addr
