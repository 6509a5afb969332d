-- What registers read.
use Rattle.std.specs.Prelude.{ℕ, ◌+◌, ◌*◌, ◌/◌, Bool, false, ◌==◌, ◌&&◌, nat_le, [], ◌∷◌, Option, Some, None, unwrap_or, if◌then◌else◌}
use Rattle.std.specs.Option.{option_or}
use Rattle.chip_sheet.specs.declared.phase.Access.{Access}
use Rattle.chip_sheet.specs.declared.phase.Access.TheVariants.{NoAccess, Read, Write}
use Rattle.chip_sheet.specs.Past.{Past}
use Rattle.chip_sheet.specs.Frames.{access_of}
use Rattle.chip_sheet.specs.Names.{mr}
use Rattle.chip_sheet.specs.Blocks.{registers_of}
use Rattle.chip_sheet.specs.CommonBlock.{Rule, Stored, ReadOnly, LinkUp, Place, common_place}

-- A write of the mode register MR with bit 7 resets the chip (datasheet, 4.1 MR, RST).
abbrev pub is_reset : Access → Bool
is_reset NoAccess = false
is_reset (Read block addr) = false
is_reset (Write block addr v) = block == 0 && addr == mr && nat_le 128 v

-- The byte that an access writes to this place of this block, if it writes one.
abbrev pub written_by : Access → ℕ → ℕ → Option ℕ
written_by NoAccess block at = None
written_by (Read other addr) block at = None
written_by (Write other addr v) block at = if other == block && addr == at then Some v else None

-- What was last written once this access is made, where that was `earlier` before it. A reset lets nothing stand.
abbrev pub written_after : Access → Option ℕ → ℕ → ℕ → Option ℕ
written_after made earlier block at =
    if is_reset made then None else option_or (written_by made block at) earlier

-- The last byte written to a place since the last reset, if one was. Frames are those of the whole past: a reset leaves
-- the frame in progress as it is (this profile's own).
abbrev pub last_written : Past → ℕ → ℕ → Option ℕ
last_written [] block at = None
last_written (entry ∷ past) block at =
    written_after (access_of past entry) (last_written past block at) block at

-- What was last written to a place of the register block of socket n, where that is 00 after a reset.
abbrev pub written : Past → ℕ → ℕ → ℕ
written past n at = unwrap_or (last_written past (registers_of n) at) 0x00

-- What a place shows, by its rule, where this was last written to it, and where it has this reset value.
abbrev pub shown_by : Rule → ℕ → ℕ → ℕ
shown_by Stored reset v = v
shown_by ReadOnly reset v = reset
shown_by LinkUp reset v = v / 8 * 8 + 7

-- What a place shows.
abbrev pub shown : Place → Option ℕ → ℕ
shown place written = shown_by place.rule place.reset (unwrap_or written place.reset)

-- What an address of the common register block reads, while no socket asks for an interrupt.
abbrev pub common_register : Past → ℕ → ℕ
common_register past at = shown (common_place at) (last_written past 0 at)
