-- How the laws of a socket's registers name what they say of a place and one more entry.
use Rattle.std.specs.Prelude.{◌≡◌, ℕ, ◌∷◌, true, false}
use Rattle.chip_sheet.specs.declared.event.Entry.{Entry}
use Rattle.chip_sheet.specs.Past.{Past}
use Rattle.chip_sheet.specs.Frames.{access_of}
use Rattle.chip_sheet.specs.Blocks.{registers_of}
use Rattle.chip_sheet.specs.Quiet.{writes_to}
use Rattle.chip_sheet.specs.Registers.{is_reset}
use Rattle.chip_sheet.specs.Streams.{Starts}
use Rattle.chip_sheet.specs.Interrupts.{interrupts_by}
use Rattle.chip_sheet.specs.SocketBlock.{socket_place, socket_register}
use Rattle.sock_regs.specs.Places.{is_kept, after_raise}

-- The registers answer for this place.
abbrev pub IsKept : ℕ → Type 0
IsKept at = is_kept (socket_place at).shows ≡ true

-- The entry is a reset of the chip; it is none; it writes nothing to the registers of socket n.
abbrev pub IsReset : Past → Entry → Type 0
IsReset past entry = is_reset (access_of past entry) ≡ true

abbrev pub IsNoReset : Past → Entry → Type 0
IsNoReset past entry = is_reset (access_of past entry) ≡ false

abbrev pub NotToRegisters : Past → Entry → ℕ → Type 0
NotToRegisters past entry n = writes_to (access_of past entry) (registers_of n) ≡ false

-- After this step of what the places of socket n read before the entry, and then the bits that it raises, this place reads what it reads
-- after the entry.
abbrev pub FollowsBy : Starts → Past → Entry → ℕ → ((ℕ → ℕ) → ℕ → ℕ) → ℕ → Type 0
FollowsBy starts past entry n step at = after_raise (interrupts_by starts past n entry) (step (socket_register starts past n)) at ≡ socket_register starts (entry ∷ past) n at

-- The bits alone do so.
abbrev pub FollowsBits : Starts → Past → Entry → ℕ → ℕ → Type 0
FollowsBits starts past entry n at = after_raise (interrupts_by starts past n entry) (socket_register starts past n) at ≡ socket_register starts (entry ∷ past) n at
