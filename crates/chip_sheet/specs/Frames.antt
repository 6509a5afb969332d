-- Frames on the bus (W5500 datasheet, 2.2 SPI frame): two bytes of offset address, the high one first, a control byte,
-- then data bytes. The control byte has the block select in bits 7..3, read (0) or write (1) in bit 2 and the length
-- mode in bits 1..0.
use Rattle.std.specs.Prelude.{ℕ, ◌+◌, ◌*◌, ◌/◌, ◌%◌, zero, suc, Bool, false, true, ◌==◌, ◌&&◌, nat_lt, nat_le, List, [], ◌∷◌, ◌++◌, length, drop, slice_index, if◌then◌else◌}
use Rattle.board_bus.specs.declared.event.BusEvent.{BusEvent}
use Rattle.board_bus.specs.declared.event.BusEvent.TheVariants.{Select, Byte, Look}
use Rattle.chip_sheet.specs.declared.phase.Access.{Access}
use Rattle.chip_sheet.specs.declared.phase.Access.TheVariants.{NoAccess, Read, Write}
use Rattle.chip_sheet.specs.declared.phase.Phase.{Phase}
use Rattle.chip_sheet.specs.declared.phase.Phase.TheVariants.{Idle, Address, Control, Body}
use Rattle.chip_sheet.specs.declared.event.Entry.{Entry}
use Rattle.chip_sheet.specs.declared.event.Entry.TheVariants.{Bus, Link, Rest}
use Rattle.chip_sheet.specs.Past.{Past}

-- The select line is low exactly where the last change of it says so. It starts high.
abbrev pub is_low : Past → Bool
is_low [] = false
is_low (Bus (Select low) a ∷ past) = low
is_low (Bus (Byte v) a ∷ past) = is_low past
is_low (Bus Look a ∷ past) = is_low past
is_low (Link n what ∷ past) = is_low past
is_low (Rest ∷ past) = is_low past

-- The bytes from the host since the select line last fell, in order. Setting the line to the level that it has already
-- changes nothing.
abbrev pub bytes_in : Past → List ℕ
bytes_in [] = []
bytes_in (Bus (Select low) a ∷ past) = if is_low past then bytes_in past else []
bytes_in (Bus (Byte v) a ∷ past) = bytes_in past ++ v ∷ []
bytes_in (Bus Look a ∷ past) = bytes_in past
bytes_in (Link n what ∷ past) = bytes_in past
bytes_in (Rest ∷ past) = bytes_in past

-- How many data bytes a frame of this control byte has (datasheet, 2.2.2 control phase, operation mode bits): 1, 2 or 4
-- in the fixed length modes; 0 stands for the variable length mode, in which the frame goes on until the line rises.
abbrev pub data_length : ℕ → ℕ
data_length control =
    let mode = control % 4 in
    if mode == 0 then 0 else (if mode == 1 then 1 else (if mode == 2 then 2 else 4))

-- These bytes begin with a whole frame of fixed length.
abbrev pub has_ended : List ℕ → Bool
has_ended bytes =
    let count = data_length (slice_index bytes 2) in
    nat_lt 0 count && nat_le (3 + count) (length bytes)

-- What stands behind the frames that have ended, of which at most n are cut off the front.
unfoldable pub cut : ℕ → List ℕ → List ℕ
cut zero bytes = bytes
cut (suc n) bytes =
    if has_ended bytes then cut n (drop (3 + data_length (slice_index bytes 2)) bytes) else bytes

-- The frame in progress. A frame of fixed length is followed at once by the next frame while the line stays low (this
-- profile's own).
unfoldable pub current : List ℕ → List ℕ
current bytes = cut (length bytes) bytes

-- Where the byte behind these bytes of a frame stands. The address grows by one for each data byte, modulo 65,536.
abbrev pub phase_in : List ℕ → Phase
phase_in [] = Address
phase_in (high ∷ []) = Address
phase_in (high ∷ low ∷ []) = Control
phase_in (high ∷ low ∷ control ∷ taken) =
    Body (control / 8) ((256 * high + low + length taken) % 65536) (control / 4 % 2 == 1)

-- Where the next byte stands.
abbrev pub phase : Past → Phase
phase past = if is_low past then phase_in (current (bytes_in past)) else Idle

-- What a byte does where it stands at this phase.
abbrev pub access_in : Phase → ℕ → Access
access_in Idle v = NoAccess
access_in Address v = NoAccess
access_in Control v = NoAccess
access_in (Body block addr true) v = Write block addr v
access_in (Body block addr false) v = Read block addr

-- What an event does after this past.
abbrev pub access : Past → BusEvent → Access
access past (Select low) = NoAccess
access past (Byte v) = access_in (phase past) v
access past Look = NoAccess

-- What an entry did to a register or a buffer.
abbrev pub access_of : Past → Entry → Access
access_of past (Bus e a) = access past e
access_of past (Link n what) = NoAccess
access_of past Rest = NoAccess
