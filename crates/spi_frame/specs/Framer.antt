-- The frame in progress, as the framer keeps it.
use Rattle.std.specs.Prelude.{◌<◌, ℕ, ◌+◌, ◌-◌, ◌*◌, ◌/◌, ◌%◌, ◌==◌, List, [], ◌∷◌, length, if◌then◌else◌}
use Rattle.chip_sheet.specs.declared.phase.Phase.{Phase}
use Rattle.chip_sheet.specs.declared.phase.Phase.TheVariants as phases
use Rattle.chip_sheet.specs.Past.{Past}
use Rattle.chip_sheet.specs.Frames.{is_low, bytes_in, current, data_length}
use Rattle.spi_frame.specs.declared.framer.Frame.{Frame}
use Rattle.spi_frame.specs.declared.framer.Frame.TheVariants.{Start, High, Address, Body}
use Rattle.spi_frame.specs.declared.framer.Framer.{Framer}

-- what the framer keeps of a frame
abbrev pub frame_of : List ℕ → Frame
frame_of [] = Start
frame_of (high ∷ []) = High high
frame_of (high ∷ low ∷ []) = Address ((high * 256 + low) % 65536)
frame_of (high ∷ low ∷ control ∷ taken) =
    Body control ((high * 256 + low + length taken) % 65536) (data_length control - length taken)

abbrev pub framer_of : Past → Framer
framer_of past = record { low = is_low past; frame = if is_low past then frame_of (current (bytes_in past)) else Start }

-- one byte more
abbrev pub frame_after : Frame → ℕ → Frame
frame_after Start v = High v
frame_after (High high) v = Address ((high * 256 + v) % 65536)
frame_after (Address addr) v = Body v addr (data_length v)
frame_after (Body control addr left) v =
    if left == 1 then Start else Body control ((addr + 1) % 65536) (left - 1)

abbrev pub phase_at : Frame → Phase
phase_at Start = phases.Address
phase_at (High high) = phases.Address
phase_at (Address addr) = phases.Control
phase_at (Body control addr left) = phases.Body (control / 8) addr (control / 4 % 2 == 1)

-- A data byte stands in one of 32 blocks.
abbrev pub HasBlock : Phase → Type 0
HasBlock (phases.Body block addr write) = block < 32
HasBlock other = Unit {0}
