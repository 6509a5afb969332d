-- The firmware's side under way: what its steps make of the run so far, and what is printed.
use Rattle.std.specs.Prelude.{◌≡◌, ◌⊎◌, ℕ, ◌<◌, List, [], ◌∷◌, ◌++◌, Option, Some, None}
use Rattle.avr_mcu.specs.Run.{byte_of}
use Rattle.avr_mcu.specs.State.{McuState, printed}
use Rattle.avr_mcu.specs.declared.run.RunEnd as firmware
use Rattle.avr_run.specs.Told.{Told, SoFar, Ended}
use Rattle.board_sim.specs.Playing.{Printed, Prints}
use Rattle.board_run.specs.Printing.{PrintsLast}
use Rattle.board_run.specs.declared.firmware.Cut.{Cut}
use Rattle.board_run.specs.declared.firmware.Cut.TheVariants as cuts

-- From any run that has come so far, these bytes further.
abbrev pub Further : ℕ → List ℕ → McuState → Told → McuState → Told → Type 0
Further cycles bytes s told now told' =
    (start : McuState) (serial : List ℕ) → SoFar cycles start serial s told → SoFar cycles start (serial ++ bytes) now told'

-- It is the whole run, with these bytes and this end.
abbrev pub ToEnd : ℕ → List ℕ → firmware.RunEnd → McuState → Told → McuState → Told → Type 0
ToEnd cycles bytes end s told now told' =
    (start : McuState) (serial : List ℕ) → SoFar cycles start serial s told → Ended cycles start (serial ++ bytes) now told' end

-- The run after a step that printed a byte: it goes on, or the step was its last.
abbrev pub ToByte : ℕ → List ℕ → McuState → Told → McuState → Told → Type 0
ToByte cycles bytes s told now told' = Further cycles bytes s told now told' ⊎ ((end : firmware.RunEnd) × ToEnd cycles bytes end s told now told')

-- Some steps, none of which ended the run, and all that they printed was written.
pub record Walked (cycles : ℕ) (s : McuState) (told : Told) (now : McuState) (told' : Told) (old new : Printed) : Type 0 where
  pub bytes : List ℕ
  pub prints : Prints old bytes new
  pub further : Further cycles bytes s told now told'

-- Some steps, the last of which ended the run so.
pub record WalkedToEnd (cycles : ℕ) (end : firmware.RunEnd) (s : McuState) (told : Told) (now : McuState) (told' : Told) (old new : Printed) : Type 0 where
  pub bytes : List ℕ
  pub prints : Prints old bytes new
  pub to_end : ToEnd cycles bytes end s told now told'

-- From any run that has come so far, with these bytes printed since, the last step printed this one.
abbrev pub EndsAtByte : ℕ → List ℕ → ℕ → McuState → Told → McuState → Told → Type 0
EndsAtByte cycles bytes byte s told now told' =
    (start : McuState) (serial : List ℕ) → SoFar cycles start serial s told → PrintsLast cycles start (serial ++ bytes) byte now told'

-- Some steps, the last of which printed a byte that could not be written.
pub record WalkedToByte (cycles : ℕ) (s : McuState) (told : Told) (now : McuState) (told' : Told) (old new : Printed) : Type 0 where
  pub bytes : List ℕ
  pub byte : ℕ
  pub prints : Prints old bytes new
  pub to_byte : ToByte cycles (bytes ++ byte ∷ []) s told now told'
  pub last : EndsAtByte cycles bytes byte s told now told'

-- By whether the run goes on, and what cut it.
abbrev pub Goes : Option Cut → ℕ → McuState → Told → McuState → Told → Printed → Printed → Type 0
Goes None cycles s told now told' old new = Walked cycles s told now told' old new
Goes (Some (cuts.Step end)) cycles s told now told' old new = WalkedToEnd cycles end s told now told' old new
Goes (Some cuts.WriteFault) cycles s told now told' old new = WalkedToByte cycles s told now told' old new

-- What the next step needs: no printed byte waits, and the cycles are below the limit.
pub record IsReady (cycles : ℕ) (s : McuState) : Type 0 where
  pub still : printed s ≡ None
  pub below : s.devices.cycles < cycles

-- What comes behind steps: their byte is written, and then comes the end of the run; or it could not be written.
abbrev pub SettlesTo : Option ℕ → Option firmware.RunEnd → Option Cut → Printed → Printed → Type 0
SettlesTo byte end None old new = (end ≡ None) × Prints old (byte_of byte) new
SettlesTo byte end (Some (cuts.Step e)) old new = (end ≡ Some e) × Prints old (byte_of byte) new
SettlesTo byte end (Some cuts.WriteFault) old new = (v : ℕ) × ((byte ≡ Some v) × Prints old [] new)
