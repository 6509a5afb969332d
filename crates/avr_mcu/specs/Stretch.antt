-- Many steps at once that ask nothing of the bus.
use Rattle.std.specs.Prelude.{◌≡◌, ℕ, zero, suc, ◌+◌, ◌<◌, ◌⊎◌, false, List, [], ◌∷◌, ◌++◌, Option, Some, if◌then◌else◌}
use Rattle.avr_core.specs.Ask.{Give}
use Rattle.avr_core.specs.Code.{said_at}
use Rattle.avr_core.specs.Meaning.{meaning}
use Rattle.avr_core.specs.Memory.{over_memory, served}
use Rattle.avr_core.specs.Ops.{is_owing}
use Rattle.avr_core.specs.Registers.{in_flash}
use Rattle.avr_core.specs.Steps.{ran}
use Rattle.avr_core.specs.declared.cpu.Core.{Core}
use Rattle.avr_sheet.specs.BitNames.{I}
use Rattle.avr_sheet.specs.Bits.{is_set}
use Rattle.avr_mcu.specs.State.{McuState, noted, printed}
use Rattle.avr_mcu.specs.Step.{gone, stepped}
use Rattle.avr_mcu.specs.declared.went.McuWent.TheVariants as wents

-- The last 16 of a list of addresses and some more, each noted in its turn.
abbrev pub noted_all : List ℕ → List ℕ → List ℕ
noted_all trail [] = trail
noted_all trail (at ∷ more) = noted_all (noted trail at) more

-- What plain instructions made of a core and its memory, SREG before the last of them, the addresses at which they stand, and the cycles
-- that they took.
pub record Course : Type 0 where
  pub core : Core
  pub memory : List ℕ
  pub was : ℕ
  pub addresses : List ℕ
  pub spent : ℕ

abbrev pub begun : Core → List ℕ → Course
begun core memory = record { core = core; memory = memory; was = core.sreg; addresses = []; spent = 0 }

-- One more instruction ran, and reached nothing but the core and SRAM; it began before `most` cycles were spent, and before `calm` or
-- with I clear, and is neither SEI nor RETI.
pub record IsNext (flash : List ℕ) (most calm : ℕ) (before now : Course) : Type 0 where
  pub cycles : ℕ
  pub early : before.spent < most
  pub calm_is : (before.spent < calm) ⊎ (is_set before.core.sreg I ≡ false)
  pub comes : over_memory (meaning flash before.core) before.memory ≡ Some (served (ran cycles now.core) now.memory)
  pub plain : is_owing (said_at flash (in_flash before.core.pc)) ≡ false
  pub was_is : now.was ≡ before.core.sreg
  pub adds : now.spent ≡ before.spent + cycles
  pub notes : now.addresses ≡ before.addresses ++ before.core.pc ∷ []

-- So many of them.
abbrev pub RunsPlain : List ℕ → ℕ → ℕ → ℕ → Course → Course → Type 0
RunsPlain flash most calm zero before now = now ≡ before
RunsPlain flash most calm (suc k) before now = (mid : Course) × RunsPlain flash most calm k before mid × IsNext flash most calm mid now

-- One step of the microcontroller that began below a count of cycles, with this byte printed before it, and ran an instruction or
-- slept a cycle, and asked nothing of the bus.
pub record IsMove (limit : ℕ) (byte : Option ℕ) (s t : McuState) : Type 0 where
  pub below : s.devices.cycles < limit
  pub still : printed s ≡ byte
  pub is : stepped s ≡ Give (gone (if s.asleep then wents.Asleep else wents.Ran) t)

-- So many such steps. None but the last prints a byte.
abbrev pub GoesOn : ℕ → ℕ → McuState → McuState → Type 0
GoesOn limit zero s t = t ≡ s
GoesOn limit (suc k) s t = (mid : McuState) × GoesOn limit k s mid × IsMove limit (printed s) mid t
