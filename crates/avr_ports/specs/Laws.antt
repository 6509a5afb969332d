-- What the definitions come to, in the words of the datasheet's text.
use Rattle.std.specs.Prelude.{◌≡◌, ◌≢◌, ℕ, ◌<◌, Bool, true, false, not, ◌&&◌, Some}
use Rattle.avr_sheet.specs.BitNames.{INTF0, INTF1, PCIF0, PCIF1, PCIF2, PD2, PD3}
use Rattle.avr_sheet.specs.Bits.{is_set, differ}
use Rattle.avr_ports.specs.declared.port.PortName.{PortName}
use Rattle.avr_ports.specs.declared.port.PortName.TheVariants.{B, C, D}
use Rattle.avr_ports.specs.declared.register.Register.{Register}
use Rattle.avr_ports.specs.declared.register.Register.TheVariants.{Pin, Ddr, ChangeMask, ChangeFlags, ChangeControl, ExternalFlags, ExternalMask, ExternalControl}
use Rattle.avr_ports.specs.declared.register.Register.TheVariants as registers
use Rattle.avr_ports.specs.Bits.{any_bit}
use Rattle.avr_ports.specs.Levels.{level, int0_sense, int1_sense, with_edges}
use Rattle.avr_ports.specs.Ports.{PortsState, port_of}
use Rattle.avr_ports.specs.Registers.{io_register}
use Rattle.avr_ports.specs.Sense.{is_edge}
use Rattle.avr_ports.specs.Writes.{written, written_bit}

-- A flag that is clear before and set after.
abbrev pub rises : Bool → Bool → Bool
rises before after = not before && after

-- Of the flags that are clear, those rise whose pin goes from its level before to one after that is the edge that is looked
-- for, and no other: of INT0 and INT1 by the sense that EICRA has after the call, of a port where a pin changes that its
-- PCMSK selects.
pub record RisesAtEdges (before after : PortsState) : Type 0 where
  pub int0 : rises before.external.int0_flag after.external.int0_flag
      ≡ (not before.external.int0_flag && is_edge (int0_sense after) (level before D PD2) (level after D PD2))
  pub int1 : rises before.external.int1_flag after.external.int1_flag
      ≡ (not before.external.int1_flag && is_edge (int1_sense after) (level before D PD3) (level after D PD3))
  pub change : (name : PortName) → rises (port_of before name).changed (port_of after name).changed
      ≡ (not (port_of before name).changed
      && any_bit (λ k. is_set (port_of after name).pcmsk k && differ (level before name k) (level after name k)))

-- So it is at each call that may change a pin.
pub record FlagsRiseAtEdges : Type 0 where
  pub write : (s : PortsState) (addr v : ℕ) → RisesAtEdges s (written s addr v)
  pub write_bit : (s : PortsState) (io k : ℕ) (set : Bool) → RisesAtEdges s (written_bit s io k set)
  pub line : (s : PortsState) (high : Bool) → RisesAtEdges s (with_edges s (record s { int_high = high }))

-- A call that changes the level of no pin raises no flag.
abbrev pub StillPinsRaiseNothing : Type 0
StillPinsRaiseNothing = (before after : PortsState) → RisesAtEdges before after
    → ((name : PortName) (k : ℕ) → level after name k ≡ level before name k)
    → ((name : PortName) → rises (port_of before name).changed (port_of after name).changed ≡ false)
    × (rises before.external.int0_flag after.external.int0_flag ≡ false)
    × (rises before.external.int1_flag after.external.int1_flag ≡ false)

-- A byte, as each register holds one.
pub record IsHeld (s : PortsState) : Type 0 where
  pub ddr : (name : PortName) → (port_of s name).ddr < 256
  pub port : (name : PortName) → (port_of s name).port < 256
  pub pcmsk : (name : PortName) → (port_of s name).pcmsk < 256
  pub pcicr : s.pcicr < 256
  pub eimsk : s.external.eimsk < 256
  pub eicra : s.external.eicra < 256

-- The byte that is stored in a register; the PIN registers store none of their own, and flags are looked at below.
abbrev pub stored : PortsState → Register → ℕ
stored s (Pin name) = 0
stored s (Ddr name) = (port_of s name).ddr
stored s (registers.Port name) = (port_of s name).port
stored s (ChangeMask name) = (port_of s name).pcmsk
stored s ChangeFlags = 0
stored s ChangeControl = s.pcicr
stored s ExternalFlags = 0
stored s ExternalMask = s.external.eimsk
stored s ExternalControl = s.external.eicra

-- The register whose bit a write of a bit of this register changes: a PIN bit toggles its PORT bit.
abbrev pub changed_by : Register → Register
changed_by (Pin name) = registers.Port name
changed_by r = r

-- `sbi` and `cbi` of bit k of an I/O place change no bit of any register but bit k of the one there. (Flags may rise, as above.)
abbrev pub OneBitAlone : Type 0
OneBitAlone = (s : PortsState) (io k : ℕ) (set : Bool) → IsHeld s → k < 8
    → (other : Register) (j : ℕ) → j < 8 → ((r : Register) → io_register io ≡ Some r → changed_by r ≡ other → j ≢ k)
    → is_set (stored (written_bit s io k set) other) j ≡ is_set (stored s other) j

-- The place of a port's flag in PCIFR.
abbrev pub change_flag : PortName → ℕ
change_flag B = PCIF0
change_flag C = PCIF1
change_flag D = PCIF2

-- `sbi` and `cbi` clear no flag but the one that `sbi` writes a 1 to.
pub record KeepsOtherFlags (s : PortsState) (io k : ℕ) (set : Bool) : Type 0 where
  pub int0 : (io_register io ≡ Some ExternalFlags → set ≡ true → INTF0 ≢ k) → s.external.int0_flag ≡ true
      → (written_bit s io k set).external.int0_flag ≡ true
  pub int1 : (io_register io ≡ Some ExternalFlags → set ≡ true → INTF1 ≢ k) → s.external.int1_flag ≡ true
      → (written_bit s io k set).external.int1_flag ≡ true
  pub change : (name : PortName) → (io_register io ≡ Some ChangeFlags → set ≡ true → change_flag name ≢ k)
      → (port_of s name).changed ≡ true → (port_of (written_bit s io k set) name).changed ≡ true

abbrev pub OtherFlagsStay : Type 0
OtherFlagsStay = (s : PortsState) (io k : ℕ) (set : Bool) → k < 8 → KeepsOtherFlags s io k set
