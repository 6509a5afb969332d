-- The ports as the datasheet's registers and flags, and the level that the chip's INTn gives to PD2.
use Rattle.std.specs.Prelude.{ℕ, Bool, true, false}
use Rattle.avr_ports.specs.declared.external.External.{External}
use Rattle.avr_ports.specs.declared.port.Port.{Port}
use Rattle.avr_ports.specs.declared.port.PortName.{PortName}
use Rattle.avr_ports.specs.declared.port.PortName.TheVariants.{B, C, D}

-- The registers, the flags and INTn (ATmega328P datasheet, "I/O-Ports" and "External Interrupts").
pub record PortsState : Type 0 where
  -- whether INTn is high
  pub int_high : Bool
  -- bits 0, 1 and 2 enable PCINT0, PCINT1 and PCINT2
  pub pcicr : ℕ
  pub b : Port
  pub c : Port
  pub d : Port
  -- EICRA, EIMSK and the flags of EIFR
  pub external : External

-- A port after reset: every pin is an input without pull-up, and no change of a pin is looked for.
abbrev pub reset_port : Port
reset_port = record { ddr = 0; port = 0; pcmsk = 0; changed = false }

-- After reset, with INTn high, as it is while the chip asks for nothing (this profile's own).
abbrev pub reset_state : PortsState
reset_state = record {
  int_high = true;
  pcicr = 0;
  b = reset_port;
  c = reset_port;
  d = reset_port;
  external = record { eicra = 0; eimsk = 0; int0_flag = false; int1_flag = false };
}

-- The registers of one port.
abbrev pub port_of : PortsState → PortName → Port
port_of s B = s.b
port_of s C = s.c
port_of s D = s.d

-- The ports with one of them replaced.
abbrev pub with_port : PortsState → PortName → Port → PortsState
with_port s B p = record s { b = p }
with_port s C p = record s { c = p }
with_port s D p = record s { d = p }
