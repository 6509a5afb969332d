-- The level of each pin, and what a change of levels raises.
use Rattle.std.specs.Prelude.{ℕ, ◌/◌, ◌%◌, ◌==◌, Bool, not, ◌&&◌, ◌||◌, if◌then◌else◌}
use Rattle.avr_ports.specs.declared.port.Port.{Port}
use Rattle.avr_ports.specs.declared.port.PortName.{PortName}
use Rattle.avr_ports.specs.declared.port.PortName.TheVariants.{B, C, D}
use Rattle.avr_ports.specs.declared.external.Sense.{Sense}
use Rattle.avr_sheet.specs.BitNames.{SCSn, PD2, PD3}
use Rattle.avr_sheet.specs.Bits.{is_set, differ}
use Rattle.avr_ports.specs.Bits.{byte, any_bit}
use Rattle.avr_ports.specs.Sense.{sense_of, is_edge}
use Rattle.avr_ports.specs.Ports.{PortsState, port_of}

-- The level that an input pin is held at: PD2 by INTn, and any other by its own pull-up, so at its PORT bit
-- (this profile's own: nothing else stands on the board).
abbrev pub held_level : PortsState → PortName → ℕ → Bool
held_level s B k = is_set s.b.port k
held_level s C k = is_set s.c.port k
held_level s D k = if k == PD2 then s.int_high else is_set s.d.port k

-- The level of pin k of a port, high or not. An output is driven to its PORT is_set ("Configuring the Pin").
unfoldable pub level : PortsState → PortName → ℕ → Bool
level s name k = if is_set (port_of s name).ddr k then is_set (port_of s name).port k else held_level s name k

-- What the PIN register of a port reads ("Reading the Pin Value").
abbrev pub pins : PortsState → PortName → ℕ
pins s name = byte (level s name)

-- Whether a pin of the port that its PCMSK selects goes from one level to another ("Pin Change Interrupt").
unfoldable pub is_pin_changed : PortsState → PortsState → PortName → Bool
is_pin_changed was now name = any_bit (λ k. is_set (port_of now name).pcmsk k && differ (level was name k) (level now name k))

-- The senses of INT0, which is PD2, and of INT1, which is PD3.
abbrev pub int0_sense : PortsState → Sense
int0_sense s = sense_of (s.external.eicra % 4)

abbrev pub int1_sense : PortsState → Sense
int1_sense s = sense_of (s.external.eicra / 4 % 4)

-- A port whose flag rises where one of its selected pins changes.
abbrev pub with_change : PortsState → PortsState → PortName → Port
with_change was now name =
    let p = port_of now name in record p { changed = p.changed || is_pin_changed was now name }

-- The ports with the flags that rise as the pins go from the levels of one state to those of the next. A flag
-- rises whether or not its request is enabled, and one that is set stays.
unfoldable pub with_edges : PortsState → PortsState → PortsState
with_edges was now = record now {
  b = with_change was now B;
  c = with_change was now C;
  d = with_change was now D;
  external = record now.external {
    int0_flag = now.external.int0_flag || is_edge (int0_sense now) (level was D PD2) (level now D PD2);
    int1_flag = now.external.int1_flag || is_edge (int1_sense now) (level was D PD3) (level now D PD3);
  };
}

-- Whether the chip's select line SCSn is low: PB2 is an output that its PORT bit drives low. While PB2 is an input,
-- nothing selects the chip.
abbrev pub is_select_low : PortsState → Bool
is_select_low s = is_set s.b.ddr SCSn && not (is_set s.b.port SCSn)
