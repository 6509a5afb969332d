-- What a register reads, and what a write leaves.
use Rattle.std.specs.Prelude.{ℕ, ◌+◌, ◌^◌, Bool, not, ◌&&◌, Option, Some, None, if◌then◌else◌, bit_xor}
use Rattle.avr_ports.specs.declared.port.PortName.{PortName}
use Rattle.avr_ports.specs.declared.port.Port.{Port}
use Rattle.avr_ports.specs.declared.register.Register.{Register}
use Rattle.avr_ports.specs.declared.register.Register.TheVariants.{Pin, Ddr, ChangeMask, ChangeFlags, ChangeControl, ExternalFlags, ExternalMask, ExternalControl}
use Rattle.avr_ports.specs.declared.register.Register.TheVariants as registers
use Rattle.avr_sheet.specs.BitNames.{INTF0, INTF1, PCIF0, PCIF1, PCIF2}
use Rattle.avr_sheet.specs.Bits.{is_set, weighed, with_bit}
use Rattle.avr_ports.specs.Registers.{register_at, io_register}
use Rattle.avr_ports.specs.Ports.{PortsState, port_of, with_port}
use Rattle.avr_ports.specs.Levels.{pins, with_edges}

-- The byte that a register reads.
abbrev pub register_value : PortsState → Register → ℕ
register_value s (Pin name) = pins s name
register_value s (Ddr name) = (port_of s name).ddr
register_value s (registers.Port name) = (port_of s name).port
register_value s (ChangeMask name) = (port_of s name).pcmsk
register_value s ChangeFlags = weighed s.b.changed 1 + weighed s.c.changed 2 + weighed s.d.changed 4
register_value s ChangeControl = s.pcicr
register_value s ExternalFlags = weighed s.external.int0_flag 1 + weighed s.external.int1_flag 2
register_value s ExternalMask = s.external.eimsk
register_value s ExternalControl = s.external.eicra

-- The ports once the registers of one of them change, with the flags that the change of levels raises.
abbrev pub driven : PortsState → PortName → Port → PortsState
driven s name p = with_edges s (with_port s name p)

-- The flags of pin changes with those cleared to which a byte has a 1.
abbrev pub with_change_flags_cleared : PortsState → ℕ → PortsState
with_change_flags_cleared s v = record s {
  b = record s.b { changed = s.b.changed && not (is_set v PCIF0) };
  c = record s.c { changed = s.c.changed && not (is_set v PCIF1) };
  d = record s.d { changed = s.d.changed && not (is_set v PCIF2) };
}

-- The flags of INT0 and INT1, likewise.
abbrev pub with_external_flags_cleared : PortsState → ℕ → PortsState
with_external_flags_cleared s v = record s {
  external = record s.external {
    int0_flag = s.external.int0_flag && not (is_set v INTF0);
    int1_flag = s.external.int1_flag && not (is_set v INTF1);
  };
}

-- The ports once a byte is written to a register. A 1 to a PIN bit toggles the PORT bit ("Toggling the Pin"),
-- a 1 to a flag clears it, and all other registers are stored.
abbrev pub written_register : PortsState → Register → ℕ → PortsState
written_register s (Pin name) v = let p = port_of s name in driven s name (record p { port = bit_xor p.port v })
written_register s (Ddr name) v = let p = port_of s name in driven s name (record p { ddr = v })
written_register s (registers.Port name) v = let p = port_of s name in driven s name (record p { port = v })
written_register s (ChangeMask name) v = let p = port_of s name in with_port s name (record p { pcmsk = v })
written_register s ChangeFlags v = with_change_flags_cleared s v
written_register s ChangeControl v = record s { pcicr = v }
written_register s ExternalFlags v = with_external_flags_cleared s v
written_register s ExternalMask v = record s { external = record s.external { eimsk = v } }
written_register s ExternalControl v = record s { external = record s.external { eicra = v } }

-- The ports once one PORT bit is toggled.
abbrev pub toggled : PortsState → PortName → ℕ → PortsState
toggled s name k = let p = port_of s name in driven s name (record p { port = with_bit p.port k (not (is_set p.port k)) })

-- The ports once `sbi` or `cbi` writes one bit of a register, and no other bit of it. `sbi` of a PIN bit toggles
-- that PORT bit and `sbi` of a flag clears that flag; `cbi` of either does nothing.
abbrev pub written_register_bit : PortsState → Register → ℕ → Bool → PortsState
written_register_bit s (Pin name) k set = if set then toggled s name k else s
written_register_bit s ChangeFlags k set = if set then with_change_flags_cleared s (2 ^ k) else s
written_register_bit s ExternalFlags k set = if set then with_external_flags_cleared s (2 ^ k) else s
written_register_bit s register k set = written_register s register (with_bit (register_value s register) k set)

-- What a place with this register, or with none, reads: 00 where there is none.
abbrev pub value_at : PortsState → Option Register → ℕ
value_at s None = 0
value_at s (Some register) = register_value s register

-- What a write there leaves: nothing changes where there is none.
abbrev pub written_at : PortsState → Option Register → ℕ → PortsState
written_at s None v = s
written_at s (Some register) v = written_register s register v

-- What a write of one bit there leaves.
abbrev pub written_bit_at : PortsState → Option Register → ℕ → Bool → PortsState
written_bit_at s None k set = s
written_bit_at s (Some register) k set = written_register_bit s register k set

-- What a data address reads.
abbrev pub read_value : PortsState → ℕ → ℕ
read_value s addr = value_at s (register_at addr)

-- The ports once a byte is written to a data address.
abbrev pub written : PortsState → ℕ → ℕ → PortsState
written s addr v = written_at s (register_at addr) v

-- The ports once `sbi` or `cbi` writes bit k of an I/O place.
abbrev pub written_bit : PortsState → ℕ → ℕ → Bool → PortsState
written_bit s io k set = written_bit_at s (io_register io) k set
