-- Where the registers of the ports stand (ATmega328P datasheet, "Register Summary").
use Rattle.std.specs.Prelude.{ℕ, ◌==◌, List, [], ◌∷◌, Option, Some, None, if◌then◌else◌, nat_lt}
use Rattle.avr_sheet.specs.Registers.{io_address, PINB, DDRB, PORTB, PINC, DDRC, PORTC, PIND, DDRD, PORTD, PCIFR, EIFR, EIMSK, PCICR, EICRA, PCMSK0, PCMSK1, PCMSK2}
use Rattle.avr_ports.specs.declared.port.PortName.TheVariants.{B, C, D}
use Rattle.avr_ports.specs.declared.register.Register.{Register}
use Rattle.avr_ports.specs.declared.register.Register.TheVariants as registers

-- A register and its data address.
pub record Row : Type 0 where
  pub address : ℕ
  pub register : Register

abbrev row : ℕ → Register → Row
row address register = record { address = address; register = register }

abbrev pub port_registers : List Row
port_registers =
    row PINB (registers.Pin B) ∷
    row DDRB (registers.Ddr B) ∷
    row PORTB (registers.Port B) ∷
    row PINC (registers.Pin C) ∷
    row DDRC (registers.Ddr C) ∷
    row PORTC (registers.Port C) ∷
    row PIND (registers.Pin D) ∷
    row DDRD (registers.Ddr D) ∷
    row PORTD (registers.Port D) ∷
    row PCIFR registers.ChangeFlags ∷
    row EIFR registers.ExternalFlags ∷
    row EIMSK registers.ExternalMask ∷
    row PCICR registers.ChangeControl ∷
    row EICRA registers.ExternalControl ∷
    row PCMSK0 (registers.ChangeMask B) ∷
    row PCMSK1 (registers.ChangeMask C) ∷
    row PCMSK2 (registers.ChangeMask D) ∷
    []

-- The register of the first row with this address.
abbrev pub register_in : List Row → ℕ → Option Register
register_in [] addr = None
register_in (r ∷ more) addr = if addr == r.address then Some r.register else register_in more addr

-- The register at a data address.
abbrev pub register_at : ℕ → Option Register
register_at addr = register_in port_registers addr

-- The register at a place of the lower 32 I/O places, which `sbi` and `cbi` reach.
abbrev pub io_register : ℕ → Option Register
io_register io = if nat_lt io 32 then register_at (io_address io) else None
