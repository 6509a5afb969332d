-- Which interrupt is pending, and what serving it leaves (ATmega328P datasheet, "Interrupts").
use Rattle.std.specs.Prelude.{ℕ, ◌==◌, Bool, false, not, ◌&&◌, List, [], ◌∷◌, Option, find, if◌then◌else◌}
use Rattle.avr_ports.specs.declared.port.PortName.TheVariants.{D}
use Rattle.avr_sheet.specs.BitNames.{INTF0, INTF1, PCIF0, PCIF1, PCIF2, PD2, PD3}
use Rattle.avr_sheet.specs.Bits.{is_set}
use Rattle.avr_sheet.specs.Vectors.{INT0, INT1, PCINT0, PCINT1, PCINT2}
use Rattle.avr_ports.specs.Ports.{PortsState}
use Rattle.avr_ports.specs.Levels.{level, int0_sense, int1_sense}
use Rattle.avr_ports.specs.Sense.{is_low_level}

-- The vectors of the ports, the most urgent first.
abbrev pub vectors : List ℕ
vectors = INT0 ∷ INT1 ∷ PCINT0 ∷ PCINT1 ∷ PCINT2 ∷ []

-- Whether the request of a vector is made and enabled. An external request of the low-level sense is made
-- while its pin is low, whatever its flag; any other one while its flag is set.
abbrev pub is_requested : PortsState → ℕ → Bool
is_requested s vector =
    if vector == INT0 then is_set s.external.eimsk INTF0 && (if is_low_level (int0_sense s) then not (level s D PD2) else s.external.int0_flag)
    else if vector == INT1 then is_set s.external.eimsk INTF1 && (if is_low_level (int1_sense s) then not (level s D PD3) else s.external.int1_flag)
    else if vector == PCINT0 then is_set s.pcicr PCIF0 && s.b.changed
    else if vector == PCINT1 then is_set s.pcicr PCIF1 && s.c.changed
    else if vector == PCINT2 then is_set s.pcicr PCIF2 && s.d.changed
    else false

-- The pending vector: the first that is requested.
abbrev pub pending_vector : PortsState → Option ℕ
pending_vector s = find (is_requested s) vectors

-- The ports once a vector is served: its flag is cleared, but that of a low-level request stays.
abbrev pub served_state : PortsState → ℕ → PortsState
served_state s vector =
    if vector == INT0 then (if is_low_level (int0_sense s) then s else record s { external = record s.external { int0_flag = false } })
    else if vector == INT1 then (if is_low_level (int1_sense s) then s else record s { external = record s.external { int1_flag = false } })
    else if vector == PCINT0 then record s { b = record s.b { changed = false } }
    else if vector == PCINT1 then record s { c = record s.c { changed = false } }
    else if vector == PCINT2 then record s { d = record s.d { changed = false } }
    else s
