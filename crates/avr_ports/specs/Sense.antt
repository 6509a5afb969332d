-- What makes an external interrupt request (ATmega328P datasheet, "External Interrupts", EICRA).
use Rattle.std.specs.Prelude.{ℕ, ◌==◌, Bool, false, not, ◌&&◌, if◌then◌else◌}
use Rattle.avr_sheet.specs.Bits.{differ}
use Rattle.avr_ports.specs.declared.external.Sense.{Sense}
use Rattle.avr_ports.specs.declared.external.Sense.TheVariants.{LowLevel, AnyChange, FallingEdge, RisingEdge}

-- The sense of two control bits.
abbrev pub sense_of : ℕ → Sense
sense_of bits =
    if bits == 0 then LowLevel
    else if bits == 1 then AnyChange
    else if bits == 2 then FallingEdge
    else RisingEdge

-- Whether a pin that goes from one level to another raises the flag. The low-level sense has no edge: its
-- request is the pin's level alone.
abbrev pub is_edge : Sense → Bool → Bool → Bool
is_edge LowLevel was high = false
is_edge AnyChange was high = differ was high
is_edge FallingEdge was high = was && not high
is_edge RisingEdge was high = not was && high

-- Whether the request is the pin's low level.
abbrev pub is_low_level : Sense → Bool
is_low_level LowLevel = Rattle.std.specs.Prelude.true
is_low_level _ = false
