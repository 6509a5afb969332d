-- To which device a register belongs.
use Rattle.std.specs.Prelude.{ℕ, ◌==◌, Bool, false, ◌||◌, ◌&&◌, List, [], ◌∷◌, is_some, if◌then◌else◌, nat_le}
use Rattle.avr_space.specs.Registers.{stored_registers}
use Rattle.avr_space.specs.declared.owner.Owner.{Owner}
use Rattle.avr_space.specs.declared.owner.Owner.TheVariants.{Ports, Timers, Serial, Stored, Nobody}
use Rattle.avr_ports.specs.Registers.{register_at as port_register_at}
use Rattle.avr_serial.specs.Registers.{register_at as serial_register_at}
use Rattle.avr_timer.specs.Places.{place_at}

-- Whether a list has this number.
abbrev pub has : List ℕ → ℕ → Bool
has [] n = false
has (x ∷ xs) n = x == n || has xs n

-- The owner of an address below SRAM. A place of nobody reads 00, and writes there have no effect.
unfoldable pub owner_of : ℕ → Owner
owner_of at =
    if is_some (port_register_at at) then Ports
    else if is_some (place_at at) then Timers
    else if is_some (serial_register_at at) then Serial
    else if has stored_registers at then Stored
    else Nobody

-- Whether an address lies between two, both included.
abbrev pub within : ℕ → ℕ → ℕ → Bool
within low high at = nat_le low at && nat_le at high

-- The same as ranges. The check computes that it agrees with the definition above at every address below SRAM, so no
-- reader has to believe it.
abbrev pub is_of_ports : ℕ → Bool
is_of_ports at = within 0x23 0x2B at || within 0x3B 0x3D at || within 0x68 0x69 at || within 0x6B 0x6D at

abbrev pub is_of_timers : ℕ → Bool
is_of_timers at =
    within 0x35 0x37 at || within 0x44 0x48 at || within 0x6E 0x70 at || within 0x80 0x81 at || within 0x84 0x8B at
    || within 0xB0 0xB4 at || at == 0xB6

abbrev pub is_of_serial : ℕ → Bool
is_of_serial at = within 0x4C 0x4E at || within 0xC0 0xC2 at || within 0xC4 0xC6 at

abbrev pub is_stored : ℕ → Bool
is_stored at =
    within 0x3E 0x42 at || within 0x4A 0x4B at || at == 0x50 || within 0x53 0x55 at || at == 0x57 || within 0x60 0x61 at
    || at == 0x64 || at == 0x66 || within 0x78 0x7C at || within 0x7E 0x7F at || within 0xB8 0xBD at

unfoldable pub owner_by_ranges : ℕ → Owner
owner_by_ranges at =
    if is_of_ports at then Ports
    else if is_of_timers at then Timers
    else if is_of_serial at then Serial
    else if is_stored at then Stored
    else Nobody
