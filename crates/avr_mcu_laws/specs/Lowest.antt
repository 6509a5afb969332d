-- Which interrupt comes first (ATmega328P datasheet, "Reset and Interrupt Handling": the lower the address of a vector,
-- the higher its priority).
use Rattle.std.specs.Prelude.{◌≡◌, ◌≤◌, ℕ, ◌==◌, Bool, true, false, ◌&&◌, ◌⊎◌, Some, if◌then◌else◌}
use Rattle.avr_space.specs.Devices.{pending}
use Rattle.avr_space.specs.declared.devices.Devices.{Devices}
use Rattle.avr_ports.specs.Requests.{is_requested as is_ports_requested}
use Rattle.avr_sheet.specs.Bits.{is_set}
use Rattle.avr_serial.specs.Serial.{SerialState}
use Rattle.avr_serial.specs.Usart.{is_empty}
use Rattle.avr_timer.specs.Requests.{is_requested as is_timers_requested}

-- Whether the flag of a vector of the serial devices is set and its interrupt enabled: SPI transfer complete by SPIE,
-- bit 7 of SPCR; USART data register empty by UDRIE0, bit 5 of UCSR0B; USART transmit complete by TXCIE0, its bit 6.
abbrev pub is_serial_requested : SerialState → ℕ → Bool
is_serial_requested s vector =
    if vector == 0x22 then is_set s.spi.spcr 7 && s.spi.spif
    else if vector == 0x26 then is_set s.usart.ucsr0b 5 && is_empty s.usart
    else if vector == 0x28 then is_set s.usart.ucsr0b 6 && s.usart.txc
    else false

-- Some device requests this vector, by its word address.
abbrev pub Requests : Devices → ℕ → Type 0
Requests ds vector =
    (is_ports_requested ds.ports vector ≡ true) ⊎ (is_timers_requested ds.timers vector ≡ true)
    ⊎ (is_serial_requested ds.serial vector ≡ true)

-- What is pending is requested; where any vector is requested, one at or below it is pending.
pub record IsLowest (ds : Devices) : Type 0 where
  pub requested : (vector : ℕ) → pending ds ≡ Some vector → Requests ds vector
  pub lowest : (vector : ℕ) → Requests ds vector → (first : ℕ) × (pending ds ≡ Some first) × (first ≤ vector)

abbrev pub LowestVectorFirst : Type 0
LowestVectorFirst = (ds : Devices) → IsLowest ds
