-- The data space beside the core (ATmega328P datasheet, "Register Summary"): the registers that no device here looks
-- at, and which writes of them stop the board.
use Rattle.std.specs.Prelude.{ℕ, ◌==◌, Bool, not, ◌&&◌, ◌||◌, List, [], ◌∷◌, Option, Some, None, if◌then◌else◌, slice_set}
use Rattle.avr_sheet.specs.Registers.{GPIOR0, EECR, EEDR, EEARL, EEARH, GPIOR1, GPIOR2, ACSR, SMCR, MCUSR, MCUCR, SPMCSR, WDTCSR, CLKPR, PRR, OSCCAL, ADCL, ADCH, ADCSRA, ADCSRB, ADMUX, DIDR0, DIDR1, TWBR, TWSR, TWAR, TWDR, TWCR, TWAMR}
use Rattle.avr_sheet.specs.BitNames.{ADEN, ADSC, ADATE, TWEN, WDIE, WDE, WDCE, EERE, EEPE}
use Rattle.avr_sheet.specs.Bits.{is_set}
use Rattle.avr_core.specs.Memory.{zeros}
use Rattle.avr_sheet.specs.declared.stop.DeviceStop.{DeviceStop}
use Rattle.avr_sheet.specs.declared.stop.DeviceStop.TheVariants.{Adc, Twi, Watchdog, Eeprom}

-- The registers that are stored as they are written. The other named registers belong to the ports, the timers and the serial
-- devices; GTCCR and TCCR1C read 00.
abbrev pub stored_registers : List ℕ
stored_registers =
    GPIOR0 ∷ EECR ∷ EEDR ∷ EEARL ∷ EEARH ∷ GPIOR1 ∷ GPIOR2
    ∷ ACSR ∷ SMCR ∷ MCUSR ∷ MCUCR ∷ SPMCSR
    ∷ WDTCSR ∷ CLKPR ∷ PRR ∷ OSCCAL
    ∷ ADCL ∷ ADCH ∷ ADCSRA ∷ ADCSRB ∷ ADMUX ∷ DIDR0 ∷ DIDR1
    ∷ TWBR ∷ TWSR ∷ TWAR ∷ TWDR ∷ TWCR ∷ TWAMR ∷ []

-- After reset: a power-on reset is noted by PORF in MCUSR, and all other registers and SRAM are 00 (SRAM is this
-- profile's own). The list goes up to the end of SRAM, 08FF.
abbrev pub reset_memory : List ℕ
reset_memory = slice_set (zeros 2304) MCUSR 1

-- ADCSRA starts the converter by ADSC, or by ADEN with ADATE.
abbrev pub starts_converter : ℕ → Bool
starts_converter v = is_set v ADSC || (is_set v ADEN && is_set v ADATE)

-- WDTCSR starts the watchdog by WDIE or WDE, where WDCE is clear.
abbrev pub starts_watchdog : ℕ → Bool
starts_watchdog v = not (is_set v WDCE) && (is_set v WDIE || is_set v WDE)

-- EECR reads or writes the EEPROM by EERE or EEPE.
abbrev pub uses_eeprom : ℕ → Bool
uses_eeprom v = is_set v EERE || is_set v EEPE

abbrev pub stop_if : Bool → DeviceStop → Option DeviceStop
stop_if stops stop = if stops then Some stop else None

-- Why this value of a stored register stops the board, if it does.
unfoldable pub stop_of_stored : ℕ → ℕ → Option DeviceStop
stop_of_stored at v =
    if at == ADCSRA then stop_if (starts_converter v) Adc
    else if at == TWCR then stop_if (is_set v TWEN) Twi
    else if at == WDTCSR then stop_if (starts_watchdog v) Watchdog
    else if at == EECR then stop_if (uses_eeprom v) Eeprom
    else None
