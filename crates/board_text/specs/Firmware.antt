-- The text of firmware's stops.
use Rattle.std.specs.Prelude.{ℕ, List, [], ◌∷◌, ◌++◌, codes}
use Rattle.avr_sheet.specs.declared.stop.DeviceStop.{DeviceStop}
use Rattle.avr_sheet.specs.declared.stop.DeviceStop.TheVariants.{Adc, Twi, Watchdog, Eeprom, ExternalClock, TimerMode, WaveformPin, SpiMode, UsartMode}
use Rattle.avr_sheet.specs.declared.stop.AvrStop.{AvrStop}
use Rattle.avr_sheet.specs.declared.stop.AvrStop.TheVariants.{Illegal, Undefined, BadAddress, StackOut, SelfProgram, Device}
use Rattle.board_text.specs.Stops.{decimals}

-- The name of a device's stop.
abbrev pub device_name : DeviceStop → List ℕ
device_name Adc = codes "Adc"
device_name Twi = codes "Twi"
device_name Watchdog = codes "Watchdog"
device_name Eeprom = codes "Eeprom"
device_name (ExternalClock timer) = codes "ExternalClock"
device_name (TimerMode timer mode) = codes "TimerMode"
device_name (WaveformPin timer) = codes "WaveformPin"
device_name (SpiMode spcr) = codes "SpiMode"
device_name (UsartMode ucsr0c) = codes "UsartMode"

-- Its values, in the order of its fields.
abbrev pub device_values : DeviceStop → List ℕ
device_values Adc = []
device_values Twi = []
device_values Watchdog = []
device_values Eeprom = []
device_values (ExternalClock timer) = timer ∷ []
device_values (TimerMode timer mode) = timer ∷ mode ∷ []
device_values (WaveformPin timer) = timer ∷ []
device_values (SpiMode spcr) = spcr ∷ []
device_values (UsartMode ucsr0c) = ucsr0c ∷ []

-- The name of a device's stop and its values.
abbrev pub device_text : DeviceStop → List ℕ
device_text stop = device_name stop ++ decimals (device_values stop)

-- The text of a stop of the firmware: its name and its values, in the order of its fields. The stop that a device says stands behind
-- the word address, with a space between, 32.
abbrev pub firmware_text : AvrStop → List ℕ
firmware_text (Illegal pc word) = codes "Illegal" ++ decimals (pc ∷ word ∷ [])
firmware_text (Undefined pc word) = codes "Undefined" ++ decimals (pc ∷ word ∷ [])
firmware_text (BadAddress pc addr) = codes "BadAddress" ++ decimals (pc ∷ addr ∷ [])
firmware_text (StackOut pc sp) = codes "StackOut" ++ decimals (pc ∷ sp ∷ [])
firmware_text (SelfProgram pc) = codes "SelfProgram" ++ decimals (pc ∷ [])
firmware_text (Device pc stop) = codes "Device" ++ decimals (pc ∷ []) ++ 32 ∷ device_text stop
