-- The bits of EECR that this device alone has, and its vector (ATmega328P datasheet, "The EEPROM Control Register",
-- "Interrupt Vectors in ATmega328P").
use Rattle.std.specs.Prelude.{ℕ}

-- EEMPE, which lets a write begin for four cycles
abbrev pub EEMPE : ℕ
EEMPE = 2

-- EERIE, which enables EE READY
abbrev pub EERIE : ℕ
EERIE = 3

-- EEPM0, the lower of the two mode bits, and EEPM1
abbrev pub EEPM0 : ℕ
EEPM0 = 4

abbrev pub EEPM1 : ℕ
EEPM1 = 5

-- EEPROM ready, the word address of the vector
abbrev pub EE_READY : ℕ
EE_READY = 0x2C
