-- How long the devices stay as they are, but for what time alone makes of them.
use Rattle.std.specs.Prelude.{◌≡◌, ℕ, ◌+◌, ◌<◌, ◌==◌, Option, None, if◌then◌else◌}
use Rattle.avr_space.specs.Devices.{pending, passed}
use Rattle.avr_space.specs.declared.devices.Devices.{Devices}

-- So many cycles go by, if any do.
abbrev pub lapsed : ℕ → Devices → Devices
lapsed n ds = if n == 0 then ds else passed n ds

-- The byte that entered the USART's shifter since the last one was taken.
abbrev pub printed : Devices → Option ℕ
printed ds = ds.serial.usart.printed

-- Nothing is requested before a count of cycles.
abbrev pub IsQuietUntil : Devices → ℕ → Type 0
IsQuietUntil ds until = (n : ℕ) → ds.cycles + n < until → pending (lapsed n ds) ≡ None

-- No byte enters the shifter before a count of cycles.
abbrev pub PrintsNoneUntil : Devices → ℕ → Type 0
PrintsNoneUntil ds until = (n : ℕ) → ds.cycles + n < until → printed (lapsed n ds) ≡ printed ds
