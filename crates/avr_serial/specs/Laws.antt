-- What follows for whole stretches of time.
use Rattle.std.specs.Prelude.{◌≡◌, ℕ, ◌+◌, ◌*◌, ◌%◌, ◌<◌, ◌≤◌, true, false, Some, None}
use Rattle.avr_serial.specs.declared.spi.Spi.{Spi}
use Rattle.avr_serial.specs.declared.usart.Usart.{Usart}
use Rattle.avr_serial.specs.Serial.{SerialState, passed}
use Rattle.avr_serial.specs.Spi.{begun, on_line, sck_divisor, spi_at}
use Rattle.avr_serial.specs.Usart.{frame_cycles, takes, is_mode_built, is_empty, udr0_written, usart_at}

-- a span that is passed in two parts leaves what passing it at once leaves
abbrev pub PassesInParts : Type 0
PassesInParts = (s : SerialState) (mid to : ℕ) → mid ≤ to → passed (passed s mid) to ≡ passed s to

-- a transfer that begins with SPIF clear: before eight SCK periods are over, SPIF is clear and SPDR shows the old
-- byte; from then on, SPIF is set and SPDR shows the received byte
abbrev pub EndsAfterEightPeriods : Type 0
EndsAfterEightPeriods = (s : Spi) (at miso now : ℕ) → s.spif ≡ false →
    let end = at + 8 * sck_divisor s.spi2x (s.spcr % 4) in
    let later = spi_at now (begun at miso s) in
    (now < end → (later.spif ≡ false) × (later.spdr ≡ s.spdr))
    × (end ≤ now → (later.spif ≡ true) × (later.spdr ≡ on_line s miso))

-- two bytes were sent back to back, the first from cycle count `at` on: the second waits with UDRE clear until the
-- first one's frame ends, enters the shifter just then, and TXC is set when its own frame ends
pub record ShowsFrames (u : Usart) (at now v w : ℕ) (later : Usart) : Type 0 where
  pub first : now < at + frame_cycles u → (is_empty later ≡ false) × (later.printed ≡ Some v) × (later.txc ≡ false)
  pub second : at + frame_cycles u ≤ now → now < at + 2 * frame_cycles u → (is_empty later ≡ true) × (later.printed ≡ Some w) × (later.txc ≡ false)
  pub done : at + 2 * frame_cycles u ≤ now → (is_empty later ≡ true) × (later.printed ≡ Some w) × (later.txc ≡ true)

-- a second byte that is written while the first one is shifted follows it back to back
abbrev pub FramesFollow : Type 0
FramesFollow = (u : Usart) (at between now v w : ℕ) → takes u ≡ true → is_mode_built u ≡ true → u.frame ≡ None → u.txc ≡ false →
    between < at + frame_cycles u → between ≤ now →
    ShowsFrames u at now v w (usart_at now (udr0_written between w (usart_at between (udr0_written at v u))))
