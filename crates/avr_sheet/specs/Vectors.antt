-- The interrupt vectors by their word addresses in flash (ATmega328P datasheet, "Interrupt Vectors in ATmega328P"; the
-- names are those of its "Interrupt definition" column, with the timer in front).
use Rattle.std.specs.Prelude.{ℕ}

-- External interrupt 0
abbrev pub INT0 : ℕ
INT0 = 0x02

-- External interrupt 1
abbrev pub INT1 : ℕ
INT1 = 0x04

-- A pin change of port B
abbrev pub PCINT0 : ℕ
PCINT0 = 0x06

-- A pin change of port C
abbrev pub PCINT1 : ℕ
PCINT1 = 0x08

-- A pin change of port D
abbrev pub PCINT2 : ℕ
PCINT2 = 0x0A

-- Timer 2, compare match A
abbrev pub TIMER2_COMPA : ℕ
TIMER2_COMPA = 0x0E

-- Timer 2, compare match B
abbrev pub TIMER2_COMPB : ℕ
TIMER2_COMPB = 0x10

-- Timer 2, overflow
abbrev pub TIMER2_OVF : ℕ
TIMER2_OVF = 0x12

-- Timer 1, input capture
abbrev pub TIMER1_CAPT : ℕ
TIMER1_CAPT = 0x14

-- Timer 1, compare match A
abbrev pub TIMER1_COMPA : ℕ
TIMER1_COMPA = 0x16

-- Timer 1, compare match B
abbrev pub TIMER1_COMPB : ℕ
TIMER1_COMPB = 0x18

-- Timer 1, overflow
abbrev pub TIMER1_OVF : ℕ
TIMER1_OVF = 0x1A

-- Timer 0, compare match A
abbrev pub TIMER0_COMPA : ℕ
TIMER0_COMPA = 0x1C

-- Timer 0, compare match B
abbrev pub TIMER0_COMPB : ℕ
TIMER0_COMPB = 0x1E

-- Timer 0, overflow
abbrev pub TIMER0_OVF : ℕ
TIMER0_OVF = 0x20

-- SPI, transfer complete
abbrev pub SPI_STC : ℕ
SPI_STC = 0x22

-- USART0, byte received
abbrev pub USART_RX : ℕ
USART_RX = 0x24

-- USART0, data register empty
abbrev pub USART_UDRE : ℕ
USART_UDRE = 0x26

-- USART0, transmission complete
abbrev pub USART_TX : ℕ
USART_TX = 0x28
