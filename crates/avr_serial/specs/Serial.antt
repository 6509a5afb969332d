-- The SPI and the USART transmitter together, with the cycle count that they have passed.
use Rattle.std.specs.Prelude.{◌≡◌, ℕ, ◌<◌, min, ◌*◌, ◌+◌, ◌/◌, ◌%◌, ◌==◌, ◌&&◌, false, Option, Some, None, Result, Ok, Err, if◌then◌else◌}
use Rattle.avr_serial.specs.declared.register.Register.{Register}
use Rattle.avr_serial.specs.declared.register.Register.TheVariants.{Spcr, Spsr, Spdr, Ucsr0a, Ucsr0b, Ucsr0c, Ubrr0Low, Ubrr0High, Udr0}
use Rattle.avr_serial.specs.declared.spi.Spi.{Spi}
use Rattle.avr_serial.specs.declared.usart.Usart.{Usart}
use Rattle.avr_sheet.specs.BitNames.{SPIE, SPI2X, UDRIE0, TXCIE0}
use Rattle.avr_sheet.specs.Bits.{is_set}
use Rattle.avr_sheet.specs.Vectors.{SPI_STC, USART_UDRE, USART_TX}
use Rattle.avr_serial.specs.Registers.{register_at}
use Rattle.avr_serial.specs.Spi.{reset_spi, spsr_value, spsr_read, touched, spdr_written, start_answer, begun, end_of_transfer, spi_at}
use Rattle.avr_serial.specs.Usart.{reset_usart, ucsr0a_value, ucsr0a_written, udr0_answer, udr0_written, is_empty, end_of_frame, usart_at}
use Rattle.avr_sheet.specs.declared.stop.DeviceStop.{DeviceStop}

-- the registers and what is on its way, at a cycle count
pub record SerialState : Type 0 where
  -- the cycle count up to which all has passed
  pub cycle : ℕ
  pub spi : Spi
  pub usart : Usart

-- after reset, at cycle count 0
abbrev pub reset_state : SerialState
reset_state = record { cycle = 0; spi = reset_spi; usart = reset_usart }

-- the byte that a register reads; there is no receiver, so UDR0 reads 00
abbrev pub register_value : SerialState → Register → ℕ
register_value s Spcr = s.spi.spcr
register_value s Spsr = spsr_value s.spi
register_value s Spdr = s.spi.spdr
register_value s Ucsr0a = ucsr0a_value s.usart
register_value s Ucsr0b = s.usart.ucsr0b
register_value s Ucsr0c = s.usart.ucsr0c
register_value s Ubrr0Low = s.usart.ubrr0 % 256
register_value s Ubrr0High = s.usart.ubrr0 / 256
register_value s Udr0 = 0

-- what a reading of a register leaves
abbrev pub register_read : SerialState → Register → SerialState
register_read s Spsr = record s { spi = spsr_read s.spi }
register_read s Spdr = record s { spi = touched s.spi }
register_read s register = s

-- the answer to a write of SPDR, by what it would start
abbrev pub spdr_answer : Result (Option ℕ) DeviceStop → Result Unit DeviceStop
spdr_answer (Ok mosi) = Ok tt
spdr_answer (Err stop) = Err stop

-- the answer to a write of a register: writes of the two data registers may stop the board
abbrev pub register_answer : SerialState → Register → ℕ → Result Unit DeviceStop
register_answer s Spdr v = spdr_answer (start_answer s.spi v)
register_answer s Udr0 v = udr0_answer s.usart
register_answer s register v = Ok tt

-- what a write of a register leaves; SPSR stores SPI2X alone
abbrev pub register_written : SerialState → Register → ℕ → SerialState
register_written s Spcr v = record s { spi = record s.spi { spcr = v } }
register_written s Spsr v = record s { spi = record s.spi { spi2x = is_set v SPI2X } }
register_written s Spdr v = record s { spi = spdr_written v s.spi }
register_written s Ucsr0a v = record s { usart = ucsr0a_written v s.usart }
register_written s Ucsr0b v = record s { usart = record s.usart { ucsr0b = v } }
register_written s Ucsr0c v = record s { usart = record s.usart { ucsr0c = v } }
register_written s Ubrr0Low v = record s { usart = record s.usart { ubrr0 = s.usart.ubrr0 / 256 * 256 + v } }
register_written s Ubrr0High v = record s { usart = record s.usart { ubrr0 = 256 * v + s.usart.ubrr0 % 256 } }
register_written s Udr0 v = record s { usart = udr0_written s.cycle v s.usart }

-- at a place with this register, or with none: what it reads, what reading it leaves, the answer to a write, and
-- what that leaves
abbrev pub value_at : SerialState → Option Register → ℕ
value_at s None = 0
value_at s (Some register) = register_value s register

abbrev pub read_at : SerialState → Option Register → SerialState
read_at s None = s
read_at s (Some register) = register_read s register

abbrev pub answer_at : SerialState → Option Register → ℕ → Result Unit DeviceStop
answer_at s None v = Ok tt
answer_at s (Some register) v = register_answer s register v

abbrev pub written_at : SerialState → Option Register → ℕ → SerialState
written_at s None v = s
written_at s (Some register) v = register_written s register v

-- what a data address reads
abbrev pub read_value : SerialState → ℕ → ℕ
read_value s addr = value_at s (register_at addr)

-- what a reading of a data address leaves
abbrev pub read_state : SerialState → ℕ → SerialState
read_state s addr = read_at s (register_at addr)

-- the answer to a write of a data address
abbrev pub write_answer : SerialState → ℕ → ℕ → Result Unit DeviceStop
write_answer s addr v = answer_at s (register_at addr) v

-- what a write of a data address leaves; where it stops the board, all is as it was
abbrev pub written : SerialState → ℕ → ℕ → SerialState
written s addr v = written_at s (register_at addr) v

-- a transfer began, and the chip gave this byte
abbrev pub exchanged : SerialState → ℕ → ℕ → SerialState
exchanged s at miso = record s { spi = begun at miso s.spi }

-- all at a later cycle count
abbrev pub passed : SerialState → ℕ → SerialState
passed s to = record { cycle = to; spi = spi_at to s.spi; usart = usart_at to s.usart }

-- the next event: the first end of what is on its way, the transfer or the frame; the largest number of 64 bits where
-- nothing is. SPIF and TXC rise, and a waiting byte is printed, at no other time
abbrev pub next_event : SerialState → ℕ
next_event s = min (end_of_transfer s.spi.transfer) (end_of_frame s.usart.frame)

-- until then nothing changes but the cycle count
abbrev pub StaysUntil : SerialState → ℕ → Type 0
StaysUntil s until = (to : ℕ) → to < until → passed s to ≡ record s { cycle = to }

-- the pending interrupt, by the word address of its vector: the lowest that is enabled and requested
abbrev pub pending_vector : SerialState → Option ℕ
pending_vector s =
    if is_set s.spi.spcr SPIE && s.spi.spif then Some SPI_STC
    else if is_set s.usart.ucsr0b UDRIE0 && is_empty s.usart then Some USART_UDRE
    else if is_set s.usart.ucsr0b TXCIE0 && s.usart.txc then Some USART_TX
    else None

-- a vector was served: its flag is cleared, but for UDRE, which only a byte that waits clears
abbrev pub served_state : SerialState → ℕ → SerialState
served_state s vector =
    if vector == SPI_STC then record s { spi = record s.spi { spif = false } }
    else if vector == USART_TX then record s { usart = record s.usart { txc = false } }
    else s

-- the printed byte was taken
abbrev pub taken : SerialState → SerialState
taken s = record s { usart = record s.usart { printed = None } }
