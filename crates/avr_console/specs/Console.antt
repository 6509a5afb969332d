-- The bytes that a USART receiver gets from a console, and when (ATmega328P datasheet, "Data Reception - The USART Receiver"). The
-- console sends the next byte only where the receiver has room for it, so nothing is overrun; that is this board's own.
use Rattle.std.specs.Prelude.{◌≡◌, ◌<◌, ℕ, ◌+◌, ◌-◌, ◌^◌, min, ◌&&◌, Bool, true, false, List, [], ◌∷◌, Option, Some, None, if◌then◌else◌, nat_le}
use Rattle.avr_console.specs.declared.arrival.Arrival.{Arrival}
use Rattle.avr_console.specs.declared.waiting.Waiting.{Waiting}
use Rattle.avr_console.specs.declared.waiting.Waiting.TheVariants as waits

-- the receiver's bytes, at a cycle count
pub record ConsoleState : Type 0 where
  -- the cycle count up to which all has passed
  pub cycle : ℕ
  -- RXEN
  pub on : Bool
  -- how many cycles a frame takes that begins now
  pub frame : ℕ
  -- the frame on the way
  pub coming : Option Arrival
  pub waiting : Waiting
  -- the bytes that the console has not sent
  pub left : List ℕ

-- a receiver that is off, before a console with these bytes
abbrev pub started : List ℕ → ConsoleState
started bytes = record { cycle = 0; on = false; frame = 0; coming = None; waiting = waits.Nothing; left = bytes }

-- fewer than two bytes wait
abbrev pub has_room : Waiting → Bool
has_room waits.Nothing = true
has_room (waits.One oldest) = true
has_room (waits.Two oldest newest) = false

-- there is a next byte
abbrev pub is_more : List ℕ → Bool
is_more [] = false
is_more (byte ∷ more) = true

-- a byte more waits, behind the others
abbrev pub joined : Waiting → ℕ → Waiting
joined waits.Nothing byte = waits.One byte
joined (waits.One oldest) byte = waits.Two oldest byte
joined (waits.Two oldest newest) byte = waits.Two oldest newest

-- a frame begins at this cycle count, where the receiver is on, has room, and there is a next byte
abbrev pub begun : ℕ → ConsoleState → ConsoleState
begun at s =
    if s.on && (has_room s.waiting && is_more s.left) then record s { coming = Some (record { began = at; cycles = s.frame }) }
    else record s { coming = None }

-- RXEN is written, with the frame time that holds from now on: a receiver that goes on has a frame on the way from now on; one that
-- stays on keeps the frame that is on the way; one that goes off, or stays so, has none
abbrev pub enabled : Bool → ℕ → ℕ → ConsoleState → ConsoleState
enabled false frame at s = record s { on = false; frame = frame; coming = None }
enabled true frame at s = if s.on then record s { frame = frame } else begun at (record s { on = true; frame = frame })

-- the next byte arrives at this cycle count, and the frame behind it begins
abbrev pub landed : ℕ → List ℕ → ConsoleState → ConsoleState
landed at [] s = record s { coming = None }
landed at (byte ∷ more) s = begun at (record s { waiting = joined s.waiting byte; left = more })

-- the frame on the way, if there is one, has arrived where its cycles are over
abbrev pub arrived : ℕ → Option Arrival → ConsoleState → ConsoleState
arrived by_now None s = s
arrived by_now (Some frame) s =
    if nat_le (frame.began + frame.cycles) by_now then landed (frame.began + frame.cycles) s.left s else s

-- one frame at most has arrived
abbrev pub once : ℕ → ConsoleState → ConsoleState
once by_now s = arrived by_now s.coming s

-- all at a later cycle count; more than two bytes never arrive without a reading
abbrev pub passed : ConsoleState → ℕ → ConsoleState
passed s to = record (once to (once to s)) { cycle = to }

-- RXC: a byte waits
abbrev pub is_ready : Waiting → Bool
is_ready waits.Nothing = false
is_ready (waits.One oldest) = true
is_ready (waits.Two oldest newest) = true

-- the byte that a reading takes: the oldest
abbrev pub oldest_of : Waiting → Option ℕ
oldest_of waits.Nothing = None
oldest_of (waits.One oldest) = Some oldest
oldest_of (waits.Two oldest newest) = Some oldest

-- what a reading leaves: where two bytes waited it makes room, and a frame begins
abbrev pub taken_by : Waiting → ConsoleState → ConsoleState
taken_by waits.Nothing s = s
taken_by (waits.One oldest) s = record s { waiting = waits.Nothing }
taken_by (waits.Two oldest newest) s = begun s.cycle (record s { waiting = waits.One newest })

abbrev pub taken : ConsoleState → ConsoleState
taken s = taken_by s.waiting s

-- the cycle count at which the frame on the way arrives, as a number of 64 bits; the largest of these where there is none
abbrev pub end_of_frame : Option Arrival → ℕ
end_of_frame None = 2 ^ 64 - 1
end_of_frame (Some frame) = min (frame.began + frame.cycles) (2 ^ 64 - 1)

-- the next event: no byte arrives before it
abbrev pub next_event : ConsoleState → ℕ
next_event s = end_of_frame s.coming

-- until then nothing changes but the cycle count
abbrev pub StaysUntil : ConsoleState → ℕ → Type 0
StaysUntil s until = (to : ℕ) → to < until → passed s to ≡ record s { cycle = to }
