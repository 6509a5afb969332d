-- A firmware that gives the chip these events of the bus, and then ends.
use Rattle.std.specs.Prelude.{ℕ, ◌<◌, ◌≤◌, List, length, [], ◌∷◌, true, false, take, flat_map}
use Rattle.board_bus.specs.declared.event.BusEvent.{BusEvent}
use Rattle.board_bus.specs.declared.event.BusEvent.TheVariants.{Select, Byte, Look}
use Rattle.board_echo.specs.Assembly.{Step, Line, line, cbi, sbi, ldi, rcall, break, steps_of, words_from, words_of, AreDecoded}
use Rattle.board_echo.specs.Echo.{r24, transfer, echo_lines}

-- What gives the chip one event. The select line is PB2; a look gives it nothing.
abbrev pub event_steps : BusEvent → List Step
event_steps (Select true) = cbi 0x05 2 ∷ []
event_steps (Select false) = sbi 0x05 2 ∷ []
event_steps (Byte v) = ldi r24 v ∷ rcall "XFER" ∷ []
event_steps Look = []

-- What gives the chip events, in their order.
abbrev pub steps_for : List BusEvent → List Step
steps_for events = flat_map event_steps events

-- It begins with the seven instructions with which the echo server begins: they set PB2, make outputs, and turn on SPI.
unfoldable pub frames_lines : List BusEvent → List Line
frames_lines events =
    line "" (take 7 (steps_of echo_lines)) ∷
    line "" (steps_for events) ∷
    line "" (break ∷ []) ∷
    transfer

-- Its words.
unfoldable pub frames_words : List BusEvent → List ℕ
frames_words events = words_of (frames_lines events)

-- The bytes of events are bytes.
abbrev pub IsByte : BusEvent → Type 0
IsByte (Select low) = Unit {0}
IsByte (Byte v) = v < 256
IsByte Look = Unit {0}

abbrev pub AreBytes : List BusEvent → Type 0
AreBytes [] = Unit {0}
AreBytes (e ∷ es) = IsByte e × AreBytes es

-- The words are decoded to the lines, unless they are too many.
abbrev pub FramesAreDecoded : Type 0
FramesAreDecoded =
    (events : List BusEvent) → AreBytes events → length (frames_words events) ≤ 2048 → AreDecoded (frames_words events) (frames_lines events)

-- For the code: the words of one event, by the place of the transfer.
abbrev pub event_words : ℕ → ℕ → BusEvent → List ℕ
event_words transfer_at at event = words_from (λ label. transfer_at) at (event_steps event)
