-- What a microcontroller asks of what stands on the other side of its bus, and the type of the answer to each call.
use Rattle.std.specs.Prelude.{ℕ, Bool, Result}
use Rattle.avr_core.specs.Ask.{Ask}
use Rattle.board_bus.specs.declared.event.BusEvent.{BusEvent}
use Rattle.board_bus.specs.declared.event.BusEvent.TheVariants.{Select, Byte, Look}
use Rattle.avr_space.specs.declared.bus.BusIsOver.{BusIsOver}

-- A change of the select line is answered by nothing, a byte by the byte that came back, and a look by whether INTn
-- is high. In place of each answer the bus may be over.
abbrev pub AnswerTo : BusEvent → Type 0
AnswerTo (Select low) = Result (Unit {0}) BusIsOver
AnswerTo (Byte mosi) = Result ℕ BusIsOver
AnswerTo Look = Result Bool BusIsOver

-- A tree of what is asked of the bus.
abbrev pub OfBus : Type 0 → Type 0
OfBus R = Ask BusEvent AnswerTo R
