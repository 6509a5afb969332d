-- What ends a run on given answers.
use Rattle.std.specs.Prelude.{◌≡◌, ◌≤◌, ℕ, List, length}
use Rattle.avr_mcu.specs.Run.{run}
use Rattle.avr_mcu.specs.State.{McuState}
use Rattle.board_bus.specs.declared.event.BusAnswer.{BusAnswer}
use Rattle.board_bus.specs.declared.event.BusEvent.{BusEvent}
use Rattle.avr_mcu.specs.declared.run.RunEnd.TheVariants.{CycleLimit, Wants}

-- A run that ends by the limit of cycles has come to it.
abbrev pub LimitIsReached : Type 0
LimitIsReached = (limit : ℕ) (s : McuState) (xs : List BusAnswer) →
    (run limit s xs).end ≡ CycleLimit → limit ≤ (run limit s xs).cycles

-- A run that ends by a call for which no answer is left has used every answer, each for one call.
abbrev pub AnswersAreUsed : Type 0
AnswersAreUsed = (limit : ℕ) (s : McuState) (xs : List BusAnswer) (call : BusEvent) →
    (run limit s xs).end ≡ Wants call → length (run limit s xs).asked ≡ length xs
