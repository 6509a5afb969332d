-- When a step is cut off.
use Rattle.std.specs.Prelude.{◌≡◌, ◌↔◌, List, IsSome}
use Rattle.avr_mcu.specs.Answers.{led}
use Rattle.avr_mcu.specs.State.{McuState}
use Rattle.avr_mcu.specs.Step.{stepped}
use Rattle.board_bus.specs.declared.event.BusAnswer.{BusAnswer}
use Rattle.avr_mcu.specs.declared.went.McuWent.TheVariants.{BusOver}

-- On a list of answers a step ends with the bus over exactly where it made a call after the last answer.
abbrev pub OverOnlyWhereWanted : Type 0
OverOnlyWhereWanted = (s : McuState) (xs : List BusAnswer) →
    ((led (stepped s) xs).result.went ≡ BusOver) ↔ IsSome (led (stepped s) xs).wants
