-- The bus events of a history, and their answers.
use Rattle.std.specs.Prelude.{List, [], ◌∷◌, ◌++◌}
use Rattle.board_bus.specs.declared.event.BusAnswer.{BusAnswer}
use Rattle.board_bus.specs.declared.event.BusEvent.{BusEvent}
use Rattle.chip_sheet.specs.declared.event.Entry.TheVariants.{Bus, Link, Rest}
use Rattle.chip_sheet.specs.Past.{Past}

-- The oldest first.
abbrev pub asked_of : Past → List BusEvent
asked_of [] = []
asked_of (Bus e a ∷ past) = asked_of past ++ e ∷ []
asked_of (Link n what ∷ past) = asked_of past
asked_of (Rest ∷ past) = asked_of past

abbrev pub answers_of : Past → List BusAnswer
answers_of [] = []
answers_of (Bus e a ∷ past) = answers_of past ++ a ∷ []
answers_of (Link n what ∷ past) = answers_of past
answers_of (Rest ∷ past) = answers_of past
