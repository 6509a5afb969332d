-- Steps that are taken one after another: what a script of them is answered.
use Rattle.std.specs.Prelude.{ℕ, true, false, List, [], ◌∷◌, Some, None}
use Rattle.board_bus.specs.declared.event.BusEvent.{BusEvent}
use Rattle.board_bus.specs.declared.event.BusAnswer.{BusAnswer}
use Rattle.chip_sheet.specs.declared.stop.ChipStop.{ChipStop}
use Rattle.chip_sheet.specs.declared.event.Entry.TheVariants.{Bus, Link}
use Rattle.chip_sheet.specs.declared.event.LinkEntry.{LinkEntry}
use Rattle.chip_sheet.specs.Past.{Past}
use Rattle.chip_sheet.specs.Streams.{Starts}
use Rattle.chip_sheet.specs.Answers.{answer}
use Rattle.chip_sheet.specs.Stops.{stop}
use Rattle.chip_sheet.specs.LinkCalls.{fits}

-- A step: an event of the bus, or a link event of a socket.
pub data Step : Type 0 where
  Asks : BusEvent → Step
  Happens : ℕ → LinkEntry → Step

-- How steps end: all were taken, the next one has a stop, or it is a link event that does not fit.
pub data Ending : Type 0 where
  AllTaken : Ending
  StoppedBy : ChipStop → Ending
  NotDue : Ending

-- The answers, what has happened then, and the ending.
pub record Told : Type 0 where
  pub answers : List BusAnswer
  pub past : Past
  pub ending : Ending

-- The past once this event is answered too.
abbrev pub answered : Starts → Past → BusEvent → Past
answered starts past e = Bus e (answer starts past e) ∷ past

abbrev pub ends_with : Past → Ending → Told
ends_with past ending = record { answers = []; past = past; ending = ending }

abbrev pub with_answer : BusAnswer → Told → Told
with_answer a rest = record { answers = a ∷ rest.answers; past = rest.past; ending = rest.ending }

-- What these steps are told after this past.
abbrev pub told : Starts → Past → List Step → Told
told starts past [] = ends_with past AllTaken
told starts past (Asks e ∷ more) =
    elim (stop starts past e) [
      | Some s ↦ ends_with past (StoppedBy s)
      | None ↦ with_answer (answer starts past e) (told starts (answered starts past e) more)
    ]
told starts past (Happens n what ∷ more) =
    elim (fits starts past n what) [
      | true ↦ told starts (Link n what ∷ past) more
      | false ↦ ends_with past NotDue
    ]
