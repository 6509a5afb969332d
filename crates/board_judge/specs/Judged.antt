-- The first place of a history that the datasheet does not allow.
use Rattle.std.specs.Prelude.{ℕ, nat_lt, Bool, true, false, not, ◌==◌, ◌&&◌, List, [], ◌∷◌, length, Option, None, Some, if◌then◌else◌}
use Rattle.board_bus.specs.declared.event.BusAnswer.{BusAnswer}
use Rattle.board_bus.specs.declared.event.BusAnswer.TheVariants.{Done, Out, Level}
use Rattle.chip_sheet.specs.declared.stop.ChipStop.{ChipStop}
use Rattle.chip_sheet.specs.declared.event.Entry.{Entry}
use Rattle.chip_sheet.specs.declared.event.Entry.TheVariants.{Bus, Link, Rest}
use Rattle.chip_sheet.specs.Past.{Past}
use Rattle.chip_sheet.specs.Streams.{Starts}
use Rattle.chip_sheet.specs.Answers.{answer}
use Rattle.chip_sheet.specs.Stops.{stop}
use Rattle.chip_sheet.specs.LinkCalls.{fits}
use Rattle.board_judge.specs.declared.end.JudgeFault.{JudgeFault}
use Rattle.board_judge.specs.declared.end.JudgeFault.TheVariants.{Differs, Unfit, Stops}

-- An answer as a byte: the level of the interrupt line is 1 or 0.
abbrev pub answer_byte : BusAnswer → ℕ
answer_byte (Out v) = v
answer_byte (Level high) = if high then 1 else 0
answer_byte Done = 0

abbrev pub same_answer : BusAnswer → BusAnswer → Bool
same_answer Done Done = true
same_answer (Out v) (Out w) = v == w
same_answer (Level high) (Level other) = if high then other else not other
same_answer a b = false

-- What is wrong at a place with an answer, where the datasheet has that one.
abbrev pub compared : ℕ → BusAnswer → BusAnswer → Option JudgeFault
compared place expected found =
    if same_answer expected found then None else Some (Differs place (answer_byte expected) (answer_byte found))

-- What is wrong at a place with an event of the bus: its stop, if it has one, or its answer.
abbrev pub answered : Option ChipStop → ℕ → BusAnswer → BusAnswer → Option JudgeFault
answered (Some s) place expected found = Some (Stops place s)
answered None place expected found = compared place expected found

-- What is wrong with an entry after this past, if it may not come there: an event of the bus that has a stop, or has another answer; a
-- link event that is not of one of the eight sockets or does not fit. Its place is how many entries came before it.
abbrev pub breach : Starts → Past → Entry → Option JudgeFault
breach starts past (Bus e a) = answered (stop starts past e) (length past) (answer starts past e) a
breach starts past (Link n what) = if nat_lt n 8 && fits starts past n what then None else Some (Unfit (length past))
breach starts past Rest = None

-- What happened up to the first place that is not allowed, and what is wrong there.
pub record Judged : Type 0 where
  pub past : Past
  pub fault : Option JudgeFault

-- The verdict where this is wrong with the next entry, or where nothing is and the others have that verdict.
abbrev pub verdict : Option JudgeFault → Past → Judged → Judged
verdict (Some fault) past others = record { past = past; fault = Some fault }
verdict None past others = others

-- The verdict on entries, the oldest first, after this past.
abbrev pub judged : Starts → Past → List Entry → Judged
judged starts past [] = record { past = past; fault = None }
judged starts past (entry ∷ more) = verdict (breach starts past entry) past (judged starts (entry ∷ past) more)
