-- What the program gives of entries while it judges them.
use Rattle.std.specs.Prelude.{◌≡◌, ◌<◌, ℕ, List, [], ◌∷◌, map, unwrap_or, None, Some, Result, Ok, Err}
use Rattle.chip_sheet.specs.declared.event.Entry.{Entry}
use Rattle.chip_sheet.specs.declared.event.Entry.TheVariants.{Bus, Link, Rest}
use Rattle.chip_sheet.specs.Past.{Past, GoesOn}
use Rattle.chip_sheet.specs.Streams.{Starts}
use Rattle.chip_core.specs.declared.chip.Chip.{Chip}
use Rattle.chip_core.specs.Chip.{Stands, stop_kept}
use Rattle.chip_hist.specs.Log.{Log}
use Rattle.board_gen.specs.declared.session.TheConstants.{WEIGHT_LIMIT}
use Rattle.board_judge.specs.declared.run.Halt.{Halt}
use Rattle.board_judge.specs.declared.run.Halt.TheVariants.{Broken, NoMemory}
use Rattle.board_gen.specs.EachLine.{EachRead}
use Rattle.board_judge.specs.Entries.{entry_read}
use Rattle.board_judge.specs.Trace.{trace_lines}
use Rattle.board_judge.specs.Judged.{Judged, breach}

-- Each line is an entry.
abbrev pub AllRead : List (List ℕ) → Type 0
AllRead = EachRead entry_read

-- The entry of a line that is read.
abbrev pub entry_of_line : List ℕ → Entry
entry_of_line line = unwrap_or (entry_read line) Rest

-- The entries of a text whose lines are read.
abbrev pub entries_in : List ℕ → List Entry
entries_in text = map entry_of_line (trace_lines text)

-- A link event is of one of the eight sockets.
abbrev pub IsOfChip : Entry → Type 0
IsOfChip (Link n what) = n < 8
IsOfChip (Bus e a) = Unit {0}
IsOfChip Rest = Unit {0}

-- The chip stands for the history, and keeps no stop.
pub record Together (starts : Starts) (chip : Chip) (history : Log) : Type 0 where
  pub stands : Stands starts chip history.past
  pub running : stop_kept chip ≡ None
  pub limited : history.limit ≡ WEIGHT_LIMIT

-- What is given of an entry.
abbrev pub GivesEntry : Starts → Past → Entry → Result Unit Halt → Past → Type 0
GivesEntry starts old entry (Ok u) new = (breach starts old entry ≡ None) × (new ≡ entry ∷ old)
GivesEntry starts old entry (Err (Broken fault)) new = (breach starts old entry ≡ Some fault) × (new ≡ old)
GivesEntry starts old entry (Err NoMemory) new = new ≡ old

-- What is given of entries on which this is the verdict.
abbrev pub GivesJudged : Judged → Result Unit Halt → Past → Type 0
GivesJudged whole (Ok u) past = (whole.fault ≡ None) × (past ≡ whole.past)
GivesJudged whole (Err (Broken fault)) past = (whole.fault ≡ Some fault) × (past ≡ whole.past)
GivesJudged whole (Err NoMemory) past = GoesOn past whole.past
