-- What is written of a history is read as that history.
use Rattle.std.specs.Prelude.{◌≡◌, length, ◌++◌, reverse, None, Ok}
use Rattle.chip_sheet.specs.Past.{Past}
use Rattle.chip_sheet.specs.Streams.{Starts}
use Rattle.chip_sheet.specs.Legal.{Legal}
use Rattle.board_text.specs.Entries.{entries_text, trace_head}
use Rattle.board_judge.specs.declared.end.JudgeStop.TheVariants.{Done}
use Rattle.board_judge.specs.Shown.{shown, verdict_text}
use Rattle.board_judge.specs.Trace.{trace_of}
use Rattle.trace_laws.specs.Fitting.{AllFit, StartsFit}

-- The trace of a legal history is read as where its positions start, and its entries, the oldest first.
abbrev pub TracesAreRead : Type 0
TracesAreRead =
    (starts : Starts) (past : Past) → StartsFit starts → AllFit past → Legal starts past
    → trace_of (trace_head starts ++ entries_text past) ≡ Ok (record { starts = starts; entries = reverse past })

-- And it is judged legal, with its number of entries.
abbrev pub TracesAreLegal : Type 0
TracesAreLegal =
    (starts : Starts) (past : Past) → StartsFit starts → AllFit past → Legal starts past
    → shown (trace_head starts ++ entries_text past) ≡ record { text = verdict_text (length past) None; past = past; end = Done }
