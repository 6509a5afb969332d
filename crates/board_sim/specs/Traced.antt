-- The trace of a run: its head, and a line for each entry of the history, the oldest first.
use Rattle.std.specs.Prelude.{ℕ, List, ◌++◌}
use Rattle.chip_sheet.specs.Past.{Past}
use Rattle.chip_sheet.specs.Streams.{Starts}
use Rattle.board_text.specs.Entries.{entries_text, trace_head}

unfoldable pub trace_text : Starts → Past → List ℕ
trace_text starts past = trace_head starts ++ entries_text past
