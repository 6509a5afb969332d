-- Traces: a line `w5500 trace 1 TX RX`, and a line for each entry of a history.
use Rattle.std.specs.Prelude.{ℕ, ◌==◌, List, [], ◌∷◌, drop, length, Option, None, Some, Result, Ok, Err, codes, if◌then◌else◌}
use Rattle.std.specs.List.{slice_split, starts_with}
use Rattle.std.specs.Str.Lines.{lines_of_parts}
use Rattle.chip_sheet.specs.declared.event.Entry.{Entry}
use Rattle.chip_sheet.specs.Streams.{Starts}
use Rattle.board_gen.specs.declared.fault.ScriptFault.{ScriptFault}
use Rattle.board_gen.specs.declared.fault.ScriptKind.TheVariants.{BadHead}
use Rattle.board_read.specs.Numbers.{pointer}
use Rattle.board_gen.specs.EachLine.{read_from}
use Rattle.board_judge.specs.Entries.{entry_read}

-- The lines of a trace. Each ends with LF or CR LF, 10 is a line feed, and the last one may have no end.
abbrev pub trace_lines : List ℕ → List (List ℕ)
trace_lines text = lines_of_parts (slice_split (λ b. b == 10) text)

abbrev pub pointers : Option ℕ → Option ℕ → Option Starts
pointers (Some tx) (Some rx) = Some (record { tx = tx; rx = rx })
pointers tx rx = None

abbrev pub two_numbers : List (List ℕ) → Option Starts
two_numbers [] = None
two_numbers (tx ∷ []) = None
two_numbers (tx ∷ rx ∷ []) = pointers (pointer tx) (pointer rx)
two_numbers (tx ∷ rx ∷ more ∷ others) = None

-- Two numbers with one space between, 32.
abbrev pub numbers : List ℕ → Option Starts
numbers text = two_numbers (slice_split (λ b. b == 32) text)

-- The name of the format and its version.
abbrev pub version : List ℕ
version = codes "w5500 trace 1 "

-- Where the positions of connections start, by the first line.
abbrev pub head : List ℕ → Option Starts
head line = if starts_with (λ a b. a == b) line version then numbers (drop (length version) line) else None

-- The entries of lines, the first of which has the number n; or the first fault.
abbrev pub entries_from : ℕ → List (List ℕ) → Result (List Entry) ScriptFault
entries_from = read_from entry_read

-- What a trace says: where the positions start, and what happened, the oldest first.
pub record Traced : Type 0 where
  pub starts : Starts
  pub entries : List Entry

abbrev pub no_head : ScriptFault
no_head = record { line = 1; kind = BadHead }

abbrev pub traced : Starts → Result (List Entry) ScriptFault → Result Traced ScriptFault
traced starts (Ok entries) = Ok (record { starts = starts; entries = entries })
traced starts (Err fault) = Err fault

-- The trace of lines that begin so. The entries begin in line 2.
abbrev pub headed : Option Starts → List (List ℕ) → Result Traced ScriptFault
headed None more = Err no_head
headed (Some starts) more = traced starts (entries_from 2 more)

abbrev pub of_lines : List (List ℕ) → Result Traced ScriptFault
of_lines [] = Err no_head
of_lines (first ∷ more) = headed (head first) more

-- The trace that a text is, or its first fault.
abbrev pub trace_of : List ℕ → Result Traced ScriptFault
trace_of text = of_lines (trace_lines text)
