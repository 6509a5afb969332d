-- What a script comes to, line by line.
use Rattle.std.specs.Prelude.{◌≡◌, ℕ, ◌+◌, List, [], ◌∷◌, ◌++◌, Option, Result, Ok, Err}
use Rattle.chip_sheet.specs.Past.{Past, GoesOn}
use Rattle.chip_sheet.specs.Streams.{Starts}
use Rattle.chip_sheet.specs.Replay.{Step, Told, Ending, AllTaken, StoppedBy, NotDue, told}
use Rattle.wz_base.specs.Whole.{Appends, AppendsFront}
use Rattle.board_text.specs.Answers.{line_text}
use Rattle.board_text.specs.Stops.{stop_line}
use Rattle.board_gen.specs.declared.fault.ScriptFault.{ScriptFault}
use Rattle.board_gen.specs.declared.fault.ScriptKind.TheVariants as kind
use Rattle.board_gen.specs.declared.end.ScriptStop.{ScriptStop}
use Rattle.board_gen.specs.declared.end.ScriptStop.TheVariants.{Done, Fault, Chip, WriteFault, NoMemory}
use Rattle.board_gen.specs.Script.{Scripted, script_of, no_starts}

-- What is printed, what has happened then, and the end.
pub record Shown : Type 0 where
  pub text : List ℕ
  pub past : Past
  pub end : ScriptStop

-- What the line with the number n comes to, by what its steps are told: the line of its answers; behind it that of a stop; a link
-- event that does not fit is a fault of the line.
abbrev pub line_shown : ℕ → Told → Ending → Shown
line_shown n it AllTaken = record { text = line_text it.answers; past = it.past; end = Done }
line_shown n it (StoppedBy s) = record { text = line_text it.answers ++ stop_line s; past = it.past; end = Chip s }
line_shown n it NotDue =
    record { text = line_text it.answers; past = it.past; end = Fault (record { line = n; kind = kind.NotDue }) }

-- A line that does not come to its end is the last; else its text stands before that of the others.
abbrev pub followed : Shown → ScriptStop → Shown → Shown
followed line Done others = record { text = line.text ++ others.text; past = others.past; end = others.end }
followed line end others = line

-- What the steps of the line with the number n come to.
abbrev pub one_shown : Starts → Past → ℕ → List Step → Shown
one_shown starts past n steps = let it = told starts past steps in line_shown n it it.ending

-- What lines come to, the first of which has the number n.
abbrev pub shown_from : Starts → Past → ℕ → List (List Step) → Shown
shown_from starts past n [] = record { text = []; past = past; end = Done }
shown_from starts past n (steps ∷ more) =
    let line = one_shown starts past n steps in followed line line.end (shown_from starts line.past (n + 1) more)

-- What a text comes to: where it is no script, its first fault, and nothing runs.
abbrev pub shown_of : Result Scripted ScriptFault → Shown
shown_of (Err fault) = record { text = []; past = []; end = Fault fault }
shown_of (Ok script) = shown_from script.starts [] script.number script.lines

abbrev pub shown : List ℕ → Shown
shown text = shown_of (script_of text)

-- Where the pointers of a script start.
abbrev pub starts_in : Result Scripted ScriptFault → Starts
starts_in (Err fault) = no_starts
starts_in (Ok script) = script.starts

abbrev pub script_starts : List ℕ → Starts
script_starts text = starts_in (script_of text)

-- The text and the history are fronts of what they should be.
abbrev pub IsFront : Shown → Past → Option (List ℕ) → Option (List ℕ) → Type 0
IsFront whole past old new = GoesOn past whole.past × AppendsFront old whole.text new

-- The end, the history and the text are what they should be.
abbrev pub IsWhole : Shown → ScriptStop → Past → Option (List ℕ) → Option (List ℕ) → Type 0
IsWhole whole end past old new = (end ≡ whole.end) × (past ≡ whole.past) × Appends old whole.text new

-- What the program gives of it: the whole, or a front where a write failed or memory was not there.
abbrev pub Shows : Shown → ScriptStop → Past → Option (List ℕ) → Option (List ℕ) → Type 0
Shows whole Done past old new = IsWhole whole Done past old new
Shows whole (Fault fault) past old new = IsWhole whole (Fault fault) past old new
Shows whole (Chip s) past old new = IsWhole whole (Chip s) past old new
Shows whole WriteFault past old new = IsFront whole past old new
Shows whole NoMemory past old new = IsFront whole past old new
