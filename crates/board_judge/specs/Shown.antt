-- What a trace comes to.
use Rattle.std.specs.Prelude.{◌≡◌, ℕ, List, [], ◌∷◌, ◌++◌, length, codes, Option, None, Some, Result, Ok, Err}
use Rattle.std.specs.Fmt.{decimal}
use Rattle.wz_base.specs.Whole.{Appends, AppendsFront}
use Rattle.chip_sheet.specs.declared.stop.ChipStop.{ChipStop}
use Rattle.chip_sheet.specs.Past.{Past, GoesOn}
use Rattle.chip_sheet.specs.Streams.{Starts}
use Rattle.board_text.specs.Entries.{byte_text}
use Rattle.board_text.specs.Stops.{stop_text}
use Rattle.board_gen.specs.declared.fault.ScriptFault.{ScriptFault}
use Rattle.board_gen.specs.Script.{no_starts}
use Rattle.board_judge.specs.declared.end.JudgeFault.{JudgeFault}
use Rattle.board_judge.specs.declared.end.JudgeFault.TheVariants.{Differs, Unfit, Stops}
use Rattle.board_judge.specs.declared.end.JudgeStop.{JudgeStop}
use Rattle.board_judge.specs.declared.end.JudgeStop.TheVariants as end
use Rattle.board_judge.specs.Judged.{Judged, judged}
use Rattle.board_judge.specs.Trace.{Traced, trace_of}

-- A number behind a word, and a line feed, 10.
abbrev pub numbered : List ℕ → ℕ → List ℕ
numbered word n = word ++ decimal n ++ 10 ∷ []

-- Another answer: the place, what the chip answers, and what stands in the trace, with spaces between, 32.
abbrev pub differs_text : ℕ → ℕ → ℕ → List ℕ
differs_text place expected found =
    codes "differs " ++ decimal place ++ 32 ∷ (byte_text expected ++ 32 ∷ (byte_text found ++ 10 ∷ []))

-- A stop: the place, the name, and the values.
abbrev pub stops_text : ℕ → ChipStop → List ℕ
stops_text place stop = codes "stops " ++ decimal place ++ 32 ∷ (stop_text stop ++ 10 ∷ [])

-- The line of a verdict on a history of so many events.
abbrev pub verdict_text : ℕ → Option JudgeFault → List ℕ
verdict_text count None = numbered (codes "legal ") count
verdict_text count (Some (Differs place expected found)) = differs_text place expected found
verdict_text count (Some (Unfit place)) = numbered (codes "unfit ") place
verdict_text count (Some (Stops place stop)) = stops_text place stop

abbrev pub end_of : Option JudgeFault → JudgeStop
end_of None = end.Done
end_of (Some fault) = end.Judged fault

-- What is printed, what has happened then, and the end.
pub record Shown : Type 0 where
  pub text : List ℕ
  pub past : Past
  pub end : JudgeStop

-- What a verdict comes to.
abbrev pub told : Judged → Shown
told it = record { text = verdict_text (length it.past) it.fault; past = it.past; end = end_of it.fault }

-- What a text comes to: where it is no trace, its first fault, and nothing is judged.
abbrev pub shown_of : Result Traced ScriptFault → Shown
shown_of (Err fault) = record { text = []; past = []; end = end.Fault fault }
shown_of (Ok trace) = told (judged trace.starts [] trace.entries)

abbrev pub shown : List ℕ → Shown
shown text = shown_of (trace_of text)

-- Where the positions of a trace start.
abbrev pub starts_in : Result Traced ScriptFault → Starts
starts_in (Err fault) = no_starts
starts_in (Ok trace) = trace.starts

abbrev pub trace_starts : List ℕ → Starts
trace_starts text = starts_in (trace_of text)

-- The text and the history are fronts of what they should be.
abbrev pub IsFront : Shown → Past → Option (List ℕ) → Option (List ℕ) → Type 0
IsFront whole past old new = GoesOn past whole.past × AppendsFront old whole.text new

-- The end, the history and the text are what they should be.
abbrev pub IsWhole : Shown → JudgeStop → Past → Option (List ℕ) → Option (List ℕ) → Type 0
IsWhole whole end past old new = (end ≡ whole.end) × (past ≡ whole.past) × Appends old whole.text new

-- What the program gives of it: the whole, or a front where a write failed or memory was not there.
abbrev pub Shows : Shown → JudgeStop → Past → Option (List ℕ) → Option (List ℕ) → Type 0
Shows whole end.Done past old new = IsWhole whole end.Done past old new
Shows whole (end.Fault fault) past old new = IsWhole whole (end.Fault fault) past old new
Shows whole (end.Judged fault) past old new = IsWhole whole (end.Judged fault) past old new
Shows whole end.WriteFault past old new = IsFront whole past old new
Shows whole end.NoMemory past old new = IsFront whole past old new

-- What is given of the line of a verdict.
abbrev pub Prints : ℕ → Option JudgeFault → JudgeStop → Option (List ℕ) → Option (List ℕ) → Type 0
Prints count fault end.Done old new = (fault ≡ None) × Appends old (verdict_text count None) new
Prints count fault (end.Fault other) old new = ⊥
Prints count fault (end.Judged broken) old new = (fault ≡ Some broken) × Appends old (verdict_text count (Some broken)) new
Prints count fault end.WriteFault old new = AppendsFront old (verdict_text count fault) new
Prints count fault end.NoMemory old new = new ≡ old
