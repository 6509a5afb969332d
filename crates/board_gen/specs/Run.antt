-- What the program gives of a line and of lines while it runs them.
use Rattle.std.specs.Prelude.{◌≡◌, ◌⊎◌, ℕ, List, [], ◌∷◌, ◌++◌, map, unwrap_or, Option, None, Some, Result, Ok, Err}
use Rattle.board_bus.specs.declared.event.BusAnswer.{BusAnswer}
use Rattle.chip_sheet.specs.Streams.{Starts}
use Rattle.chip_sheet.specs.Past.{Past, GoesOn}
use Rattle.chip_sheet.specs.Replay.{Step, Told, Ending, AllTaken, StoppedBy}
use Rattle.chip_sheet.specs.Replay as replay
use Rattle.wz_base.specs.Lines.{Gathers}
use Rattle.wz_base.specs.Whole.{AppendsFront}
use Rattle.board_text.specs.Answers.{joined, with_end}
use Rattle.board_text.specs.Stops.{stop_line}
use Rattle.board_gen.specs.declared.session.Halt.{Halt}
use Rattle.board_gen.specs.declared.session.Halt.TheVariants.{Stopped, NotDue, NoMemory}
use Rattle.board_gen.specs.declared.end.ScriptStop.{ScriptStop}
use Rattle.board_gen.specs.declared.end.ScriptStop.TheVariants as end
use Rattle.board_gen.specs.Script.{script_lines}
use Rattle.board_gen.specs.Session.{Takes, Halts}
use Rattle.board_gen.specs.Shown.{Shown}
use Rattle.board_gen.specs.Tokens.{tokens, steps}

-- The steps of a line that is read.
abbrev pub steps_in : List ℕ → List Step
steps_in line = unwrap_or (steps (tokens line)) []

-- The steps of the lines of a text that is read.
abbrev pub lines_in : List ℕ → List (List Step)
lines_in text = map steps_in (script_lines text)

-- What an answer adds to those before it.
abbrev pub listed : Option BusAnswer → List BusAnswer
listed None = []
listed (Some a) = a ∷ []

-- The step is taken, and the text of the answers before it becomes that of those and its own.
pub record IsTaken (starts : Starts) (old : Past) (step : Step) (new : Past) (text text' : List ℕ) : Type 0 where
  pub answer : Option BusAnswer
  pub takes : Takes starts old step answer new
  pub printed : (before : List BusAnswer) → text ≡ joined before → text' ≡ joined (before ++ listed answer)

-- What is given of a step. Where memory is not there for the text, the step is taken.
abbrev pub GivesStep : Starts → Past → Step → Result Unit Halt → Past → List ℕ → List ℕ → Type 0
GivesStep starts old step (Ok u) new text text' = IsTaken starts old step new text text'
GivesStep starts old step (Err (Stopped s)) new text text' =
    Halts starts old step (Stopped s) × (new ≡ old) × (text' ≡ text)
GivesStep starts old step (Err NotDue) new text text' = Halts starts old step NotDue × (new ≡ old) × (text' ≡ text)
GivesStep starts old step (Err NoMemory) new text text' =
    (new ≡ old) ⊎ ((a : Option BusAnswer) × Takes starts old step a new)

-- What is given of a token that is one.
abbrev pub GivesWord : Starts → Past → Option Step → Result Unit Halt → Past → List ℕ → List ℕ → Type 0
GivesWord starts old None result new text text' = Unit {0}
GivesWord starts old (Some step) result new text text' = GivesStep starts old step result new text text'

-- The line came to this end, and this is the text of its answers.
pub record IsLine (whole : Told) (ending : Ending) (past : Past) (text : List ℕ) : Type 0 where
  pub ends : whole.ending ≡ ending
  pub happened : past ≡ whole.past
  pub printed : text ≡ joined whole.answers

abbrev pub GivesLine : Told → Result Unit Halt → Past → List ℕ → Type 0
GivesLine whole (Ok u) past text = IsLine whole AllTaken past text
GivesLine whole (Err (Stopped s)) past text = IsLine whole (StoppedBy s) past text
GivesLine whole (Err NotDue) past text = IsLine whole replay.NotDue past text
GivesLine whole (Err NoMemory) past text = GoesOn past whole.past

-- A line's text at its end: that of its answers, and then the line of a stop.
abbrev pub ended : List ℕ → ScriptStop → List ℕ
ended text (end.Chip s) = with_end text ++ stop_line s
ended text other = with_end text

-- An end that a line can come to by itself.
abbrev pub IsOwn : ScriptStop → Type 0
IsOwn end.Done = Unit {0}
IsOwn (end.Fault fault) = Unit {0}
IsOwn (end.Chip s) = Unit {0}
IsOwn end.WriteFault = ⊥
IsOwn end.NoMemory = ⊥

-- The line came to this end, and the text of its answers is not ended yet.
pub record IsEnded (whole : Shown) (end : ScriptStop) (past : Past) (text : List ℕ) : Type 0 where
  pub ends : end ≡ whole.end
  pub happened : past ≡ whole.past
  pub printed : ended text end ≡ whole.text

-- The text is written or waits behind what waited.
pub record IsGathered (whole : Shown) (end : ScriptStop) (past : Past) (waiting rest : List ℕ) (old new : Option (List ℕ)) : Type 0 where
  pub ends : end ≡ whole.end
  pub happened : past ≡ whole.past
  pub gathered : Gathers waiting whole.text rest old new

-- What is given of a text that is added to what waits.
abbrev pub Keeps : Shown → ScriptStop → Past → List ℕ → List ℕ → Option (List ℕ) → Option (List ℕ) → Type 0
Keeps whole end.Done past waiting rest old new = IsGathered whole end.Done past waiting rest old new
Keeps whole (end.Fault fault) past waiting rest old new = IsGathered whole (end.Fault fault) past waiting rest old new
Keeps whole (end.Chip s) past waiting rest old new = IsGathered whole (end.Chip s) past waiting rest old new
Keeps whole end.WriteFault past waiting rest old new =
    GoesOn past whole.past × AppendsFront old (waiting ++ whole.text) new
Keeps whole end.NoMemory past waiting rest old new =
    GoesOn past whole.past × AppendsFront old (waiting ++ whole.text) new
