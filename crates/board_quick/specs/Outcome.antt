-- What a command comes to.
use Rattle.std.specs.Prelude.{◌≡◌, ℕ, Bool, true, false, List, [], ◌++◌, Option, None, Some, Result, Ok, Err}
use Rattle.chip_sheet.specs.Past.{Past, GoesOn}
use Rattle.chip_sheet.specs.Legal.{Legal}
use Rattle.chip_sheet.specs.Streams.{Starts}
use Rattle.wz_base.specs.Outside.{RisesOnly}
use Rattle.wz_base.specs.Whole.{Appends, AppendsFront}
use Rattle.board_quick.specs.declared.end.Refusal.{Refusal}
use Rattle.board_quick.specs.declared.end.Refusal.TheVariants as refusals
use Rattle.board_quick.specs.declared.end.EndKind.{EndKind}
use Rattle.board_quick.specs.declared.end.EndKind.TheVariants.{Done, Chip, WriteFault, NoMemory, Refused}
use Rattle.board_quick.specs.declared.end.QuickEnd.{QuickEnd}
use Rattle.board_quick.specs.declared.words.TextCommand.{TextCommand}
use Rattle.board_quick.specs.declared.words.TextCommand.TheVariants as texts
use Rattle.board_quick.specs.declared.words.BoardCommand.{BoardCommand}
use Rattle.board_quick.specs.declared.words.BoardCommand.TheVariants as boards
use Rattle.board_quick.specs.Ends.{fault_text}
use Rattle.board_list.specs.Listing.{listing}
use Rattle.board_quick.specs.Checked.{check_text, judged_image}
use Rattle.board_quick.specs.Reads.{Counts, Reading, WasRead}
use Rattle.board_quick.specs.Loads.{both_of, unread, ReadsBoth}
use Rattle.board_quick.specs.declared.loading.LoadError.{LoadError}
use Rattle.board_quick.specs.declared.loading.LoadError.TheVariants as loads
use Rattle.board_quick.specs.Runs.{RanGen, RanSim, RanTrace}
use Rattle.board_quick.specs.Words.{Asked, Run, OnText, OnBoard, Gen, Help, asks_live, forms}
use Rattle.ihex.specs.Text.{fault_in}
use Rattle.board_file.specs.Boards.{Setup}
use Rattle.board_gen.specs.declared.fault.ScriptFault.{ScriptFault}
use Rattle.board_gen.specs.declared.end.ScriptStop.{ScriptStop}
use Rattle.board_gen.specs.declared.end.ScriptStop.TheVariants as stops
use Rattle.board_gen.specs.Script.{no_starts}
use Rattle.board_gen.specs.Shown.{script_starts, shown}
use Rattle.board_judge.specs.declared.end.JudgeStop.{JudgeStop}
use Rattle.board_judge.specs.declared.end.JudgeStop.TheVariants as judges
use Rattle.board_judge.specs.Shown.{trace_starts}
use Rattle.board_judge.specs.Shown as trace

-- How a command ends, with its history and its text.
pub record Outcome : Type 0 where
  pub end : EndKind
  -- where the pointers of the chip start
  pub starts : Starts
  pub past : Past
  pub text : List ℕ

-- A command that ends so, with this text, before anything happened on the chip.
abbrev pub at_rest : EndKind → List ℕ → Outcome
at_rest end text = record { end = end; starts = no_starts; past = []; text = text }

-- A refusal before anything happened.
abbrev pub refused : Refusal → Outcome
refused refusal = at_rest (Refused refusal) (fault_text refusal)

-- The end of a command that a script's end is.
abbrev pub end_of : ScriptStop → EndKind
end_of stops.Done = Done
end_of (stops.Fault fault) = Refused (refusals.Script fault)
end_of (stops.Chip s) = Chip s
end_of stops.WriteFault = WriteFault
end_of stops.NoMemory = NoMemory

-- The fault of the text of a script or a trace by which a command ends.
abbrev pub text_fault : EndKind → Option ScriptFault
text_fault (Refused (refusals.Script fault)) = Some fault
text_fault end = None

abbrev pub line_of : Option ScriptFault → List ℕ
line_of (Some fault) = fault_text (refusals.Script fault)
line_of None = []

-- What is printed behind what was written of such a text: the line of the fault, if it has one.
abbrev pub last_line : EndKind → List ℕ
last_line end = line_of (text_fault end)

abbrev pub with_last_line : Outcome → Outcome
with_last_line o = record { end = o.end; starts = o.starts; past = o.past; text = o.text ++ last_line o.end }

-- What running a script comes to.
abbrev pub script_run : List ℕ → Outcome
script_run text =
    let it = shown text in
    record { end = end_of it.end; starts = script_starts text; past = it.past; text = it.text }

-- What a script comes to.
abbrev pub script_outcome : List ℕ → Outcome
script_outcome text = with_last_line (script_run text)

-- The end of a command that the end of a judged trace is.
abbrev pub end_of_judge : JudgeStop → EndKind
end_of_judge judges.Done = Done
end_of_judge (judges.Fault fault) = Refused (refusals.Script fault)
end_of_judge (judges.Judged fault) = Refused (refusals.Judged fault)
end_of_judge judges.WriteFault = WriteFault
end_of_judge judges.NoMemory = NoMemory

-- What judging a trace comes to.
abbrev pub judge_run : List ℕ → Outcome
judge_run text =
    let it = trace.shown text in
    record { end = end_of_judge it.end; starts = trace_starts text; past = it.past; text = it.text }

-- What a trace comes to.
abbrev pub judge_outcome : List ℕ → Outcome
judge_outcome text = with_last_line (judge_run text)

-- What the listing of an image comes to: its lines, or the refusal of its text.
abbrev pub listed_outcome : Result (List ℕ) Refusal → Outcome
listed_outcome (Ok image) = at_rest Done (listing image)
listed_outcome (Err refusal) = refused refusal

-- What a command on one file comes to, whose text is this.
abbrev pub text_outcome : TextCommand → List ℕ → Outcome
text_outcome texts.Bus text = script_outcome text
text_outcome texts.Judge text = judge_outcome text
text_outcome texts.List text = listed_outcome (judged_image text (fault_in text))

-- The history and the text are prefixes of what they should be.
abbrev pub IsCut : Outcome → Past → Option (List ℕ) → Option (List ℕ) → Type 0
IsCut o past old new = GoesOn past o.past × AppendsFront old o.text new

-- The end, the history and the text are what they should be.
abbrev pub IsWhole : Outcome → EndKind → Past → Option (List ℕ) → Option (List ℕ) → Type 0
IsWhole o end past old new = (end ≡ o.end) × (past ≡ o.past) × Appends old o.text new

-- What is given of an outcome: the whole of it, or a prefix where a write failed or memory ran out.
abbrev pub Shows : Outcome → EndKind → Past → Option (List ℕ) → Option (List ℕ) → Type 0
Shows o WriteFault past old new = IsCut o past old new
Shows o NoMemory past old new = IsCut o past old new
Shows o end past old new = IsWhole o end past old new

-- What is given of the line of a refusal.
abbrev pub AddsLine : Refusal → EndKind → Option (List ℕ) → Option (List ℕ) → Type 0
AddsLine refusal WriteFault old new = AppendsFront old (fault_text refusal) new
AddsLine refusal NoMemory old new = new ≡ old
AddsLine refusal (Refused r) old new = (r ≡ refusal) × Appends old (fault_text refusal) new
AddsLine refusal end old new = ⊥

-- The chip allows the history, where its pointers start somewhere.
pub record IsLegal (past : Past) : Type 0 where
  pub starts : Starts
  pub legal : Legal starts past

-- The words ask for a scripted run.
abbrev pub asks_run : Option Asked → Bool
asks_run (Some (OnBoard boards.Sim image board)) = true
asks_run (Some (OnBoard boards.Trace image board)) = true
asks_run (Some (Gen number)) = true
asks_run form = false

-- What a command without a run leaves, over a sink that had this text and this count of faults before and after: the outcome's end, history and text; a
-- history that the chip allows; no scripted peers; and a write fault exactly where the count rose.
pub record Ran (o : Outcome) (r : QuickEnd) (old new : Option (List ℕ)) (before after : ℕ) : Type 0 where
  pub shows : Shows o r.end r.history.past old new
  pub legal : Legal o.starts r.history.past
  pub script : r.script ≡ None
  pub causes : RisesOnly (r.end ≡ WriteFault) before after

-- What a command on an image and a board leaves that have no fault.
abbrev pub RanBoth : BoardCommand → List ℕ → Setup → QuickEnd → Option (List ℕ) → Option (List ℕ) → ℕ → ℕ → Type 0
RanBoth boards.Sim image setup r old new before after = RanSim image setup r old new before after
RanBoth boards.Trace image setup r old new before after = RanTrace image setup r old new before after
RanBoth boards.Check image setup r old new before after = Ran (at_rest Done (check_text image setup)) r old new before after

-- Memory ran out before anything happened.
pub record RanNothing (r : QuickEnd) (old new : Option (List ℕ)) (before after : ℕ) : Type 0 where
  pub end : r.end ≡ NoMemory
  pub past : r.history.past ≡ []
  pub script : r.script ≡ None
  pub unwritten : new ≡ old
  pub still : after ≡ before

-- What a command leaves whose operands were not loaded.
abbrev pub RanUnloaded : LoadError → QuickEnd → Option (List ℕ) → Option (List ℕ) → ℕ → ℕ → Type 0
RanUnloaded (loads.Refused refusal) r old new before after = Ran (refused refusal) r old new before after
RanUnloaded loads.NoMemory r old new before after = RanNothing r old new before after

-- What a command on one file leaves, by what was read of it.
abbrev pub RanText : TextCommand → Reading → QuickEnd → Option (List ℕ) → Option (List ℕ) → ℕ → ℕ → Type 0
RanText what (Ok text) r old new before after = Ran (text_outcome what text) r old new before after
RanText what (Err e) r old new before after = RanUnloaded (unread 1 e) r old new before after

-- What a command on an image and a board leaves, by what its operands come to.
abbrev pub RanBoard : BoardCommand → Result (List ℕ × Setup) LoadError → QuickEnd → Option (List ℕ) → Option (List ℕ) → ℕ → ℕ → Type 0
RanBoard what (Ok both) r old new before after = RanBoth what both.0 both.1 r old new before after
RanBoard what (Err error) r old new before after = RanUnloaded error r old new before after

-- A command on one file, over files whose counts were these before and after: what was read of it, and what it left.
pub record ReportsText (files : Option (List ℕ → Option (List ℕ))) (before after : Counts) (what : TextCommand) (name : List ℕ)
    (r : QuickEnd) (old new : Option (List ℕ)) (faults faults_now : ℕ) : Type 0 where
  pub reading : Reading
  pub read : WasRead files name before after reading
  pub ran : RanText what reading r old new faults faults_now

-- A command on an image and a board: what was read of both, and what it left.
pub record ReportsBoard (files : Option (List ℕ → Option (List ℕ))) (before after : Counts) (what : BoardCommand) (image board : List ℕ)
    (r : QuickEnd) (old new : Option (List ℕ)) (faults faults_now : ℕ) : Type 0 where
  pub first : Reading
  pub second : Reading
  pub reads : ReadsBoth files before after image board first second
  pub ran : RanBoard what (both_of first second) r old new faults faults_now

-- A command that reads no file.
pub record ReportsAlone (before after : Counts) (o : Outcome) (r : QuickEnd) (old new : Option (List ℕ)) (faults faults_now : ℕ) : Type 0 where
  pub unread : after ≡ before
  pub ran : Ran o r old new faults faults_now

-- A generated run, which reads no file either.
pub record ReportsGen (before after : Counts) (number : ℕ) (r : QuickEnd) (old new : Option (List ℕ)) (faults faults_now : ℕ) : Type 0 where
  pub unread : after ≡ before
  pub ran : RanGen number r old new faults faults_now

-- What `quick` leaves of the words over these files and this sink. Where they are no written form, that is a refusal; of a live run it
-- leaves nothing.
abbrev pub Reports : Option (List ℕ → Option (List ℕ)) → Counts → Counts → Option Asked → QuickEnd → Option (List ℕ) → Option (List ℕ) → ℕ → ℕ → Type 0
Reports files before after None r old new faults faults_now = ReportsAlone before after (refused refusals.Usage) r old new faults faults_now
Reports files before after (Some (Run image board)) r old new faults faults_now = ⊥
Reports files before after (Some Help) r old new faults faults_now = ReportsAlone before after (at_rest Done forms) r old new faults faults_now
Reports files before after (Some (Gen number)) r old new faults faults_now = ReportsGen before after number r old new faults faults_now
Reports files before after (Some (OnText what name)) r old new faults faults_now =
    ReportsText files before after what name r old new faults faults_now
Reports files before after (Some (OnBoard what image board)) r old new faults faults_now =
    ReportsBoard files before after what image board r old new faults faults_now

-- Nothing was asked of the files and the sink.
pub record IsUntouched (before after : Counts) (old new : Option (List ℕ)) (faults faults_now : ℕ) : Type 0 where
  pub unread : after ≡ before
  pub unwritten : new ≡ old
  pub still : faults_now ≡ faults

-- What `quick` answers: nothing for a live run, and else what it leaves.
abbrev pub ReportsQuick : Option (List ℕ → Option (List ℕ)) → Counts → Counts → Option Asked → Option QuickEnd → Option (List ℕ) → Option (List ℕ) → ℕ → ℕ → Type 0
ReportsQuick files before after form None old new faults faults_now = (asks_live form ≡ true) × IsUntouched before after old new faults faults_now
ReportsQuick files before after form (Some r) old new faults faults_now = Reports files before after form r old new faults faults_now
