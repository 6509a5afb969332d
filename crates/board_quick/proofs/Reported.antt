-- What follows of what the words come to.
use Rattle.std.proofs.Common.{◌≡◌, ◌≢◌, ℕ, true, List, [], Option, None, Some, IfSome, Result, Ok, Err, refl, sym, ap, ◌∙◌, subst}
use Rattle.std.specs.Option.{IsSome}
use Rattle.chip_sheet.specs.Past.{Past}
use Rattle.chip_sheet.specs.Legal.{Legal}
use Rattle.chip_sheet.specs.Streams.{Starts}
use Rattle.chip_shared.specs.Tied.{Tied}
use Rattle.link_script.specs.Links.{played_of}
use Rattle.link_script.specs.Play.{shown}
use Rattle.link_script.specs.declared.script_links.ScriptLinks.{ScriptLinks}
use Rattle.board_sim.specs.Schedule as schedule
use Rattle.board_sim.specs.Ends.{starts_of}
use Rattle.board_sim.specs.declared.end.RunEnd.{RunEnd}
use Rattle.board_sim.specs.declared.end.RunEnd.TheVariants as runs
use Rattle.wz_base.specs.Outside.{Rose, RisesOnly}
use Rattle.wz_base.specs.declared.reading.ReadError.{ReadError}
use Rattle.wz_base.specs.declared.reading.ReadError.TheVariants as errors
use Rattle.ihex.specs.declared.fault.HexFault.{HexFault}
use Rattle.ihex.specs.Text.{fault_in}
use Rattle.board_file.specs.declared.fault.BoardFault.{BoardFault}
use Rattle.board_file.specs.Boards.{Setup, board_of}
use Rattle.board_gen.specs.declared.end.ScriptStop.{ScriptStop}
use Rattle.board_gen.specs.declared.end.ScriptStop.TheVariants as stops
use Rattle.board_gen.specs.Shown.{shown as shown_script}
use Rattle.board_judge.specs.declared.end.JudgeStop.{JudgeStop}
use Rattle.board_judge.specs.declared.end.JudgeStop.TheVariants as judges
use Rattle.board_judge.specs.Shown.{shown as shown_trace}
use Rattle.board_quick.specs.declared.end.Refusal.{Refusal}
use Rattle.board_quick.specs.declared.end.Refusal.TheVariants as refusals
use Rattle.board_quick.specs.declared.end.EndKind.{EndKind}
use Rattle.board_quick.specs.declared.end.EndKind.TheVariants.{Break, Sleep, CycleLimit, Avr, TraceFull, PollFault, WriteFault, NoMemory, Refused}
use Rattle.board_quick.specs.declared.end.QuickEnd.{QuickEnd}
use Rattle.board_quick.specs.declared.words.TextCommand.{TextCommand}
use Rattle.board_quick.specs.declared.words.TextCommand.TheVariants as texts
use Rattle.board_quick.specs.declared.words.BoardCommand.{BoardCommand}
use Rattle.board_quick.specs.declared.words.BoardCommand.TheVariants as boards
use Rattle.board_quick.specs.Checked.{beside, judged, judged_image, with_board}
use Rattle.board_quick.specs.declared.loading.LoadError.{LoadError}
use Rattle.board_quick.specs.declared.loading.LoadError.TheVariants as loads
use Rattle.board_quick.specs.Loads.{both_of, or_refused, unread, ReadsBoth}
use Rattle.board_quick.specs.Reads.{Counts, Reading}
use Rattle.board_quick.specs.Words.{Asked, Run, OnText, OnBoard, Gen, Help}
use Rattle.board_quick.specs.Outcome.{Outcome, at_rest, end_of, end_of_judge, listed_outcome, refused, text_outcome, asks_run, IsLegal, Ran, RanBoard, RanBoth, RanText, RanUnloaded, Reports, Shows}
use Rattle.board_quick.specs.Runs.{end_of_run, IsOfRun, IsTied, KeepsRun, RanSim, ShowsRun}
use Rattle.board_quick.proofs.Causes.{rose_since}
use Rattle.board_quick.proofs.Scheduled.{no_poll, run_end}
use Rattle.board_quick.proofs.Shown.{none_ran}

-- an end that the texts of the operands give
abbrev IsOfTexts : EndKind → Type 0
IsOfTexts (Refused refusals.Usage) = ⊥
IsOfTexts (Refused (refusals.NoFile operand)) = ⊥
IsOfTexts (Refused (refusals.ReadFault operand)) = ⊥
IsOfTexts (Refused (refusals.TooLong operand)) = ⊥
IsOfTexts end = Unit {0}

script_ends : (end : ScriptStop) → IsOfTexts (end_of end)
script_ends stops.Done = tt
script_ends (stops.Fault fault) = tt
script_ends (stops.Chip s) = tt
script_ends stops.WriteFault = tt
script_ends stops.NoMemory = tt

judge_ends : (end : JudgeStop) → IsOfTexts (end_of_judge end)
judge_ends judges.Done = tt
judge_ends (judges.Fault fault) = tt
judge_ends (judges.Judged fault) = tt
judge_ends judges.WriteFault = tt
judge_ends judges.NoMemory = tt

list_ends : (text : List ℕ) (fault : Option HexFault) → IsOfTexts (listed_outcome (judged_image text fault)).end
list_ends text None = tt
list_ends text (Some fault) = tt

text_ends : (what : TextCommand) (text : List ℕ) → IsOfTexts (text_outcome what text).end
text_ends texts.Bus text = script_ends (shown_script text).end
text_ends texts.Judge text = judge_ends (shown_trace text).end
text_ends texts.List text = list_ends text (fault_in text)

abbrev not_loaded : LoadError → Result (List ℕ × Setup) LoadError
not_loaded error = Err error

err_is : (e f : LoadError) → not_loaded e ≡ not_loaded f → e ≡ f
err_is e f is = cc

-- a refusal is that of the outcome
outcome_ends : (o : Outcome) (end : EndKind) (past : Past) (old new : Option (List ℕ)) (refusal : Refusal) → Shows o end past old new → end ≡ Refused refusal → o.end ≡ Refused refusal
outcome_ends o WriteFault past old new refusal it is = cc
outcome_ends o NoMemory past old new refusal it is = cc
outcome_ends o end past old new refusal it is = sym it.0 ∙ is

-- a command that ends as its outcome, by this refusal
ran_ends : (o : Outcome) (r : QuickEnd) (old new : Option (List ℕ)) (faults faults' : ℕ) (refusal : Refusal) → Ran o r old new faults faults' → r.end ≡ Refused refusal → o.end ≡ Refused refusal
ran_ends o r old new faults faults' refusal ran is = outcome_ends o r.end r.history.past old new refusal ran.shows is

-- an end that is no refusal
abbrev IsUnrefused : EndKind → Type 0
IsUnrefused (Refused refusal) = ⊥
IsUnrefused end = Unit {0}

run_ends : (e : RunEnd) → IsUnrefused (end_of_run e)
run_ends runs.Break = tt
run_ends e = tt

-- a run ends by no refusal
pub run_unrefused : (end : EndKind) (e : RunEnd) (refusal : Refusal) → end ≡ end_of_run e → end ≢ Refused refusal
run_unrefused end e refusal is same = subst IsUnrefused (sym is ∙ same) (run_ends e)

shown_unrefused : (cut : Type 0) (o : schedule.Outcome) (text : List ℕ) (end : EndKind) (past : Past) (script : Option ScriptLinks) (old new : Option (List ℕ)) (refusal : Refusal)
    → ShowsRun cut o text end past script old new → end ≢ Refused refusal
shown_unrefused cut o text end past script old new refusal it =
    let of = run_end cut o text end past script old new it in
    run_unrefused end of.0 refusal of.1

sim_unrefused : (image : List ℕ) (setup : Setup) (r : QuickEnd) (old new : Option (List ℕ)) (faults faults' : ℕ) (refusal : Refusal) → RanSim image setup r old new faults faults' → r.end ≢ Refused refusal
sim_unrefused image setup r old new faults faults' refusal ran = shown_unrefused _ _ _ r.end _ _ old new refusal ran.shows

both_unrefused : (what : BoardCommand) (image : List ℕ) (setup : Setup) (r : QuickEnd) (old new : Option (List ℕ)) (faults faults' : ℕ) (refusal : Refusal) → RanBoth what image setup r old new faults faults'
    → r.end ≢ Refused refusal
both_unrefused boards.Sim image setup r old new faults faults' refusal ran is = sim_unrefused image setup r old new faults faults' refusal ran is
both_unrefused boards.Trace image setup r old new faults faults' refusal ran is = shown_unrefused _ _ _ r.end _ _ old new refusal ran.shows is
both_unrefused boards.Check image setup r old new faults faults' refusal ran is = cc (ran_ends _ r old new faults faults' refusal ran is)

-- a refusal of operands that were not loaded
pub unloaded_refused : (error : LoadError) (r : QuickEnd) (old new : Option (List ℕ)) (faults faults' : ℕ) (refusal : Refusal) → RanUnloaded error r old new faults faults' → r.end ≡ Refused refusal
    → error ≡ loads.Refused refusal
unloaded_refused (loads.Refused found) r old new faults faults' refusal ran is = cc (ran_ends (refused found) r old new faults faults' refusal ran is)
unloaded_refused loads.NoMemory r old new faults faults' refusal ran is = cc (sym ran.end ∙ is)

board_refused : (what : BoardCommand) (loaded : Result (List ℕ × Setup) LoadError) (r : QuickEnd) (old new : Option (List ℕ)) (faults faults' : ℕ) (refusal : Refusal)
    → RanBoard what loaded r old new faults faults' → r.end ≡ Refused refusal → loaded ≡ Err (loads.Refused refusal)
board_refused what (Ok both) r old new faults faults' refusal ran is = absurd (both_unrefused what both.0 both.1 r old new faults faults' refusal ran is)
board_refused what (Err error) r old new faults faults' refusal ran is = ap Err (unloaded_refused error r old new faults faults' refusal ran is)

-- what was not read, by its refusal
no_file : (operand of : ℕ) (e : ReadError) → unread of e ≡ loads.Refused (refusals.NoFile operand) → e ≡ errors.NoFile
no_file operand of errors.NoFile is = refl
no_file operand of errors.ReadFault is = cc
no_file operand of errors.TooLong is = cc
no_file operand of errors.NoMemory is = cc

read_fault : (operand of : ℕ) (e : ReadError) → unread of e ≡ loads.Refused (refusals.ReadFault operand) → e ≡ errors.ReadFault
read_fault operand of errors.NoFile is = cc
read_fault operand of errors.ReadFault is = refl
read_fault operand of errors.TooLong is = cc
read_fault operand of errors.NoMemory is = cc

no_usage : (of : ℕ) (e : ReadError) → unread of e ≢ loads.Refused refusals.Usage
no_usage of errors.NoFile is = cc
no_usage of errors.ReadFault is = cc
no_usage of errors.TooLong is = cc
no_usage of errors.NoMemory is = cc

text_missed : (operand : ℕ) (what : TextCommand) (reading : Reading) (r : QuickEnd) (old new : Option (List ℕ)) (faults faults' : ℕ) → RanText what reading r old new faults faults'
    → r.end ≡ Refused (refusals.NoFile operand) → reading ≡ Err errors.NoFile
text_missed operand what (Ok text) r old new faults faults' ran is = absurd (subst IsOfTexts (ran_ends _ r old new faults faults' _ ran is) (text_ends what text))
text_missed operand what (Err e) r old new faults faults' ran is = ap Err (no_file operand 1 e (unloaded_refused (unread 1 e) r old new faults faults' _ ran is))

text_failed : (operand : ℕ) (what : TextCommand) (reading : Reading) (r : QuickEnd) (old new : Option (List ℕ)) (faults faults' : ℕ) → RanText what reading r old new faults faults'
    → r.end ≡ Refused (refusals.ReadFault operand) → reading ≡ Err errors.ReadFault
text_failed operand what (Ok text) r old new faults faults' ran is = absurd (subst IsOfTexts (ran_ends _ r old new faults faults' _ ran is) (text_ends what text))
text_failed operand what (Err e) r old new faults faults' ran is = ap Err (read_fault operand 1 e (unloaded_refused (unread 1 e) r old new faults faults' _ ran is))

text_usage : (what : TextCommand) (reading : Reading) (r : QuickEnd) (old new : Option (List ℕ)) (faults faults' : ℕ) → RanText what reading r old new faults faults' → r.end ≢ Refused refusals.Usage
text_usage what (Ok text) r old new faults faults' ran is = subst IsOfTexts (ran_ends _ r old new faults faults' _ ran is) (text_ends what text)
text_usage what (Err e) r old new faults faults' ran is = no_usage 1 e (unloaded_refused (unread 1 e) r old new faults faults' _ ran is)

-- where two texts are refused, it is a fault of a text
abbrev TextsRefused : Result (List ℕ × Setup) LoadError → Type 0
TextsRefused (Err (loads.Refused refusal)) = IsOfTexts (Refused refusal)
TextsRefused result = Unit {0}

beside_refused : (image : List ℕ) (setup : Result Setup BoardFault) → TextsRefused (or_refused (beside image setup))
beside_refused image (Ok setup) = tt
beside_refused image (Err fault) = tt

with_refused : (text : List ℕ) (fault : Option HexFault) (board : List ℕ) → TextsRefused (or_refused (with_board (judged_image text fault) board))
with_refused text None board = beside_refused _ (board_of board)
with_refused text (Some fault) board = tt

texts_refused : (image board : List ℕ) → TextsRefused (or_refused (judged image board))
texts_refused image board = with_refused image (fault_in image) board

-- no file was there for an operand
pub both_missed : (files : Option (List ℕ → Option (List ℕ))) (before after : Counts) (image board : List ℕ) (first second : Reading) (operand : ℕ) → ReadsBoth files before after image board first second
    → both_of first second ≡ Err (loads.Refused (refusals.NoFile operand)) → Rose before.misses after.misses
both_missed files before after image board (Err e) second operand reads is =
    subst (λ (c : Counts). Rose before.misses c.misses) (sym reads.read_second) (reads.read_first.missed.rose (ap Err (no_file operand 1 e (err_is _ _ is))))
both_missed files before after image board (Ok text) (Ok more) operand reads is = absurd (subst TextsRefused is (texts_refused text more))
both_missed files before after image board (Ok text) (Err e) operand reads is =
    rose_since before.misses reads.between.misses after.misses reads.read_first.missed.later (reads.read_second.missed.rose (ap Err (no_file operand 2 e (err_is _ _ is))))

-- a read of an operand failed
pub both_failed : (files : Option (List ℕ → Option (List ℕ))) (before after : Counts) (image board : List ℕ) (first second : Reading) (operand : ℕ) → ReadsBoth files before after image board first second
    → both_of first second ≡ Err (loads.Refused (refusals.ReadFault operand)) → Rose before.faults after.faults
both_failed files before after image board (Err e) second operand reads is =
    subst (λ (c : Counts). Rose before.faults c.faults) (sym reads.read_second) (reads.read_first.failed.rose (ap Err (read_fault operand 1 e (err_is _ _ is))))
both_failed files before after image board (Ok text) (Ok more) operand reads is = absurd (subst TextsRefused is (texts_refused text more))
both_failed files before after image board (Ok text) (Err e) operand reads is =
    rose_since before.faults reads.between.faults after.faults reads.read_first.failed.later (reads.read_second.failed.rose (ap Err (read_fault operand 2 e (err_is _ _ is))))

pub both_usage : (first second : Reading) → both_of first second ≢ Err (loads.Refused refusals.Usage)
both_usage (Err e) second is = no_usage 1 e (err_is _ _ is)
both_usage (Ok text) (Ok more) is = subst TextsRefused is (texts_refused text more)
both_usage (Ok text) (Err e) is = no_usage 2 e (err_is _ _ is)

-- no file was there, so the count of misses rose
pub reports_missed : (files : Option (List ℕ → Option (List ℕ))) (before after : Counts) (form : Option Asked) (r : QuickEnd) (old new : Option (List ℕ)) (faults faults' : ℕ)
    → Reports files before after form r old new faults faults' → (operand : ℕ) → r.end ≡ Refused (refusals.NoFile operand) → Rose before.misses after.misses
reports_missed files before after None r old new faults faults' it operand is = cc (ran_ends _ r old new faults faults' _ it.ran is)
reports_missed files before after (Some (Run image board)) r old new faults faults' it operand is = absurd it
reports_missed files before after (Some Help) r old new faults faults' it operand is = cc (ran_ends _ r old new faults faults' _ it.ran is)
reports_missed files before after (Some (Gen number)) r old new faults faults' it operand is = absurd (sim_unrefused _ _ r old new faults faults' _ it.ran is)
reports_missed files before after (Some (OnText what name)) r old new faults faults' it operand is =
    it.read.missed.rose (text_missed operand what it.reading r old new faults faults' it.ran is)
reports_missed files before after (Some (OnBoard what image board)) r old new faults faults' it operand is =
    both_missed files before after image board it.first it.second operand it.reads (board_refused what _ r old new faults faults' _ it.ran is)

-- a read failed, so the count of faults rose
pub reports_failed : (files : Option (List ℕ → Option (List ℕ))) (before after : Counts) (form : Option Asked) (r : QuickEnd) (old new : Option (List ℕ)) (faults faults' : ℕ)
    → Reports files before after form r old new faults faults' → (operand : ℕ) → r.end ≡ Refused (refusals.ReadFault operand) → Rose before.faults after.faults
reports_failed files before after None r old new faults faults' it operand is = cc (ran_ends _ r old new faults faults' _ it.ran is)
reports_failed files before after (Some (Run image board)) r old new faults faults' it operand is = absurd it
reports_failed files before after (Some Help) r old new faults faults' it operand is = cc (ran_ends _ r old new faults faults' _ it.ran is)
reports_failed files before after (Some (Gen number)) r old new faults faults' it operand is = absurd (sim_unrefused _ _ r old new faults faults' _ it.ran is)
reports_failed files before after (Some (OnText what name)) r old new faults faults' it operand is =
    it.read.failed.rose (text_failed operand what it.reading r old new faults faults' it.ran is)
reports_failed files before after (Some (OnBoard what image board)) r old new faults faults' it operand is =
    both_failed files before after image board it.first it.second operand it.reads (board_refused what _ r old new faults faults' _ it.ran is)

-- words that are refused are no written form
pub reports_usage : (files : Option (List ℕ → Option (List ℕ))) (before after : Counts) (form : Option Asked) (r : QuickEnd) (old new : Option (List ℕ)) (faults faults' : ℕ)
    → Reports files before after form r old new faults faults' → r.end ≡ Refused refusals.Usage → form ≡ None
reports_usage files before after None r old new faults faults' it is = refl
reports_usage files before after (Some (Run image board)) r old new faults faults' it is = absurd it
reports_usage files before after (Some Help) r old new faults faults' it is = cc (ran_ends _ r old new faults faults' _ it.ran is)
reports_usage files before after (Some (Gen number)) r old new faults faults' it is = absurd (sim_unrefused _ _ r old new faults faults' _ it.ran is)
reports_usage files before after (Some (OnText what name)) r old new faults faults' it is = absurd (text_usage what it.reading r old new faults faults' it.ran is)
reports_usage files before after (Some (OnBoard what image board)) r old new faults faults' it is =
    absurd (both_usage it.first it.second (board_refused what _ r old new faults faults' _ it.ran is))

-- what follows of what a command leaves
pub record Follows (form : Option Asked) (r : QuickEnd) (faults faults' : ℕ) : Type 0 where
  pub legal : IsLegal r.history.past
  pub scripted : IfSome r.script (λ links. asks_run form ≡ true)
  pub tied : IfSome r.script (λ links. IsTied r.history.past links)
  pub made : IsOfRun r.end → IsSome r.script
  pub no_poll_fault : r.end ≢ PollFault
  pub written : RisesOnly (r.end ≡ WriteFault) faults faults'

-- an end that is none of a run's own
abbrev IsPlain : EndKind → Type 0
IsPlain PollFault = ⊥
IsPlain Break = ⊥
IsPlain Sleep = ⊥
IsPlain CycleLimit = ⊥
IsPlain (Avr s) = ⊥
IsPlain TraceFull = ⊥
IsPlain end = Unit {0}

plain_no_run : (end : EndKind) → IsPlain end → IsOfRun end → ⊥
plain_no_run Break plain of = plain
plain_no_run Sleep plain of = plain
plain_no_run CycleLimit plain of = plain
plain_no_run (Avr s) plain of = plain
plain_no_run TraceFull plain of = plain
plain_no_run end plain of = of

shows_plain : (o : Outcome) (end : EndKind) (past : Past) (old new : Option (List ℕ)) → IsPlain o.end → Shows o end past old new → IsPlain end
shows_plain o WriteFault past old new plain it = tt
shows_plain o NoMemory past old new plain it = tt
shows_plain o end past old new plain it = subst IsPlain (sym it.0) plain

pub no_script : (P : ScriptLinks → Type 0) (script : Option ScriptLinks) → script ≡ None → IfSome script P
no_script P None is = tt
no_script P (Some links) is = cc

ran_follows : (form : Option Asked) (o : Outcome) (r : QuickEnd) (old new : Option (List ℕ)) (faults faults' : ℕ) → IsPlain o.end → Ran o r old new faults faults' → Follows form r faults faults'
ran_follows form o r old new faults faults' plain ran =
    let left = shows_plain o r.end r.history.past old new plain ran.shows in
    record {
      legal = record { starts = o.starts; legal = ran.legal };
      scripted = no_script _ r.script ran.script;
      tied = no_script _ r.script ran.script;
      made = λ of. absurd (plain_no_run r.end left of);
      no_poll_fault = λ is. subst IsPlain is left;
      written = ran.causes;
    }

all_scripted : (form : Option Asked) (script : Option ScriptLinks) → asks_run form ≡ true → IfSome script (λ links. asks_run form ≡ true)
all_scripted form None is = tt
all_scripted form (Some links) is = is

tied_by : (starts : Starts) (past : Past) (script : Option ScriptLinks) → Legal starts past → IfSome script (λ links. Tied starts past (shown (played_of links))) → IfSome script (λ links. IsTied past links)
tied_by starts past None legal it = tt
tied_by starts past (Some links) legal it = record { starts = starts; legal = legal; tied = it }

made_by : (end : EndKind) (script : Option ScriptLinks) → (script ≡ None → end ≡ NoMemory) → IsOfRun end → IsSome script
made_by end None made of = absurd (subst IsOfRun (made refl) of)
made_by end (Some links) made of = refl

keeps_follows : (form : Option Asked) (setup : Setup) (r : QuickEnd) (faults faults' : ℕ) → asks_run form ≡ true → r.end ≢ PollFault → KeepsRun setup r faults faults' → Follows form r faults faults'
keeps_follows form setup r faults faults' asks no_poll_fault it = record {
  legal = record { starts = starts_of setup; legal = it.legal };
  scripted = all_scripted form r.script asks;
  tied = tied_by (starts_of setup) r.history.past r.script it.legal it.tied;
  made = made_by r.end r.script it.made;
  no_poll_fault = no_poll_fault;
  written = it.causes;
}

sim_follows : (form : Option Asked) (image : List ℕ) (setup : Setup) (r : QuickEnd) (old new : Option (List ℕ)) (faults faults' : ℕ) → asks_run form ≡ true → RanSim image setup r old new faults faults'
    → Follows form r faults faults'
sim_follows form image setup r old new faults faults' asks ran =
    keeps_follows form setup r faults faults' asks (no_poll _ image setup _ r.end _ _ old new ran.firmware ran.shows) ran.keeps

both_follows : (what : BoardCommand) (one two : List ℕ) (image : List ℕ) (setup : Setup) (r : QuickEnd) (old new : Option (List ℕ)) (faults faults' : ℕ) → RanBoth what image setup r old new faults faults'
    → Follows (Some (OnBoard what one two)) r faults faults'
both_follows boards.Sim one two image setup r old new faults faults' ran = sim_follows _ image setup r old new faults faults' refl ran
both_follows boards.Trace one two image setup r old new faults faults' ran =
    keeps_follows _ setup r faults faults' refl (no_poll _ image setup _ r.end _ _ old new ran.firmware ran.shows) ran.keeps
both_follows boards.Check one two image setup r old new faults faults' ran = ran_follows _ _ r old new faults faults' tt ran

-- what follows where the operands were not loaded
pub unloaded_follows : (form : Option Asked) (error : LoadError) (r : QuickEnd) (old new : Option (List ℕ)) (faults faults' : ℕ) → RanUnloaded error r old new faults faults' → Follows form r faults faults'
unloaded_follows form (loads.Refused refusal) r old new faults faults' ran = ran_follows form (refused refusal) r old new faults faults' tt ran
unloaded_follows form loads.NoMemory r old new faults faults' it =
    ran_follows form (at_rest NoMemory []) r old new faults faults' tt (rw (it.unwritten, it.still) (none_ran (at_rest NoMemory []) r old faults it.end it.past it.script))

board_follows : (what : BoardCommand) (one two : List ℕ) (loaded : Result (List ℕ × Setup) LoadError) (r : QuickEnd) (old new : Option (List ℕ)) (faults faults' : ℕ)
    → RanBoard what loaded r old new faults faults' → Follows (Some (OnBoard what one two)) r faults faults'
board_follows what one two (Ok both) r old new faults faults' ran = both_follows what one two both.0 both.1 r old new faults faults' ran
board_follows what one two (Err error) r old new faults faults' ran = unloaded_follows _ error r old new faults faults' ran

script_plain : (end : ScriptStop) → IsPlain (end_of end)
script_plain stops.Done = tt
script_plain end = tt

judge_plain : (end : JudgeStop) → IsPlain (end_of_judge end)
judge_plain judges.Done = tt
judge_plain end = tt

listed_plain : (text : List ℕ) (fault : Option HexFault) → IsPlain (listed_outcome (judged_image text fault)).end
listed_plain text None = tt
listed_plain text (Some fault) = tt

outcome_plain : (what : TextCommand) (text : List ℕ) → IsPlain (text_outcome what text).end
outcome_plain texts.Bus text = script_plain (shown_script text).end
outcome_plain texts.Judge text = judge_plain (shown_trace text).end
outcome_plain texts.List text = listed_plain text (fault_in text)

text_follows : (form : Option Asked) (what : TextCommand) (reading : Reading) (r : QuickEnd) (old new : Option (List ℕ)) (faults faults' : ℕ) → RanText what reading r old new faults faults' → Follows form r faults faults'
text_follows form what (Ok text) r old new faults faults' ran = ran_follows form _ r old new faults faults' (outcome_plain what text) ran
text_follows form what (Err e) r old new faults faults' ran = unloaded_follows form (unread 1 e) r old new faults faults' ran

pub reports_follows : (files : Option (List ℕ → Option (List ℕ))) (before after : Counts) (form : Option Asked) (r : QuickEnd) (old new : Option (List ℕ)) (faults faults' : ℕ)
    → Reports files before after form r old new faults faults' → Follows form r faults faults'
reports_follows files before after None r old new faults faults' it = ran_follows _ _ r old new faults faults' tt it.ran
reports_follows files before after (Some Help) r old new faults faults' it = ran_follows _ _ r old new faults faults' tt it.ran
reports_follows files before after (Some (Gen number)) r old new faults faults' it = sim_follows _ _ _ r old new faults faults' refl it.ran
reports_follows files before after (Some (Run image board)) r old new faults faults' it = absurd it
reports_follows files before after (Some (OnText what name)) r old new faults faults' it = text_follows _ what it.reading r old new faults faults' it.ran
reports_follows files before after (Some (OnBoard what image board)) r old new faults faults' it = board_follows what image board _ r old new faults faults' it.ran
