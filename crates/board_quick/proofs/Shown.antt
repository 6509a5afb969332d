-- The end of a script and of a judged trace as a command's, and the line of a refusal, also behind their text.
use Rattle.std.proofs.Common.{arith, append-nil, ◌≡◌, ℕ, List, [], ◌++◌, Option, None, Some, refl, sym, ap, ◌∙◌, subst}
use Rattle.chip_sheet.specs.Past.{Past}
use Rattle.chip_sheet.specs.Legal.{Legal}
use Rattle.wz_base.specs.Outside.{RisesOnly}
use Rattle.wz_base.specs.Whole.{Appends, AppendsFront}
use Rattle.wz_base.proofs.Gathered.{appends_then, appends_none, front_before, front_first, front_then}
use Rattle.board_file.specs.Boards.{Setup}
use Rattle.board_gen.specs.declared.fault.ScriptFault.{ScriptFault}
use Rattle.board_gen.specs.declared.end.ScriptStop.{ScriptStop}
use Rattle.board_gen.specs.declared.end.ScriptStop.TheVariants as stops
use Rattle.board_gen.specs.Shown as script
use Rattle.board_judge.specs.declared.end.JudgeStop.{JudgeStop}
use Rattle.board_judge.specs.declared.end.JudgeStop.TheVariants as judges
use Rattle.board_judge.specs.Shown as trace
use Rattle.board_quick.specs.declared.end.Refusal.{Refusal}
use Rattle.board_quick.specs.declared.end.Refusal.TheVariants as refusals
use Rattle.board_quick.specs.declared.end.EndKind.{EndKind}
use Rattle.board_quick.specs.declared.end.EndKind.TheVariants.{WriteFault, NoMemory, Refused}
use Rattle.board_quick.specs.Ends.{fault_text}
use Rattle.board_quick.specs.declared.end.QuickEnd.{QuickEnd}
use Rattle.board_quick.specs.declared.words.BoardCommand.{BoardCommand}
use Rattle.board_quick.specs.declared.words.BoardCommand.TheVariants as boards
use Rattle.board_quick.specs.Outcome.{Outcome, end_of, end_of_judge, judge_run, last_line, refused, script_run, line_of, text_fault, with_last_line, AddsLine, IsCut, IsWhole, Ran, RanBoth, Shows}
use Rattle.board_quick.proofs.Causes.{rises_as}
use Rattle.board_quick.proofs.Scheduled.{firmware_ends, keeps_none}

-- the text and the line behind it
added : (o : Outcome) (end : EndKind) (line : List ℕ) (old new : Option (List ℕ)) → end ≡ o.end → last_line end ≡ line → Appends old (o.text ++ line) new → Appends old (with_last_line o).text new
added o end line old new is last written = subst (λ (l : List ℕ). Appends old (o.text ++ l) new) (sym last ∙ ap last_line is) written

whole : (o : Outcome) (end : EndKind) (past : Past) (old new : Option (List ℕ)) → last_line end ≡ [] → IsWhole o end past old new → IsWhole (with_last_line o) end past old new
whole o end past old new last it =
    (it.0, it.1, added o end [] old new it.0 last (subst (λ (t : List ℕ). Appends old t new) (sym (append-nil o.text)) it.2))

cut : (o : Outcome) (past : Past) (old new : Option (List ℕ)) → IsCut o past old new → IsCut (with_last_line o) past old new
cut o past old new it = (it.0, front_before old new o.text (last_line o.end) it.1)

-- an end without a fault of the text
pub plain_told : (o : Outcome) (end : EndKind) (past : Past) (old new : Option (List ℕ)) → text_fault end ≡ None → Shows o end past old new → Shows (with_last_line o) end past old new
plain_told o WriteFault past old new none it = cut o past old new it
plain_told o NoMemory past old new none it = cut o past old new it
plain_told o end past old new none it = whole o end past old new (ap line_of none) it

pub fault_is : (end : EndKind) (fault : ScriptFault) → text_fault end ≡ Some fault → end ≡ Refused (refusals.Script fault)
fault_is (Refused (refusals.Script found)) fault is = cc
fault_is end fault is = cc

-- a fault of the text, whose line is written behind
pub fault_told : (o : Outcome) (fault : ScriptFault) (end : EndKind) (past : Past) (old mid new : Option (List ℕ)) → Shows o (Refused (refusals.Script fault)) past old mid
    → AddsLine (refusals.Script fault) end mid new → Shows (with_last_line o) end past old new
fault_told o fault WriteFault past old mid new it adds =
    (([], sym it.1), subst (λ (l : List ℕ). AppendsFront old (o.text ++ l) new) (ap last_line it.0) (front_then old mid new o.text (fault_text (refusals.Script fault)) it.2 adds))
fault_told o fault NoMemory past old mid new it adds =
    (([], sym it.1), subst (λ (m : Option (List ℕ)). AppendsFront old (o.text ++ last_line o.end) m) (sym adds) (front_first old mid o.text (last_line o.end) it.2))
fault_told o fault (Refused r) past old mid new it adds =
    (ap Refused adds.0 ∙ it.0, it.1, added o (Refused (refusals.Script fault)) (fault_text (refusals.Script fault)) old new it.0 refl (appends_then old mid new o.text (fault_text (refusals.Script fault)) it.2 adds.1))
fault_told o fault end past old mid new it adds = absurd adds

-- what runs a script
pub script_shows : (text : List ℕ) (end : ScriptStop) (past : Past) (old new : Option (List ℕ)) → script.Shows (script.shown text) end past old new → Shows (script_run text) (end_of end) past old new
script_shows text stops.Done past old new it = (ap end_of it.0, it.1, it.2)
script_shows text (stops.Fault fault) past old new it = (ap end_of it.0, it.1, it.2)
script_shows text (stops.Chip s) past old new it = (ap end_of it.0, it.1, it.2)
script_shows text stops.WriteFault past old new it = it
script_shows text stops.NoMemory past old new it = it

failed : (end : ScriptStop) → end_of end ≡ WriteFault → end ≡ stops.WriteFault
failed stops.Done is = cc
failed (stops.Fault fault) is = cc
failed (stops.Chip s) is = cc
failed stops.WriteFault is = refl
failed stops.NoMemory is = cc

pub script_rises : (end : ScriptStop) (before now : ℕ) → RisesOnly (end ≡ stops.WriteFault) before now → RisesOnly (end_of end ≡ WriteFault) before now
script_rises end before now rises = rises_as before now (failed end) (λ is. ap end_of is) rises

-- what judges a trace
pub judge_shows : (text : List ℕ) (end : JudgeStop) (past : Past) (old new : Option (List ℕ)) → trace.Shows (trace.shown text) end past old new → Shows (judge_run text) (end_of_judge end) past old new
judge_shows text judges.Done past old new it = (ap end_of_judge it.0, it.1, it.2)
judge_shows text (judges.Fault fault) past old new it = (ap end_of_judge it.0, it.1, it.2)
judge_shows text (judges.Judged fault) past old new it = (ap end_of_judge it.0, it.1, it.2)
judge_shows text judges.WriteFault past old new it = it
judge_shows text judges.NoMemory past old new it = it

judge_failed : (end : JudgeStop) → end_of_judge end ≡ WriteFault → end ≡ judges.WriteFault
judge_failed judges.Done is = cc
judge_failed (judges.Fault fault) is = cc
judge_failed (judges.Judged fault) is = cc
judge_failed judges.WriteFault is = refl
judge_failed judges.NoMemory is = cc

pub judge_rises : (end : JudgeStop) (before now : ℕ) → RisesOnly (end ≡ judges.WriteFault) before now → RisesOnly (end_of_judge end ≡ WriteFault) before now
judge_rises end before now rises = rises_as before now (judge_failed end) (λ is. ap end_of_judge is) rises

-- nothing yet is a prefix of all
none_front : (text : List ℕ) (old : Option (List ℕ)) → AppendsFront old text old
none_front text old = (0, omega arith, appends_none old)

pub cut_none : (o : Outcome) (old : Option (List ℕ)) → IsCut o [] old old
cut_none o old = ((o.past, sym (append-nil o.past)), none_front o.text old)

-- a prefix of the text, and nothing happened
pub cut_front : (o : Outcome) (old new : Option (List ℕ)) → AppendsFront old o.text new → IsCut o [] old new
cut_front o old new front = ((o.past, sym (append-nil o.past)), front)

-- the line of a refusal before anything happened
pub line_shown : (refusal : Refusal) (end : EndKind) (old new : Option (List ℕ)) → AddsLine refusal end old new → Shows (refused refusal) end [] old new
line_shown refusal WriteFault old new adds = cut_front (refused refusal) old new adds
line_shown refusal NoMemory old new adds = subst (λ (m : Option (List ℕ)). IsCut (refused refusal) [] old m) (sym adds) (cut_none (refused refusal) old)
line_shown refusal (Refused r) old new adds = (ap Refused adds.0, refl, adds.1)
line_shown refusal end old new adds = absurd adds

-- memory ran out before anything happened
pub none_ran : (o : Outcome) (r : QuickEnd) (old : Option (List ℕ)) (faults : ℕ) → r.end ≡ NoMemory → r.history.past ≡ [] → r.script ≡ None → Ran o r old old faults faults
none_ran o r old faults is past script = record {
  shows = rw (is, past) (cut_none o old);
  legal = subst (λ (p : Past). Legal o.starts p) (sym past) tt;
  script = script;
  causes = record { later = omega arith; rose = λ e. cc (sym is ∙ e); still = λ no. refl };
}

pub none_ran_both : (what : BoardCommand) (image : List ℕ) (setup : Setup) (r : QuickEnd) (old : Option (List ℕ)) (faults : ℕ) → r.end ≡ NoMemory → r.history.past ≡ [] → r.script ≡ None
    → RanBoth what image setup r old old faults faults
none_ran_both boards.Sim image setup r old faults is past script = record {
  shows = rw is (none_front _ old);
  keeps = keeps_none setup r faults is past script;
  firmware = firmware_ends image setup;
}
none_ran_both boards.Trace image setup r old faults is past script = record {
  shows = rw is (none_front _ old);
  keeps = keeps_none setup r faults is past script;
  firmware = firmware_ends image setup;
}
none_ran_both boards.Check image setup r old faults is past script = none_ran _ r old faults is past script
