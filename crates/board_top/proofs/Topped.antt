-- What follows of what `top` leaves.
use Rattle.std.proofs.Common.{◌≡◌, ◌≢◌, ◌≤◌, ℕ, Bool, true, false, List, Option, None, Some, IfSome, Result, Ok, Err, refl, sym, ap, ◌∙◌, subst, arith, inl, inr, ◌⊎◌}
use Rattle.std.specs.Option.{IsSome}
use Rattle.chip_sheet.specs.Past.{Past}
use Rattle.link_trait.specs.Shown.{Shown}
use Rattle.wz_base.specs.Outside.{Rose, RisesOnly}
use Rattle.board_file.specs.Boards.{Setup}
use Rattle.board_sim.specs.Ends.{starts_of}
use Rattle.board_sim.specs.declared.end.RunEnd.{RunEnd}
use Rattle.board_sim.specs.declared.end.RunEnd.TheVariants as runs
use Rattle.board_run.specs.Lives.{LivesBy}
use Rattle.board_quick.specs.declared.end.Refusal.{Refusal}
use Rattle.board_quick.specs.declared.end.Refusal.TheVariants as refusals
use Rattle.board_quick.specs.declared.end.EndKind.{EndKind}
use Rattle.board_quick.specs.declared.end.EndKind.TheVariants.{PollFault, WriteFault, Refused}
use Rattle.board_quick.specs.declared.end.QuickEnd.{QuickEnd}
use Rattle.board_top.specs.declared.end.TopEnd.{TopEnd}
use Rattle.board_quick.specs.declared.loading.LoadError.{LoadError}
use Rattle.board_quick.specs.declared.loading.LoadError.TheVariants as loads
use Rattle.board_quick.specs.Words.{Asked, Run, OnText, OnBoard, Gen, Help, asks_live}
use Rattle.board_quick.specs.Reads.{Counts}
use Rattle.board_quick.specs.Loads.{both_of}
use Rattle.board_quick.specs.Runs.{end_of_run, IsOfRun, IsTied}
use Rattle.board_quick.specs.Outcome.{asks_run, IsLegal, Reports}
use Rattle.board_top.specs.Tops.{EndsUnloaded, IsBeside, RanLive, ReportsElse, ReportsRun, ReportsTop, RunsLoaded}
use Rattle.board_quick.proofs.Causes.{rises_as}
use Rattle.board_quick.proofs.Scheduled.{failed_run, polled}
use Rattle.board_quick.proofs.Reported.{both_failed, both_missed, both_usage, no_script, reports_failed, reports_follows, reports_missed, reports_usage, run_unrefused, unloaded_follows, unloaded_refused, Follows}

-- what follows of what is left, by the words
pub record TopFollows {L P : Type 0} (failed : P → ℕ) (before after : Counts) (form : Option Asked) (links : L) (poller : P) (r : TopEnd L P) (faults faults' : ℕ) : Type 0 where
  pub legal : IsLegal r.history.past
  pub unlinked : asks_live form ≡ false → (r.links ≡ links) × (r.poller ≡ poller)
  pub scripted : IfSome r.script (λ script. asks_run form ≡ true)
  pub tied : IfSome r.script (λ script. IsTied r.history.past script)
  pub made : IsOfRun r.end → asks_live form ≡ false → IsSome r.script
  pub usage : r.end ≡ Refused refusals.Usage → form ≡ None
  pub missed : (operand : ℕ) → r.end ≡ Refused (refusals.NoFile operand) → Rose before.misses after.misses
  pub unread : (operand : ℕ) → r.end ≡ Refused (refusals.ReadFault operand) → Rose before.faults after.faults
  pub written : RisesOnly (r.end ≡ WriteFault) faults faults'
  pub polled : r.end ≡ PollFault → (asks_live form ≡ true) × Rose (failed poller) (failed r.poller)
  pub later : failed poller ≤ failed r.poller

le_same : (a b : ℕ) → a ≡ b → b ≤ a
le_same a b is = omega (arith, is)

beside_follows : {L P : Type 0} (failed : P → ℕ) (before after : Counts) (form : Option Asked) (links : L) (poller : P) (left : QuickEnd) (r : TopEnd L P) (faults faults' : ℕ) → Follows form left faults faults'
    → (left.end ≡ Refused refusals.Usage → form ≡ None) → ((operand : ℕ) → left.end ≡ Refused (refusals.NoFile operand) → Rose before.misses after.misses)
    → ((operand : ℕ) → left.end ≡ Refused (refusals.ReadFault operand) → Rose before.faults after.faults) → IsBeside left links poller r
    → TopFollows failed before after form links poller r faults faults'
beside_follows failed before after form links poller left r faults faults' it usage missed unread same = record {
  legal = rw same.history_is it.legal;
  unlinked = λ other. (same.links_are, same.poller_is);
  scripted = rw same.script_is it.scripted;
  tied = rw (same.script_is, same.history_is) it.tied;
  made = λ of other. rw same.script_is (it.made (rw same.end_is at of));
  usage = λ is. usage (sym same.end_is ∙ is);
  missed = λ operand is. missed operand (sym same.end_is ∙ is);
  unread = λ operand is. unread operand (sym same.end_is ∙ is);
  written = rises_as faults faults' (λ is. sym same.end_is ∙ is) (λ is. same.end_is ∙ is) it.written;
  polled = λ is. absurd (it.no_poll_fault (sym same.end_is ∙ is));
  later = le_same (failed r.poller) (failed poller) (ap failed same.poller_is);
}

else_follows : {L P : Type 0} (failed : P → ℕ) (files : Option (List ℕ → Option (List ℕ))) (before after : Counts) (form : Option Asked) (links : L) (poller : P) (r : TopEnd L P) (old new : Option (List ℕ))
    → (faults faults' : ℕ) → ReportsElse files before after form links poller r old new faults faults' → TopFollows failed before after form links poller r faults faults'
else_follows failed files before after form links poller r old new faults faults' it =
    beside_follows failed before after form links poller it.left r faults faults' (reports_follows files before after form it.left old new faults faults' it.reports)
    (reports_usage files before after form it.left old new faults faults' it.reports) (reports_missed files before after form it.left old new faults faults' it.reports)
    (reports_failed files before after form it.left old new faults faults' it.reports) it.beside

unloaded_top : {L P : Type 0} (failed : P → ℕ) (before after : Counts) (form : Option Asked) (error : LoadError) (links : L) (poller : P) (r : TopEnd L P) (old new : Option (List ℕ)) (faults faults' : ℕ)
    → (error ≡ loads.Refused refusals.Usage → form ≡ None) → ((operand : ℕ) → error ≡ loads.Refused (refusals.NoFile operand) → Rose before.misses after.misses)
    → ((operand : ℕ) → error ≡ loads.Refused (refusals.ReadFault operand) → Rose before.faults after.faults) → EndsUnloaded error links poller r old new faults faults'
    → TopFollows failed before after form links poller r faults faults'
unloaded_top failed before after form error links poller r old new faults faults' usage missed unread it =
    beside_follows failed before after form links poller it.left r faults faults' (unloaded_follows form error it.left old new faults faults' it.ran)
    (λ is. usage (unloaded_refused error it.left old new faults faults' _ it.ran is)) (λ operand is. missed operand (unloaded_refused error it.left old new faults faults' _ it.ran is))
    (λ operand is. unread operand (unloaded_refused error it.left old new faults faults' _ it.ran is)) it.beside

-- a wait failed where a live run ends so
live_polled : (e : RunEnd) (image : List ℕ) (setup : Setup) (before : ℕ) (past : Past) (links : Shown) (faults cycles : ℕ) (old new : Option (List ℕ))
    → LivesBy e image setup before (record { past = past; links = links; faults = faults; cycles = cycles; end = e }) old new → e ≡ runs.PollFault → Rose before faults
live_polled runs.PollFault image setup before past links faults cycles old new by is = by.comes.1.1
live_polled e image setup before past links faults cycles old new by is = cc

run_is_live : (image board : List ℕ) → asks_live (Some (Run image board)) ≡ false → ⊥
run_is_live image board is = cc

live_follows : {L P : Type 0} (shown : L → Shown) (failed : P → ℕ) (before after : Counts) (one two : List ℕ) (image : List ℕ) (setup : Setup) (links : L) (poller : P) (r : TopEnd L P) (old new : Option (List ℕ))
    → (faults faults' : ℕ) → RanLive shown failed image setup poller r old new faults faults' → TopFollows failed before after (Some (Run one two)) links poller r faults faults'
live_follows shown failed before after one two image setup links poller r old new faults faults' it = record {
  legal = record { starts = starts_of setup; legal = it.lives.legal };
  unlinked = λ other. absurd (run_is_live one two other);
  scripted = no_script _ r.script it.script_is;
  tied = no_script _ r.script it.script_is;
  made = λ of other. absurd (run_is_live one two other);
  usage = λ is. absurd (run_unrefused r.end it.end _ it.end_is is);
  missed = λ operand is. absurd (run_unrefused r.end it.end _ it.end_is is);
  unread = λ operand is. absurd (run_unrefused r.end it.end _ it.end_is is);
  written = rises_as faults faults' (λ is. failed_run it.end (sym it.end_is ∙ is)) (λ is. it.end_is ∙ ap end_of_run is) it.lives.causes;
  polled = λ is. (refl, live_polled it.end image setup (failed poller) r.history.past (shown r.links) (failed r.poller) it.cycles old new it.lives.by (polled it.end (sym is ∙ it.end_is)));
  later = it.lives.later;
}

loaded_follows : {L P : Type 0} (shown : L → Shown) (failed : P → ℕ) (before after : Counts) (one two : List ℕ) (loaded : Result (List ℕ × Setup) LoadError) (links : L) (poller : P) (r : TopEnd L P)
    → (old new : Option (List ℕ)) (faults faults' : ℕ) → (loaded ≢ Err (loads.Refused refusals.Usage)) → ((operand : ℕ) → loaded ≡ Err (loads.Refused (refusals.NoFile operand)) → Rose before.misses after.misses)
    → ((operand : ℕ) → loaded ≡ Err (loads.Refused (refusals.ReadFault operand)) → Rose before.faults after.faults) → RunsLoaded shown failed loaded links poller r old new faults faults'
    → TopFollows failed before after (Some (Run one two)) links poller r faults faults'
loaded_follows shown failed before after one two (Ok both) links poller r old new faults faults' usage missed unread (inl ran) =
    live_follows shown failed before after one two both.0 both.1 links poller r old new faults faults' ran
loaded_follows shown failed before after one two (Ok both) links poller r old new faults faults' usage missed unread (inr none) =
    unloaded_top failed before after _ loads.NoMemory links poller r old new faults faults' (λ is. cc) (λ operand is. cc) (λ operand is. cc) none
loaded_follows shown failed before after one two (Err error) links poller r old new faults faults' usage missed unread ran =
    unloaded_top failed before after _ error links poller r old new faults faults' (λ is. absurd (usage (ap Err is))) (λ operand is. missed operand (ap Err is)) (λ operand is. unread operand (ap Err is)) ran

pub top_follows : {L P : Type 0} (shown : L → Shown) (failed : P → ℕ) (files : Option (List ℕ → Option (List ℕ))) (before after : Counts) (form : Option Asked) (links : L) (poller : P) (r : TopEnd L P)
    → (old new : Option (List ℕ)) (faults faults' : ℕ) → ReportsTop shown failed files before after form links poller r old new faults faults' → TopFollows failed before after form links poller r faults faults'
top_follows shown failed files before after (Some (Run image board)) links poller r old new faults faults' it =
    loaded_follows shown failed before after image board _ links poller r old new faults faults' (both_usage it.first it.second)
    (λ operand is. both_missed files before after image board it.first it.second operand it.reads is) (λ operand is. both_failed files before after image board it.first it.second operand it.reads is) it.ran
top_follows shown failed files before after None links poller r old new faults faults' it = else_follows failed files before after None links poller r old new faults faults' it
top_follows shown failed files before after (Some (OnText what name)) links poller r old new faults faults' it =
    else_follows failed files before after (Some (OnText what name)) links poller r old new faults faults' it
top_follows shown failed files before after (Some (OnBoard what image board)) links poller r old new faults faults' it =
    else_follows failed files before after (Some (OnBoard what image board)) links poller r old new faults faults' it
top_follows shown failed files before after (Some (Gen number)) links poller r old new faults faults' it =
    else_follows failed files before after (Some (Gen number)) links poller r old new faults faults' it
top_follows shown failed files before after (Some Help) links poller r old new faults faults' it = else_follows failed files before after (Some Help) links poller r old new faults faults' it

-- where the words are no live run, `quick` leaves it
pub reports_else : {L P : Type 0} (shown : L → Shown) (failed : P → ℕ) (files : Option (List ℕ → Option (List ℕ))) (before after : Counts) (form : Option Asked) (left : QuickEnd) (links : L) (poller : P)
    → (r : TopEnd L P) (old new : Option (List ℕ)) (faults faults' : ℕ) → Reports files before after form left old new faults faults' → IsBeside left links poller r
    → ReportsTop shown failed files before after form links poller r old new faults faults'
reports_else shown failed files before after None left links poller r old new faults faults' it same = record { left = left; reports = it; beside = same }
reports_else shown failed files before after (Some (Run image board)) left links poller r old new faults faults' it same = absurd it
reports_else shown failed files before after (Some (OnText what name)) left links poller r old new faults faults' it same = record { left = left; reports = it; beside = same }
reports_else shown failed files before after (Some (OnBoard what image board)) left links poller r old new faults faults' it same = record { left = left; reports = it; beside = same }
reports_else shown failed files before after (Some (Gen number)) left links poller r old new faults faults' it same = record { left = left; reports = it; beside = same }
reports_else shown failed files before after (Some Help) left links poller r old new faults faults' it same = record { left = left; reports = it; beside = same }
