-- What a scripted run leaves, as a command's.
use Rattle.std.proofs.Common.{arith, ◌≡◌, ◌≢◌, ℕ, List, [], Option, None, refl, sym, ap, ◌∙◌, subst}
use Rattle.chip_sheet.specs.Past.{Past}
use Rattle.chip_sheet.specs.Legal.{Legal}
use Rattle.link_script.specs.declared.script_links.ScriptLinks.{ScriptLinks}
use Rattle.board_file.specs.Boards.{Setup}
use Rattle.board_sim.specs.Schedule as schedule
use Rattle.board_sim.specs.Ends.{outcome, sim_text, starts_of, traced, Holds, IsWhole, SimBy, Sims, StopsAtTrace, TraceBy, TracesRun}
use Rattle.board_sim.specs.declared.end.RunEnd.{RunEnd}
use Rattle.board_sim.specs.declared.end.RunEnd.TheVariants as runs
use Rattle.board_sim.specs.declared.end.SimEnd.{SimEnd}
use Rattle.board_sim.specs.FirmwareRuns.{EndsBy}
use Rattle.board_sim.proofs.FirmwareRun.{firmware_run}
use Rattle.avr_mcu.specs.State.{reset_state}
use Rattle.board_quick.specs.declared.end.EndKind.{EndKind}
use Rattle.board_quick.specs.declared.end.EndKind.TheVariants.{PollFault, WriteFault, NoMemory}
use Rattle.board_quick.specs.declared.end.QuickEnd.{QuickEnd}
use Rattle.board_quick.specs.Runs.{end_of_run, FirmwareEnds, IsCutSim, IsRun, KeepsRun, RanSim, RanTrace, ShowsRun}
use Rattle.board_quick.proofs.Causes.{rises_as}

-- the schedule's history has the firmware's run in it
pub firmware_ends : (image : List ℕ) (setup : Setup) → FirmwareEnds image setup
firmware_ends image setup = firmware_run setup.cycles image (starts_of setup) setup.events setup.peers

whole_run : (o : schedule.Outcome) (text : List ℕ) (e : RunEnd) (r : SimEnd) (old new : Option (List ℕ)) → r.end ≡ e → IsWhole o text r old new
    → IsRun o text (end_of_run e) r.history.past r.links old new
whole_run o text e r old new is it = record { end_is = ap end_of_run (sym is ∙ it.end_is); past_is = it.past_is; script_is = it.links_are; wrote = it.wrote }

sim_shown : (e : RunEnd) (image : List ℕ) (setup : Setup) (r : SimEnd) (old new : Option (List ℕ)) → r.end ≡ e → SimBy e image setup r old new
    → ShowsRun (IsCutSim image setup r.history.past r.links old new) (outcome image setup) (sim_text setup (outcome image setup)) (end_of_run e) r.history.past r.links old new
sim_shown runs.WriteFault image setup r old new is it = it
sim_shown runs.NoMemory image setup r old new is it = it
sim_shown e image setup r old new is it = whole_run (outcome image setup) (sim_text setup (outcome image setup)) e r old new is it

pub failed_run : (e : RunEnd) → end_of_run e ≡ WriteFault → e ≡ runs.WriteFault
failed_run runs.WriteFault is = refl
failed_run e is = cc

keeps_run : (setup : Setup) (ran : SimEnd) (r : QuickEnd) (before after : ℕ) → r.end ≡ end_of_run ran.end → r.history.past ≡ ran.history.past → r.script ≡ ran.links → Holds setup ran before after
    → KeepsRun setup r before after
keeps_run setup ran r before after end past script it = record {
  legal = subst (λ (p : Past). Legal (starts_of setup) p) (sym past) it.legal;
  tied = rw (past, script) it.tied;
  made = λ none. end ∙ ap end_of_run (it.made (sym script ∙ none));
  causes = rises_as before after (λ is. failed_run ran.end (sym end ∙ is)) (λ is. end ∙ ap end_of_run is) it.causes;
}

pub ran_sim : (image : List ℕ) (setup : Setup) (ran : SimEnd) (r : QuickEnd) (old new : Option (List ℕ)) (before after : ℕ) → r.end ≡ end_of_run ran.end → r.history.past ≡ ran.history.past
    → r.script ≡ ran.links → Sims image setup ran old new before after → RanSim image setup r old new before after
ran_sim image setup ran r old new before after end past script it = record {
  shows = rw (end, past, script) (sim_shown ran.end image setup ran old new refl it.by);
  keeps = keeps_run setup ran r before after end past script it.holds;
  firmware = firmware_ends image setup;
}

trace_shown : (e : RunEnd) (image : List ℕ) (setup : Setup) (r : SimEnd) (old new : Option (List ℕ)) → r.end ≡ e → TraceBy e image setup r old new
    → ShowsRun (StopsAtTrace (outcome image setup) (traced setup (outcome image setup)) r.history.past r.links old new) (outcome image setup) (traced setup (outcome image setup)) (end_of_run e) r.history.past r.links old new
trace_shown runs.WriteFault image setup r old new is it = it
trace_shown runs.NoMemory image setup r old new is it = it
trace_shown e image setup r old new is it = whole_run (outcome image setup) (traced setup (outcome image setup)) e r old new is it

pub ran_trace : (image : List ℕ) (setup : Setup) (ran : SimEnd) (r : QuickEnd) (old new : Option (List ℕ)) (before after : ℕ) → r.end ≡ end_of_run ran.end → r.history.past ≡ ran.history.past
    → r.script ≡ ran.links → TracesRun image setup ran old new before after → RanTrace image setup r old new before after
ran_trace image setup ran r old new before after end past script it = record {
  shows = rw (end, past, script) (trace_shown ran.end image setup ran old new refl it.by);
  keeps = keeps_run setup ran r before after end past script it.holds;
  firmware = firmware_ends image setup;
}

-- memory ran out before anything happened
pub keeps_none : (setup : Setup) (r : QuickEnd) (faults : ℕ) → r.end ≡ NoMemory → r.history.past ≡ [] → r.script ≡ None → KeepsRun setup r faults faults
keeps_none setup r faults is past script = record {
  legal = subst (λ (p : Past). Legal (starts_of setup) p) (sym past) tt;
  tied = rw script tt;
  made = λ none. is;
  causes = record { later = omega arith; rose = λ e. cc (sym is ∙ e); still = λ no. refl };
}

-- a run ends as a schedule does, or it was cut
pub run_end : (cut : Type 0) (o : schedule.Outcome) (text : List ℕ) (end : EndKind) (past : Past) (script : Option ScriptLinks) (old new : Option (List ℕ)) → ShowsRun cut o text end past script old new
    → (e : RunEnd) × (end ≡ end_of_run e)
run_end cut o text WriteFault past script old new it = (runs.WriteFault, refl)
run_end cut o text NoMemory past script old new it = (runs.NoMemory, refl)
run_end cut o text end past script old new it = (o.end, it.end_is)

-- an end of this name
pub polled : (e : RunEnd) → PollFault ≡ end_of_run e → e ≡ runs.PollFault
polled runs.PollFault is = refl
polled e is = cc

-- no schedule ends by a poll that failed
pub no_poll : (cut : Type 0) (image : List ℕ) (setup : Setup) (text : List ℕ) (end : EndKind) (past : Past) (script : Option ScriptLinks) (old new : Option (List ℕ)) → FirmwareEnds image setup
    → ShowsRun cut (outcome image setup) text end past script old new → end ≢ PollFault
no_poll cut image setup text PollFault past script old new ends it is =
    subst (λ (e : RunEnd). EndsBy (starts_of setup) setup.events setup.cycles (reset_state image) (outcome image setup) e) (polled (outcome image setup).end it.end_is) ends
no_poll cut image setup text end past script old new ends it is = cc
