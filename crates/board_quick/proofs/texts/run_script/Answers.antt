use Rattle.board_quick.specs.Outcome.{script_run}
use Rattle.board_quick.proofs.Shown.{script_shows, script_rises}
use Rattle.board_quick.proofs.texts.run_script.Goals as goal

pub returns : goal.returns
returns g c = record {
  shows = c.end_told.ensures.shows (script_run c.args.text.now) _ (rw c.end_of.ensures (script_shows c.args.text.now c.script-ran.result.end c.script-ran.result.history.past _ _ c.script-ran.ensures.shows));
  legal = rw c.end_told.ensures.past c.script-ran.ensures.legal;
  script = c.end_told.ensures.script;
  causes = c.end_told.ensures.causes _ (rw c.end_of.ensures (script_rises c.script-ran.result.end _ _ c.script-ran.ensures.faults));
}
