use Rattle.board_quick.specs.Outcome.{judge_run}
use Rattle.board_quick.proofs.Shown.{judge_shows, judge_rises}
use Rattle.board_quick.proofs.texts.judge_trace.Goals as goal

pub returns : goal.returns
returns g c = record {
  shows = c.end_told.ensures.shows (judge_run c.args.text.now) _ (rw c.end_of_judge.ensures (judge_shows c.args.text.now c.judge-judged.result.end c.judge-judged.result.history.past _ _ c.judge-judged.ensures.shows));
  legal = rw c.end_told.ensures.past c.judge-judged.ensures.legal;
  script = c.end_told.ensures.script;
  causes = c.end_told.ensures.causes _ (rw c.end_of_judge.ensures (judge_rises c.judge-judged.result.end _ _ c.judge-judged.ensures.faults));
}
