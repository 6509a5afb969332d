use Rattle.board_quick.proofs.Scheduled.{ran_trace}
use Rattle.board_quick.proofs.runs.trace.Goals as goal

pub returns : goal.returns
returns g c = ran_trace _ _ c.trace.result c.left_by.result _ _ _ _ c.left_by.ensures.end c.left_by.ensures.past c.left_by.ensures.script c.trace.ensures
