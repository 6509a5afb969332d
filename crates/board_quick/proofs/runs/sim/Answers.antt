use Rattle.board_quick.proofs.Scheduled.{ran_sim}
use Rattle.board_quick.proofs.runs.sim.Goals as goal

pub returns : goal.returns
returns g c = ran_sim _ _ c.sim.result c.left_by.result _ _ _ _ c.left_by.ensures.end c.left_by.ensures.past c.left_by.ensures.script c.sim.ensures
