use Rattle.board_sim_laws.proofs.Grows.{turn_adds, sweep_adds, closing_adds, run_adds}
use Rattle.board_sim_laws.proofs.history_grows.Goals as goal

pub returns-clause-turn : goal.returns-clause-turn
returns-clause-turn c = turn_adds

pub returns-clause-sweep : goal.returns-clause-sweep
returns-clause-sweep c = sweep_adds

pub returns-clause-closing : goal.returns-clause-closing
returns-clause-closing c = closing_adds

pub returns-clause-run : goal.returns-clause-run
returns-clause-run c = run_adds
