use Rattle.board_run.proofs.Closed.{none_refused}
use Rattle.board_run.proofs.ending.end_step.Goals as goal

pub close-requires : goal.close-requires
close-requires g c = record { unstopped = c.requires.unstopped (none_refused c.args.refused (rw c.in-Break.is at c.requires.wants)) }
