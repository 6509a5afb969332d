use Rattle.board_gen.proofs.ToldLaws.{told_legal}
use Rattle.board_gen.proofs.told.told_is_legal.Goals as goal

pub returns : goal.returns
returns c = told_legal
