use Rattle.board_gen.specs.Tokens.{line_steps}
use Rattle.board_gen.proofs.EachLine.{each_line}
use Rattle.board_gen.proofs.laws.reads_each_line.Goals as goal

pub returns : goal.returns
returns c = each_line line_steps
