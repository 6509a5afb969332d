use Rattle.board_gen.specs.Tokens.{line_steps}
use Rattle.board_gen.proofs.EachLine.{first_fault}
use Rattle.board_gen.proofs.laws.fault_is_the_first.Goals as goal

pub returns : goal.returns
returns c = first_fault line_steps
