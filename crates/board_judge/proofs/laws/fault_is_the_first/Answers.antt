use Rattle.board_judge.specs.Entries.{entry_read}
use Rattle.board_gen.proofs.EachLine.{first_fault}
use Rattle.board_judge.proofs.laws.fault_is_the_first.Goals as goal

pub returns : goal.returns
returns c = first_fault entry_read
