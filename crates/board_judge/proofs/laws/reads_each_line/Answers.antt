use Rattle.board_judge.specs.Entries.{entry_read}
use Rattle.board_gen.proofs.EachLine.{each_line}
use Rattle.board_judge.proofs.laws.reads_each_line.Goals as goal

pub returns : goal.returns
returns c = each_line entry_read
