use Rattle.board_gen.proofs.Replays.{lines_told}
use Rattle.board_gen.proofs.laws.lines_are_told.Goals as goal

pub returns : goal.returns
returns c = lines_told
