use Rattle.board_quick.proofs.Causes.{was_read}
use Rattle.board_quick.proofs.reading.read_operand.Goals as goal

pub returns-clause-read : goal.returns-clause-read
returns-clause-read g c =
    was_read _ _ _ _ _ _ c.read_whole.result c.read_whole.ensures.whole c.read_whole.ensures.within c.read_whole.ensures.no_file c.read_whole.ensures.too_long c.read_whole.ensures.misses c.read_whole.ensures.faults
