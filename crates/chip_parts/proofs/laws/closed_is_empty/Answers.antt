use Rattle.chip_parts.proofs.Closed.{closed_is_empty}
use Rattle.chip_parts.proofs.laws.closed_is_empty.Goals as goal

pub returns : goal.returns
returns c = closed_is_empty
