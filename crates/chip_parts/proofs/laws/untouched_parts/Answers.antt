use Rattle.chip_parts.proofs.Buffers.{none_steps}
use Rattle.chip_parts.proofs.laws.untouched_parts.Goals as goal

pub returns : goal.returns
returns c = none_steps
