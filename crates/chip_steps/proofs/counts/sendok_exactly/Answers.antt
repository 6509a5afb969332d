use Rattle.chip_steps.proofs.OverLives.{sendok}
use Rattle.chip_steps.proofs.counts.sendok_exactly.Goals as goal

pub returns : goal.returns
returns c = sendok
