use Rattle.chip_steps.proofs.ReceivingSteps.{stays, empties}
use Rattle.chip_steps.proofs.laws.receiving_left.Goals as goal

pub returns : goal.returns
returns c = record { stays = stays; empties = empties }
