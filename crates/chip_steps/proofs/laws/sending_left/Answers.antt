use Rattle.chip_steps.proofs.SendingSteps.{stays, empties}
use Rattle.chip_steps.proofs.laws.sending_left.Goals as goal

pub returns : goal.returns
returns c = record { stays = stays; empties = empties }
