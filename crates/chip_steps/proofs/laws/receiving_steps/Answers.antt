use Rattle.chip_steps.proofs.ReceivingSteps.{releases, gets, gets_datagram, opens, connects}
use Rattle.chip_steps.proofs.laws.receiving_steps.Goals as goal

pub returns : goal.returns
returns c = record { releases = releases; gets = gets; gets_datagram = gets_datagram; opens = opens; connects = connects }
