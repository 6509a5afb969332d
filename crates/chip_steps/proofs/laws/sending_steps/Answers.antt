use Rattle.chip_steps.proofs.SendingSteps.{commits, took, opens, connects}
use Rattle.chip_steps.proofs.laws.sending_steps.Goals as goal

pub returns : goal.returns
returns c = record { commits = commits; took = took; opens = opens; connects = connects }
