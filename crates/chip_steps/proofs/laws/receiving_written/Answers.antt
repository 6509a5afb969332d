use Rattle.chip_steps.proofs.ReceivingSteps.{unwritten, pointer, resize}
use Rattle.chip_steps.proofs.laws.receiving_written.Goals as goal

pub returns : goal.returns
returns c = record { unwritten = unwritten; pointer = pointer; resize = resize }
