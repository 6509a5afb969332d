use Rattle.chip_steps.proofs.SendingSteps.{unwritten, written, pointer, resize}
use Rattle.chip_steps.proofs.laws.sending_written.Goals as goal

pub returns : goal.returns
returns c = record { unwritten = unwritten; written = written; pointer = pointer; resize = resize }
