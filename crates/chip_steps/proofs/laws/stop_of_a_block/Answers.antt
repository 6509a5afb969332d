use Rattle.chip_steps.proofs.StopSteps.{no_access, reads, reads_reserved, writes_reserved, writes_common, writes_rx, writes_tx, writes_command, writes_register}
use Rattle.chip_steps.proofs.laws.stop_of_a_block.Goals as goal

pub returns : goal.returns
returns c = record { no_access = no_access; reads = reads; reads_reserved = reads_reserved; writes_reserved = writes_reserved; common = writes_common; rx = writes_rx; tx = writes_tx; command = writes_command; register = writes_register }
