use Rattle.chip_laws.proofs.Front.{front}
use Rattle.chip_laws.proofs.supplied.received_within_supplied.Goals as goal

pub returns : goal.returns
returns c = front
