use Rattle.avr_run.proofs.Steps.{stretch-goes-from}
use Rattle.avr_run.proofs.laws.stretch_goes_from.Goals as goal

pub returns : goal.returns
returns c = stretch-goes-from
