use Rattle.avr_run.proofs.Runs.{run-begins}
use Rattle.avr_run.proofs.laws.run_begins.Goals as goal

pub returns : goal.returns
returns c = run-begins
