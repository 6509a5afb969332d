use Rattle.avr_mcu.proofs.Hurries.{run-hurries}
use Rattle.avr_mcu.proofs.laws.run_hurries.Goals as goal

pub returns : goal.returns
returns c = run-hurries
