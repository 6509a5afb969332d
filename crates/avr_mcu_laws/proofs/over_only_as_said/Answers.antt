use Rattle.avr_mcu_laws.proofs.StepCuts.{step-cuts}
use Rattle.avr_mcu_laws.proofs.over_only_as_said.Goals as goal

pub returns : goal.returns
returns c = step-cuts
