use Rattle.avr_mcu_laws.proofs.StepCuts.{over-wanted}
use Rattle.avr_mcu_laws.proofs.over_only_where_wanted.Goals as goal

pub returns : goal.returns
returns c = over-wanted
