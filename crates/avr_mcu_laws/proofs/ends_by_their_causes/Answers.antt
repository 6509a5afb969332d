use Rattle.avr_mcu_laws.proofs.Ends.{limit-is-reached, answers-are-used}
use Rattle.avr_mcu_laws.proofs.ends_by_their_causes.Goals as goal

pub returns-clause-limit : goal.returns-clause-limit
returns-clause-limit c = limit-is-reached

pub returns-clause-answers : goal.returns-clause-answers
returns-clause-answers c = answers-are-used
