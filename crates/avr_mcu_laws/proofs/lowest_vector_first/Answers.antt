use Rattle.avr_mcu_laws.proofs.Vectors.{lowest-first}
use Rattle.avr_mcu_laws.proofs.lowest_vector_first.Goals as goal

pub returns : goal.returns
returns c = lowest-first
