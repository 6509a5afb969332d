use Rattle.chip_steps.proofs.Growing.{taken_by_link, taken_other_link, taken_bus}
use Rattle.chip_steps.proofs.grows.taken_grows.Goals as goal

pub returns : goal.returns
returns c = record { by_link = taken_by_link; other_link = taken_other_link; bus = taken_bus }
