use Rattle.chip_steps.proofs.Growing.{got_by_link, got_other_link, got_bus}
use Rattle.chip_steps.proofs.grows.got_grows.Goals as goal

pub returns : goal.returns
returns c = record { by_link = got_by_link; other_link = got_other_link; bus = got_bus }
