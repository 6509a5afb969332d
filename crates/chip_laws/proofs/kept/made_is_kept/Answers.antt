use Rattle.chip_laws.proofs.MadeKept.{made_kept}
use Rattle.chip_laws.proofs.kept.made_is_kept.Goals as goal

pub returns : goal.returns
returns c = made_kept
