use Rattle.chip_laws.proofs.LegalPlaces.{legal_each}
use Rattle.chip_laws.proofs.legal.legal_at_each_place.Goals as goal

pub returns : goal.returns
returns c = legal_each
