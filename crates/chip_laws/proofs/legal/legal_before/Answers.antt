use Rattle.chip_laws.proofs.LegalBefore.{legal_front}
use Rattle.chip_laws.proofs.legal.legal_before.Goals as goal

pub returns : goal.returns
returns c = legal_front
