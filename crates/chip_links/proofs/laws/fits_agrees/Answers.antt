use Rattle.chip_links.proofs.Fitting.{agrees}
use Rattle.chip_links.proofs.laws.fits_agrees.Goals as goal

pub returns : goal.returns
returns c = agrees
