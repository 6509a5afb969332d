use Rattle.chip_sheet.proofs.FitLaws.{flight_within}
use Rattle.chip_laws.proofs.socket_laws.flight_fits.Goals as goal

pub returns : goal.returns
returns c = flight_within
