use Rattle.chip_sheet.proofs.Places.{flight_exact}
use Rattle.chip_laws.proofs.socket_laws.in_flight_exact.Goals as goal

pub returns : goal.returns
returns c = flight_exact
