use Rattle.chip_sheet.proofs.Places.{same_place_of}
use Rattle.chip_laws.proofs.socket_laws.same_place.Goals as goal

pub returns : goal.returns
returns c = same_place_of
