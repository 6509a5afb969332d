use Rattle.chip_sheet.proofs.Within.{released_within}
use Rattle.chip_laws.proofs.socket_laws.released_within_got.Goals as goal

pub returns : goal.returns
returns c = released_within
