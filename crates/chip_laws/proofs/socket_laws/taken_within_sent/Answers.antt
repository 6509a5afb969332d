use Rattle.chip_sheet.proofs.Within.{taken_within}
use Rattle.chip_laws.proofs.socket_laws.taken_within_sent.Goals as goal

pub returns : goal.returns
returns c = taken_within
