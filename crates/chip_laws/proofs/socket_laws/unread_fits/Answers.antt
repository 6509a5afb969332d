use Rattle.chip_laws.proofs.Unread.{unread_within}
use Rattle.chip_laws.proofs.socket_laws.unread_fits.Goals as goal

pub returns : goal.returns
returns c = unread_within
