use Rattle.chip_sheet.proofs.MadeLaws.{open_made, udp_not_made}
use Rattle.chip_laws.proofs.socket_laws.open_is_made.Goals as goal

pub returns : goal.returns
returns c = record { tcp = open_made; udp = udp_not_made }
