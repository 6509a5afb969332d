use Rattle.chip_sheet.proofs.DatagramLaws.{taken_whole}
use Rattle.chip_laws.proofs.Datagrams.{busy_stops, datagram_put, datagram_lost, header_eight}
use Rattle.chip_laws.proofs.socket_laws.datagrams.Goals as goal

pub returns : goal.returns
returns c = record { busy = busy_stops; whole = taken_whole; put = datagram_put; lost = datagram_lost; header = header_eight }
