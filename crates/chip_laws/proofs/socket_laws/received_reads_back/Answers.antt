use Rattle.chip_laws.proofs.ReadBack.{reads_back}
use Rattle.chip_laws.proofs.socket_laws.received_reads_back.Goals as goal

pub returns : goal.returns
returns c = λ starts past n q addr below legal on unread. reads_back starts past n q addr below legal on unread.0 unread.1
