use Rattle.std.proofs.Common.{ap}
use Rattle.chip_core.proofs.Opens.{opens, brings}
use Rattle.chip_core.proofs.laws.open_where_read.Goals as goal

pub returns-clause-read : goal.returns-clause-read
returns-clause-read c = λ starts past place conn h. opens starts past place (ap brings h)

pub returns-clause-read_away : goal.returns-clause-read_away
returns-clause-read_away c = λ starts past place conn h. opens starts past place (ap brings h)

pub returns-clause-datagram : goal.returns-clause-datagram
returns-clause-datagram c = λ starts past place conn port h. opens starts past place (ap brings h)
