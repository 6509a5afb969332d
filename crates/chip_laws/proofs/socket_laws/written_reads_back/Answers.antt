use Rattle.chip_laws.proofs.Written.{byte_written}
use Rattle.chip_laws.proofs.socket_laws.written_reads_back.Goals as goal

pub returns : goal.returns
returns c = byte_written
