use Rattle.sock_cmd.proofs.laws.stays.Goals as goal
use Rattle.sock_cmd.proofs.SocketLives as lives

pub returns : goal.returns
returns c = lives.stays
