use Rattle.sock_cmd.proofs.laws.goes_on.Goals as goal
use Rattle.sock_cmd.proofs.SocketLives as lives

pub returns : goal.returns
returns c = lives.goes_on
