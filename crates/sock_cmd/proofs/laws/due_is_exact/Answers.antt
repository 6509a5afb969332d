use Rattle.sock_cmd.proofs.laws.due_is_exact.Goals as goal
use Rattle.sock_cmd.proofs.SocketLives as lives

pub returns : goal.returns
returns c = lives.due_is
