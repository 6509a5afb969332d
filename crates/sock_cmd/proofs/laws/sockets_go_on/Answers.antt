use Rattle.sock_cmd.proofs.laws.sockets_go_on.Goals as goal
use Rattle.sock_cmd.proofs.SocketLives.{all_stay, one_goes_on}

pub returns-clause-none : goal.returns-clause-none
returns-clause-none c = all_stay

pub returns-clause-one : goal.returns-clause-one
returns-clause-one c = one_goes_on
