use Rattle.sock_cmd.proofs.laws.stops_in_order.Goals as goal
use Rattle.sock_cmd.proofs.StopOrder.{in_order}

pub returns-clause-order : goal.returns-clause-order
returns-clause-order c = in_order
