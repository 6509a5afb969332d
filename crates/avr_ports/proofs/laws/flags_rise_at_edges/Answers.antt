use Rattle.avr_ports.proofs.Edges.{flags-rise_at_edges}
use Rattle.avr_ports.proofs.laws.flags_rise_at_edges.Goals as goal

pub returns : goal.returns
returns c = flags-rise_at_edges
