use Rattle.std.proofs.Common.{rules}
use Rattle.avr_ports.specs.Levels.{with_edges}
use Rattle.avr_ports.proofs.ports.Ports.raise_flags.Goals as goal

pub returns : goal.returns
unfolding with_edges
returns c = search rules
