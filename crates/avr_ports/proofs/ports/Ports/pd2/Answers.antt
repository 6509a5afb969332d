use Rattle.std.proofs.Common.{rules}
use Rattle.avr_ports.specs.Levels.{level}
use Rattle.avr_ports.proofs.ports.Ports.pd2.Goals as goal

pub returns-then-is_set : goal.returns-then-is_set
unfolding level
returns-then-is_set c = search rules

pub returns-else-is_set : goal.returns-else-is_set
unfolding level
returns-else-is_set c = search rules
