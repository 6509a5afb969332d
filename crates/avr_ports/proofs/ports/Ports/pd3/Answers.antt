use Rattle.std.proofs.Common.{rules}
use Rattle.avr_ports.specs.Levels.{level}
use Rattle.avr_ports.proofs.Pins.{same_arms}
use Rattle.avr_ports.proofs.ports.Ports.pd3.Goals as goal

pub returns : goal.returns
unfolding level
returns c = search (rules, same_arms)
