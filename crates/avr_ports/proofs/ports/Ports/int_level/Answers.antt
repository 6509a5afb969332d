use Rattle.std.proofs.Common.{ap}
use Rattle.avr_ports.specs.Ports.{PortsState}
use Rattle.avr_ports.proofs.Edges.{line-stays}
use Rattle.avr_ports.proofs.ports.Ports.int_level.Goals as goal

pub returns-else-high-self : goal.returns-else-high-self
returns-else-high-self c =
    line-stays c.args.self.now c.args.high c.self.inside.int_high c.if-high-self.false (ap (λ (s : PortsState). s.int_high) c.self.view_is)
