use Rattle.std.proofs.Common.{arith, ap}
use Rattle.avr_ports.specs.declared.port.Port.{Port}
use Rattle.avr_ports.proofs.Pins.{changed-pins}
use Rattle.avr_ports.proofs.ports.Ports.is_changed_since.Goals as goal

pub returns : goal.returns
returns c =
    changed-pins c.args.before.now c.args.self.now c.args.name _ _ _ c.pins.ensures c.pins-2.ensures
    (ap (λ (p : Port). p.pcmsk) c.port.ensures) (omega arith)
