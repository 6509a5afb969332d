use Rattle.std.proofs.Common.{arith, ◌∙◌}
use Rattle.avr_ports.proofs.Pins.{port-pins-B, port-pins-C, port-pins-D}
use Rattle.avr_ports.proofs.ports.Ports.pins.Goals as goal

pub returns-in-B : goal.returns-in-B
returns-in-B c = port-pins-B c.args.self.now c.args.name c.port-port.result c.in-B.is c.port-port.ensures (omega arith)

pub returns-in-C : goal.returns-in-C
returns-in-C c = port-pins-C c.args.self.now c.args.name c.port-port.result c.in-C.is c.port-port.ensures (omega arith)

pub returns-in-D : goal.returns-in-D
returns-in-D c =
    c.with_bit.ensures ∙ port-pins-D c.args.self.now c.args.name c.port-port.result c.pd2.result c.in-D.is c.port-port.ensures c.pd2.ensures (omega arith)
