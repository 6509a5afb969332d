use Rattle.std.proofs.Common.{arith}
use Rattle.sock_regs.proofs.Steps.{by_name}
use Rattle.sock_regs.proofs.registers.SockRegs.port.Goals as goal

pub returns : goal.returns
returns c = λ f held.
    let high = (by_name c.args.self.now.bytes f held).port_high in
    let low = (by_name c.args.self.now.bytes f held).port_low in
    omega (arith, high, low, c.from.ensures, c.from-2.ensures)
