use Rattle.sock_regs.proofs.Steps.{by_name}
use Rattle.sock_regs.proofs.registers.SockRegs.interrupts.Goals as goal

pub returns : goal.returns
returns c = λ f held. (by_name c.args.self.now.bytes f held).interrupts
