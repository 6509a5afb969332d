use Rattle.std.proofs.Common.{rules}
use Rattle.sock_regs.proofs.Steps.{raises_bits}
use Rattle.sock_regs.proofs.registers.SockRegs.raise.Goals as goal

pub returns : goal.returns
returns c = λ f held. raises_bits c.args.self.now.bytes f c.args.bits (search rules) held
