use Rattle.sock_regs.proofs.Steps.{address_is}
use Rattle.sock_regs.proofs.registers.SockRegs.destination.Goals as goal

pub returns : goal.returns
returns c = λ f held. rw (c.from.ensures, c.from-2.ensures) (address_is c.args.self.now.bytes f held)
