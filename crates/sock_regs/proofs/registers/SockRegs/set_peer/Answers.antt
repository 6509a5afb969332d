use Rattle.std.proofs.Common.{rules}
use Rattle.sock_regs.proofs.Steps.{peer_written}
use Rattle.sock_regs.proofs.registers.SockRegs.set_peer.Goals as goal

pub returns : goal.returns
returns c = λ f held. peer_written c.args.self.now.bytes f c.args.from (search rules) (search rules) held
