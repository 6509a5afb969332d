use Rattle.std.proofs.Common.{sym}
use Rattle.sock_regs.proofs.PlaceTable.{reset_is}
use Rattle.sock_regs.proofs.registers.SockRegs.new.Goals as goal

pub returns : goal.returns
returns c = λ at here. sym (reset_is at)
