use Rattle.common_regs.proofs.CommonPlaces.{reset_is}
use Rattle.common_regs.proofs.registers.CommonRegs.new.Goals as goal

pub returns : goal.returns
returns c = reset_is
