use Rattle.std.proofs.Common.{refl}
use Rattle.common_regs.proofs.Steps.{writes, reads}
use Rattle.common_regs.proofs.laws.follows_the_table.Goals as goal

pub returns-clause-fresh : goal.returns-clause-fresh
returns-clause-fresh c = λ at. refl

pub returns-clause-write : goal.returns-clause-write
returns-clause-write c = λ past e a addr v at made. writes past e a addr v at made

pub returns-clause-read : goal.returns-clause-read
returns-clause-read c = λ starts past addr. reads starts past addr
