use Rattle.std.proofs.Common.{refl}
use Rattle.chip_steps.proofs.StopSteps.{reads, reads_reserved}
use Rattle.chip_core.proofs.chip.Chip.read.Goals as goal

pub returns-then-is_reserved-clause-err : goal.returns-then-is_reserved-clause-err
returns-then-is_reserved-clause-err c = λ starts past e made. reads_reserved starts past e c.args.block c.args.addr made (c.if-is_reserved.ensures.yes refl)

pub returns-clause-ok : goal.returns-clause-ok
returns-clause-ok c = λ starts past e made inside. (
  reads starts past e c.args.block c.args.addr made (c.is_reserved.ensures.other c.if-is_reserved.false),
  c.read.ensures starts past inside.legal inside.parts,
)
