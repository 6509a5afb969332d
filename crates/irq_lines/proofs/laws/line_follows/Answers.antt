use Rattle.irq_lines.proofs.Following.{line}
use Rattle.irq_lines.proofs.laws.line_follows.Goals as goal

pub returns : goal.returns
returns c = λ starts past imr. line starts past imr
