use Rattle.irq_lines.proofs.Following.{whole, renewed, small}
use Rattle.irq_lines.proofs.laws.sir_follows.Goals as goal

pub returns-clause-whole : goal.returns-clause-whole
returns-clause-whole c = λ starts past sir low shows. whole starts past sir low shows

pub returns-clause-renewed : goal.returns-clause-renewed
returns-clause-renewed c = λ starts past entry sn sir in_range low own others stay. renewed starts past entry sn sir in_range low own others stay

pub returns-clause-small : goal.returns-clause-small
returns-clause-small c = λ starts past. small starts past
