use Rattle.sock_regs.proofs.History.{fresh, resets, writes, accepts, others}
use Rattle.sock_regs.proofs.laws.follows_the_table.Goals as goal

pub returns-clause-fresh : goal.returns-clause-fresh
returns-clause-fresh c = λ starts n at here. fresh starts n at here

pub returns-clause-reset : goal.returns-clause-reset
returns-clause-reset c = λ starts past entry n at h here. resets starts past entry n at h here

pub returns-clause-write : goal.returns-clause-write
returns-clause-write c = λ starts past e a n addr v at made here. writes starts past e a n addr v at made here

pub returns-clause-accepted : goal.returns-clause-accepted
returns-clause-accepted c = λ starts past from n at here. accepts starts past from n at here

pub returns-clause-others : goal.returns-clause-others
returns-clause-others c = λ starts past entry n at running other h here. others starts past entry n at running other h here
