use Rattle.sock_regs.proofs.History.{by_name}
use Rattle.sock_regs.proofs.laws.registers_by_name.Goals as goal

pub returns-clause-mode : goal.returns-clause-mode
returns-clause-mode c = λ starts past n. (by_name starts past n).mode

pub returns-clause-interrupts : goal.returns-clause-interrupts
returns-clause-interrupts c = λ starts past n. (by_name starts past n).interrupts

pub returns-clause-mask : goal.returns-clause-mask
returns-clause-mask c = λ starts past n. (by_name starts past n).mask

pub returns-clause-tx : goal.returns-clause-tx
returns-clause-tx c = λ starts past n. (by_name starts past n).tx

pub returns-clause-rx : goal.returns-clause-rx
returns-clause-rx c = λ starts past n. (by_name starts past n).rx

pub returns-clause-port : goal.returns-clause-port
returns-clause-port c = λ starts past n. (by_name starts past n).port

pub returns-clause-destination : goal.returns-clause-destination
returns-clause-destination c = λ starts past n. (by_name starts past n).destination
