use Rattle.std.proofs.Common.{arith}
use Rattle.ring_mem.proofs.laws.parts_follow_one_another.Goals as goal

pub returns-clause-lengths : goal.returns-clause-lengths
returns-clause-lengths c = λ r. (omega (arith, r.tx.memory_len, r.tx.memory.ok.0), omega (arith, r.rx.memory_len, r.rx.memory.ok.0))

pub returns-clause-tx_starts : goal.returns-clause-tx_starts
returns-clause-tx_starts c = λ r n below. r.tx.layout.sums n below

pub returns-clause-rx_starts : goal.returns-clause-rx_starts
returns-clause-rx_starts c = λ r n below. r.rx.layout.sums n below

pub returns-clause-fit : goal.returns-clause-fit
returns-clause-fit c = λ r. (r.tx.layout.total, r.rx.layout.total)
