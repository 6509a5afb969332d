use Rattle.ring_mem.specs.Buffers.{TxHolds, RxHolds}
use Rattle.ring_mem.proofs.Eight.{one_changes}
use Rattle.ring_mem.proofs.laws.one_of_eight_changes.Goals as goal

pub returns-clause-tx : goal.returns-clause-tx
returns-clause-tx c = λ old new ss sn s own others all n below. one_changes (TxHolds old) (TxHolds new) ss sn s own others all n below

pub returns-clause-rx : goal.returns-clause-rx
returns-clause-rx c = λ old new gs sn g own others all n below. one_changes (RxHolds old) (RxHolds new) gs sn g own others all n below
