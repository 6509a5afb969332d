use Rattle.ring_mem.specs.RxHolds.{rx_part}
use Rattle.ring_mem.proofs.Rooms.{room_is}
use Rattle.ring_mem.proofs.Lending.{lent_stands, lent_bytes}
use Rattle.ring_mem.proofs.laws.lent_room.Goals as goal

pub returns-clause-length : goal.returns-clause-length
returns-clause-length c = λ r n g h. room_is (rx_part r.rx n) r.rx.memory.items g (r.rx.layout.sized n) h

pub returns-clause-rx : goal.returns-clause-rx
returns-clause-rx c = λ r n m g w below other h same. lent_stands r.rx n m g w below other h same

pub returns-clause-tx : goal.returns-clause-tx
returns-clause-tx c = λ r n m s w h. h

pub returns-clause-bytes : goal.returns-clause-bytes
returns-clause-bytes c = λ r n w below same. lent_bytes r.rx n w below same
