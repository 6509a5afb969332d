use Rattle.std.proofs.Common.{arith}
use Rattle.ring_mem.specs.RxHolds.{rx_part}
use Rattle.ring_mem.proofs.Rooms.{room_in_part}
use Rattle.ring_mem.proofs.Apart.{part_within}
use Rattle.ring_mem.proofs.receives.Receives.room_at.Goals as goal

pub returns-clause-within : goal.returns-clause-within
returns-clause-within c = let r = c.args.self.now in omega (arith, c.offset.ensures, room_in_part (rx_part r c.args.sn), part_within r.layout c.args.sn c.requires)
