-- The RX memory after a write into a socket's room.
use Rattle.std.specs.Prelude.{ℕ, List}
use Rattle.std.specs.Borrow.{Lends, MutBor, Fml, Array, u8}
use Rattle.std.specs.Vec.{with_items_from}
use Rattle.ring_mem.specs.declared.receives.Receives.{Receives}
use Rattle.ring_mem.specs.contracts.receives.Receives.{the_row}
use Rattle.ring_mem.specs.RxHolds.{room_at}

abbrev pub with_room : Receives → ℕ → List ℕ → Receives
with_room r n w = record r { memory = with_items_from r.memory (room_at r n) w }

abbrev pub LendsRoom : MutBor Receives → ℕ → MutBor (List ℕ) → Fml
LendsRoom s n r = Lends the_row (Array u8 0) s r (with_room s.now n)
