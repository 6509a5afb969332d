-- The parts after a write into the room of a socket that was lent.
use Rattle.std.specs.Prelude.{ℕ, List, take}
use Rattle.std.specs.Borrow.{Lends, MutBor, Fml, Array, u8}
use Rattle.chip_sheet.specs.declared.event.LinkEntry.{LinkEntry}
use Rattle.chip_sheet.specs.declared.event.LinkEntry.TheVariants.{Got}
use Rattle.ring_mem.specs.Buffers as rings
use Rattle.chip_parts.specs.declared.parts.Parts.{Parts}
use Rattle.chip_parts.specs.contracts.parts.Parts.{the_row}

-- What stands in the first free piece of its RX buffer.
abbrev pub room_bytes : Parts → ℕ → List ℕ
room_bytes parts n = rings.room_bytes parts.rings n

-- The same parts with these bytes in place of those.
abbrev pub with_room : Parts → ℕ → List ℕ → Parts
with_room parts n w = record parts { rings = rings.with_room parts.rings n w }

abbrev pub LendsRoom : MutBor Parts → ℕ → MutBor (List ℕ) → Fml
LendsRoom s n r = Lends the_row (Array u8 0) s r (with_room s.now n)

-- The event that the first k bytes of that piece came.
abbrev pub got_of : Parts → ℕ → ℕ → LinkEntry
got_of parts n k = Got (take k (room_bytes parts n))
