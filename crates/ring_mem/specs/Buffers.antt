-- The words for the buffers of eight sockets, which callers cite. Nothing else of `Rings` is told.
use Rattle.std.specs.Prelude.{◌≡◌, ◌≢◌, ◌<◌, ℕ, ◌-◌, List, slice_index}
use Rattle.std.specs.Borrow.{Lends, MutBor, Fml, Array, u8}
use Rattle.chip_sheet.specs.Sending.{Sending}
use Rattle.chip_sheet.specs.Receiving.{Receiving}
use Rattle.ring_mem.specs.declared.rings.Rings.{Rings}
use Rattle.ring_mem.specs.contracts.rings.Rings.{the_row}
use Rattle.ring_mem.specs.Parts.{SameBytesOutside}
use Rattle.ring_mem.specs.TxHolds as tx
use Rattle.ring_mem.specs.RxHolds as rx
use Rattle.ring_mem.specs.Lent as lent

-- The two memories.
abbrev pub tx_memory : Rings → List ℕ
tx_memory r = r.tx.memory.items

abbrev pub rx_memory : Rings → List ℕ
rx_memory r = r.rx.memory.items

-- The sizes of a direction in kilobytes, as they were set.
abbrev pub tx_kilobytes : Rings → List ℕ
tx_kilobytes r = r.tx.layout.kilobytes

abbrev pub rx_kilobytes : Rings → List ℕ
rx_kilobytes r = r.rx.layout.kilobytes

-- The sizes of the eight parts of a memory in bytes, and where each part begins.
abbrev pub tx_sizes : Rings → List ℕ
tx_sizes r = r.tx.layout.sizes

abbrev pub rx_sizes : Rings → List ℕ
rx_sizes r = r.rx.layout.sizes

abbrev pub tx_start : Rings → ℕ → ℕ
tx_start r n = slice_index r.tx.layout.starts n

abbrev pub rx_start : Rings → ℕ → ℕ
rx_start r n = slice_index r.rx.layout.starts n

-- How many bytes are in flight, and how many are unread.
abbrev pub flight_of : Rings → ℕ → ℕ
flight_of r n = slice_index r.tx.flights n

abbrev pub unread_of : Rings → ℕ → ℕ
unread_of r n = slice_index r.rx.unread n

-- What is free of an RX buffer.
abbrev pub rx_free : Rings → ℕ → ℕ
rx_free r n = slice_index r.rx.layout.sizes n - slice_index r.rx.unread n

-- A socket's part of a memory, with its pointers, stands for these lists.
abbrev pub TxHolds : Rings → ℕ → Sending → Type 0
TxHolds r n s = tx.Holds r.tx n s

abbrev pub RxHolds : Rings → ℕ → Receiving → Type 0
RxHolds r n g = rx.RxHolds r.rx n g

-- The parts of the seven other sockets stand for what they stood for.
abbrev pub OthersSend : Rings → Rings → ℕ → Type 0
OthersSend old new sn = (n : ℕ) (s : Sending) → n < 8 → n ≢ sn → TxHolds old n s → TxHolds new n s

abbrev pub OthersReceive : Rings → Rings → ℕ → Type 0
OthersReceive old new sn = (n : ℕ) (g : Receiving) → n < 8 → n ≢ sn → RxHolds old n g → RxHolds new n g

-- Nothing at all of a direction has changed.
abbrev pub SameTx : Rings → Rings → Type 0
SameTx old new = new.tx ≡ old.tx

abbrev pub SameRx : Rings → Rings → Type 0
SameRx old new = new.rx ≡ old.rx

-- The place of an address of a TX buffer in the memory.
abbrev pub tx_place : Rings → ℕ → ℕ → ℕ
tx_place r n addr = tx.place_of r.tx.layout n addr

-- The two pieces of the TX memory that hold the bytes in flight: from their place to the end of the part, and from its start.
abbrev pub first_piece : Rings → ℕ → List ℕ
first_piece r n = tx.first_piece r.tx n

abbrev pub second_piece : Rings → ℕ → List ℕ
second_piece r n = tx.second_piece r.tx n

-- Nothing of the RX memory has changed outside of a socket's part.
abbrev pub SameOutside : Rings → Rings → ℕ → Type 0
SameOutside old new n = SameBytesOutside (rx_memory old) (rx_memory new) (rx_start old n) (slice_index (rx_sizes old) n)

-- Where the free piece of an RX buffer begins in the memory, how long it is, and what stands there.
abbrev pub room_at : Rings → ℕ → ℕ
room_at r n = rx.room_at r.rx n

abbrev pub room_len : Rings → ℕ → ℕ
room_len r n = rx.room_len r.rx n

abbrev pub room_bytes : Rings → ℕ → List ℕ
room_bytes r n = rx.room_bytes r.rx n

-- The same with these bytes in place of those.
abbrev pub with_room : Rings → ℕ → List ℕ → Rings
with_room r n w = record r { rx = lent.with_room r.rx n w }

abbrev pub LendsRoom : MutBor Rings → ℕ → MutBor (List ℕ) → Fml
LendsRoom s n r = Lends the_row (Array u8 0) s r (with_room s.now n)
