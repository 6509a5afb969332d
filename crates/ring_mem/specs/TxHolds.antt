-- A socket's part of the TX memory stands for the lists of what it sends.
use Rattle.std.specs.Prelude.{◌≡◌, ◌≤◌, ◌<◌, ℕ, ◌+◌, ◌-◌, ◌%◌, Bool, true, false, ◌==◌, ◌||◌, List, [], ◌∷◌, length, take, drop, min, slice_index, slice_index_or}
use Rattle.chip_sheet.specs.Sending.{Sending, taken_count, first_in_flight, next_to_send, tx_wr}
use Rattle.ring_mem.specs.declared.layout.Layout.{Layout}
use Rattle.ring_mem.specs.declared.sends.Sends.{Sends}

-- What the arrays say of one socket.
pub record Part : Type 0 where
  pub start : ℕ
  pub size : ℕ
  pub flight : ℕ
  pub end : ℕ
  pub wr : ℕ

abbrev pub part : Sends → ℕ → Part
part r n = record {
  start = slice_index r.layout.starts n;
  size = slice_index r.layout.sizes n;
  flight = slice_index r.flights n;
  end = slice_index r.ends n;
  wr = slice_index r.written n;
}

abbrev pub is_end : List ℕ → ℕ → Bool
is_end [] at = false
is_end (e ∷ more) at = e == at || is_end more at

pub record Stands (p : Part) (memory : List ℕ) (signs : List Bool) (s : Sending) : Type 0 where
  pub size : s.size ≡ p.size
  -- the buffer's bytes stand in the part, each at its position modulo the size
  pub bytes : (at : ℕ) → 0 < p.size → slice_index memory (p.start + at % p.size) ≡ s.tx at
  pub none : p.size ≡ 0 → (at : ℕ) → s.tx at ≡ 0
  pub flight : s.flight ≡ p.flight
  pub within : s.flight ≤ length s.sent
  -- the pointers wrap
  pub end : p.end ≡ next_to_send s % 65536
  pub wr : tx_wr s ≡ p.wr
  pub high : s.wr_high < 256
  pub low : s.wr_low < 256
  -- the bytes in flight are those that were sent: no write has changed them
  pub kept : (j : ℕ) → j < s.flight → s.tx (first_in_flight s + j) ≡ slice_index s.sent (taken_count s + j)
  -- a mark stands at the last byte of each range in flight, and nowhere else in the part
  pub marks : (j : ℕ) → j < p.size → slice_index_or signs (p.start + (first_in_flight s + j) % p.size) false ≡ is_end s.ends (taken_count s + j + 1)
  pub ended : (e : ℕ) → length s.sent < e → is_end s.ends e ≡ false
  pub last : 0 < s.flight → is_end s.ends (length s.sent) ≡ true

abbrev pub Holds : Sends → ℕ → Sending → Type 0
Holds r n s = Stands (part r n) r.memory.items r.marks.items s

-- The place of an address in a socket's part.
abbrev pub place_of : Layout → ℕ → ℕ → ℕ
place_of l n addr = slice_index l.starts n + addr % slice_index l.sizes n

-- Where the bytes in flight begin, and the two pieces of the memory that have them.
abbrev pub flight_at : Sends → ℕ → ℕ
flight_at r n = place_of r.layout n ((slice_index r.ends n + (65536 - slice_index r.flights n)) % 65536)

abbrev pub first_length : Sends → ℕ → ℕ
first_length r n = min (slice_index r.flights n) (slice_index r.layout.starts n + slice_index r.layout.sizes n - flight_at r n)

abbrev pub first_piece : Sends → ℕ → List ℕ
first_piece r n = take (first_length r n) (drop (flight_at r n) r.memory.items)

abbrev pub second_piece : Sends → ℕ → List ℕ
second_piece r n = take (slice_index r.flights n - first_length r n) (drop (slice_index r.layout.starts n) r.memory.items)
