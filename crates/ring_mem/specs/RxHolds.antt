-- A socket's part of the RX memory stands for the lists of what it receives.
use Rattle.std.specs.Prelude.{◌≡◌, ◌≤◌, ◌<◌, ℕ, ◌+◌, ◌-◌, ◌%◌, min, List, length, take, drop, slice_index}
use Rattle.chip_sheet.specs.Receiving.{Receiving, released_count, first_unread, next_to_receive, rx_rd}
use Rattle.ring_mem.specs.Parts.{offset_in}
use Rattle.ring_mem.specs.declared.receives.Receives.{Receives}

-- What the arrays say of one socket.
pub record RxPart : Type 0 where
  pub start : ℕ
  pub size : ℕ
  pub unread : ℕ
  pub end : ℕ
  pub rd : ℕ

abbrev pub rx_part : Receives → ℕ → RxPart
rx_part r n = record {
  start = slice_index r.layout.starts n;
  size = slice_index r.layout.sizes n;
  unread = slice_index r.unread n;
  end = slice_index r.ends n;
  rd = slice_index r.reads n;
}

pub record Keeps (p : RxPart) (memory : List ℕ) (g : Receiving) : Type 0 where
  pub size : g.size ≡ p.size
  pub unread : g.unread ≡ p.unread
  pub within : g.unread ≤ length g.got
  -- the pointers wrap
  pub end : p.end ≡ next_to_receive g % 65536
  pub rd : rx_rd g ≡ p.rd
  pub high : g.rd_high < 256
  pub low : g.rd_low < 256
  -- the unread bytes stand in the part, each at its position modulo the size
  pub kept : (j : ℕ) → j < g.unread → slice_index memory (p.start + (first_unread g + j) % p.size) ≡ slice_index g.got (released_count g + j)

abbrev pub RxHolds : Receives → ℕ → Receiving → Type 0
RxHolds r n g = Keeps (rx_part r n) r.memory.items g

-- Where the free piece of a part begins, and how long it is.
abbrev pub free_at : RxPart → ℕ
free_at p = p.start + offset_in p.size p.end

abbrev pub free_len : RxPart → ℕ
free_len p = min (min (p.size - p.unread) 1472) (p.size - offset_in p.size p.end)

abbrev pub room_at : Receives → ℕ → ℕ
room_at r n = free_at (rx_part r n)

abbrev pub room_len : Receives → ℕ → ℕ
room_len r n = free_len (rx_part r n)

-- What stands there.
abbrev pub room_bytes : Receives → ℕ → List ℕ
room_bytes r n = take (room_len r n) (drop (room_at r n) r.memory.items)
