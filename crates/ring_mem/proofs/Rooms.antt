-- Places of received bytes, and of the free part.
use Rattle.std.proofs.Common.{inl, inr, ◌⊎◌, ◌≡◌, ◌≤◌, ◌<◌, ℕ, ◌+◌, ◌-◌, ◌%◌, true, List, ◌++◌, length, take, drop, get_or, refl, sym, ap, ◌∙◌, arith}
use Rattle.std.proofs.lemmas.Bool.{cases_lt}
use Rattle.std.proofs.lemmas.Bool.Decides.{nat_tests}
use Rattle.std.proofs.lemmas.List.{get_or-take, get_or-drop, get_or_append_left, get_or-append_right}
use Rattle.ring_mem.specs.Parts.{is_size, offset_in}
use Rattle.ring_mem.specs.declared.receives.Receives.{Receives}
use Rattle.ring_mem.specs.RxHolds.{RxPart, rx_part, Keeps, free_at, free_len, room_len, room_at}
use Rattle.ring_mem.proofs.Apart.{part_within}
use Rattle.ring_mem.proofs.Places.{same_place}
use Rattle.chip_sheet.specs.Receiving.{Receiving, release_length, room_length, next_to_receive}

pub offset_is : (size at : ℕ) → 0 < size → offset_in size at ≡ at % size
offset_is size at some = grind (arith, nat_tests)

pub outside : (size end first next j there len : ℕ) → is_size size ≡ true → j < there → there ≤ size → len ≤ size - there → len ≤ size - end % size → first + there ≡ next → end ≡ next % 65536
    → ((first + j) % size < end % size) ⊎ (end % size + len ≤ (first + j) % size)
outside size end first next j there len known below fits free piece total at = elim (cases_lt ((first + j) % size) (end % size)) [
  | inl less ↦ inl less
  | inr more ↦ inr (grind (arith, nat_tests))
]

pub new_place : (size end next i : ℕ) → is_size size ≡ true → i < size - end % size → end ≡ next % 65536 → (next + i) % size ≡ end % size + i
new_place size end next i known within at = grind (arith, nat_tests)

pub got_at : (memory got : List ℕ) (start size end first next gone there len k j : ℕ) → is_size size ≡ true → there ≤ size → len ≤ size - there → len ≤ size - offset_in size end
    → first + there ≡ next → end ≡ next % 65536 → length got ≡ gone + there → start + size ≤ length memory → k ≤ len
    → ((j : ℕ) → j < there → get_or memory (start + (first + j) % size) 0 ≡ get_or got (gone + j) 0)
    → j < there + k → get_or memory (start + (first + j) % size) 0 ≡ get_or (got ++ take k (take len (drop (start + offset_in size end) memory))) (gone + j) 0
got_at memory got start size end first next gone there len k j known fits free piece total at long part few kept below = elim (cases_lt j there) [
  | inl old ↦ kept j old ∙ sym (get_or_append_left got _ 0 (gone + j) (omega (arith, long, old)))
  | inr new ↦
      let o : offset_in size end ≡ end % size = offset_is size end (omega (arith, below, new, free, few)) in
      let i = j - there in
      ap (λ p. get_or memory (start + p) 0) (ap (λ n. n % size) (omega (arith, total, new)) ∙ new_place size end next i known (omega (arith, o, piece, few, below, new)) at)
      ∙ ap (λ p. get_or memory p 0) (omega (arith, o))
      ∙ sym (get_or-drop (start + offset_in size end) memory i 0)
      ∙ sym (get_or-take len (drop (start + offset_in size end) memory) i 0 (omega (arith, few, below, new)))
      ∙ sym (get_or-take k (take len (drop (start + offset_in size end) memory)) i 0 (omega (arith, below, new)))
      ∙ ap (λ n. get_or (take k (take len (drop (start + offset_in size end) memory))) n 0) (omega (arith, long, new))
      ∙ sym (get_or-append_right got (take k (take len (drop (start + offset_in size end) memory))) (length got) (gone + j) 0 refl (omega (arith, long, new)))
]

pub room_free : (p : RxPart) → free_len p ≤ p.size - p.unread
room_free p = omega arith

pub room_piece : (p : RxPart) → free_len p ≤ p.size - offset_in p.size p.end
room_piece p = omega arith

offset_within : (size at : ℕ) → offset_in size at ≤ size
offset_within size at = grind (arith, nat_tests)

pub rx_in_memory : (r : Receives) (n : ℕ) → n < 8 → get_or r.layout.starts n 0 + get_or r.layout.sizes n 0 ≤ length r.memory.items
rx_in_memory r n below = omega (arith, part_within r.layout n below, r.memory_len, r.memory.ok.0)

pub room_in_part : (p : RxPart) → free_at p + free_len p ≤ p.start + p.size
room_in_part p = omega (arith, room_piece p, offset_within p.size p.end)

pub room_within : (r : Receives) (n : ℕ) → n < 8 → room_at r n + room_len r n ≤ length r.memory.items
room_within r n below = omega (arith, room_in_part (rx_part r n), rx_in_memory r n below)

pub size_most : (size there : ℕ) → is_size size ≡ true → there ≤ size → there ≤ 16384
size_most size there known fits = grind (arith, nat_tests)

pub asked_is : (p : RxPart) (memory : List ℕ) (g : Receiving) → is_size p.size ≡ true → p.unread ≤ p.size → Keeps p memory g → (p.rd + (65536 - (p.end + (65536 - p.unread)) % 65536)) % 65536 ≡ release_length g
asked_is p memory g known fits h = omega (arith, h.end, h.unread, h.within, h.rd, h.high, h.low, size_most p.size p.unread known fits)

-- the free piece is as long as the lists say
pub room_is : (p : RxPart) (memory : List ℕ) (g : Receiving) → is_size p.size ≡ true → Keeps p memory g → free_len p ≡ room_length g
room_is p memory g known h = elim (cases_lt 0 p.size) [
  | inl some ↦
      let at : offset_in p.size p.end ≡ next_to_receive g % p.size = offset_is p.size p.end some ∙ ap (λ k. k % p.size) h.end ∙ same_place p.size (next_to_receive g) known some in
      rw h.size (omega (arith, at, h.unread))
  | inr none ↦ omega (arith, none, h.size)
]
