-- After a write into the room the lists of every socket still stand, and the room holds what was written.
use Rattle.std.proofs.Common.{inl, inr, ◌⊎◌, ◌≡◌, ◌≢◌, ◌≤◌, ◌<◌, ℕ, ◌+◌, ◌-◌, ◌%◌, List, ◌++◌, length, length-append, length-drop, take, drop, get_or, refl, sym, ap, ◌∙◌, arith, subst}
use Rattle.std.proofs.lemmas.Bool.{cases_eq}
use Rattle.std.proofs.lemmas.List.{get_or-take, get_or-drop, get_or_append_left, get_or-append_right, length-take-le, with_items_is}
use Rattle.std.proofs.lemmas.Grind.{same_number_lists}
use Rattle.chip_sheet.specs.Receiving.{Receiving, first_unread, next_to_receive}
use Rattle.ring_mem.specs.declared.receives.Receives.{Receives}
use Rattle.ring_mem.specs.Parts.{offset_in}
use Rattle.ring_mem.specs.RxHolds.{RxPart, rx_part, RxHolds, free_at, free_len, room_at, room_len, room_bytes}
use Rattle.ring_mem.specs.Lent.{with_room}
use Rattle.ring_mem.proofs.Keeping.{others_keep}
use Rattle.ring_mem.proofs.Rooms.{outside, offset_is, room_free, room_piece, room_in_part, room_within}

over : List ℕ → ℕ → List ℕ → List ℕ
over xs i ws = take i xs ++ (ws ++ drop (length ws) (drop i xs))

module _ (xs ws : List ℕ) (i : ℕ) (within : i + length ws ≤ length xs) where
  front : length (take i xs) ≡ i
  front = length-take-le i xs (omega (arith, within))

  length-over : length (over xs i ws) ≡ length xs
  unfolding over
  length-over = omega (arith, length-append (take i xs) (ws ++ drop (length ws) (drop i xs)), front, length-append ws (drop (length ws) (drop i xs)), length-drop (length ws) (drop i xs), length-drop i xs, within)

  over_at : (p : ℕ) → (p < i) ⊎ (i + length ws ≤ p) → get_or (over xs i ws) p 0 ≡ get_or xs p 0
  unfolding over
  over_at p (inl less) = get_or_append_left (take i xs) (ws ++ drop (length ws) (drop i xs)) 0 p (omega (arith, front, less)) ∙ get_or-take i xs p 0 less
  over_at p (inr more) =
      get_or-append_right (take i xs) (ws ++ drop (length ws) (drop i xs)) i p 0 front (omega (arith, more))
      ∙ get_or-append_right ws (drop (length ws) (drop i xs)) (length ws) (p - i) 0 refl (omega (arith, more))
      ∙ get_or-drop (length ws) (drop i xs) (p - i - length ws) 0 ∙ get_or-drop i xs (length ws + (p - i - length ws)) 0
      ∙ ap (λ n. get_or xs n 0) (omega (arith, more))

  over_in : take (length ws) (drop i (over xs i ws)) ≡ ws
  unfolding over
  over_in =
      let long : length (take (length ws) (drop i (over xs i ws))) ≡ length ws = length-take-le (length ws) (drop i (over xs i ws)) (omega (arith, length-drop i (over xs i ws), length-over, within)) in
      same_number_lists _ _ long (λ k below.
      let k_in : k < length ws = omega (arith, long, below) in
      get_or-take (length ws) (drop i (over xs i ws)) k 0 k_in ∙ get_or-drop i (over xs i ws) k 0
      ∙ get_or-append_right (take i xs) (ws ++ drop (length ws) (drop i xs)) i (i + k) 0 front (omega arith)
      ∙ get_or_append_left ws (drop (length ws) (drop i xs)) 0 (i + k - i) (omega (arith, k_in)) ∙ ap (λ n. get_or ws n 0) (omega arith))

memory_over : (r : Receives) (n : ℕ) (w : List ℕ) → n < 8 → length w ≡ room_len r n → (with_room r n w).memory.items ≡ over r.memory.items (room_at r n) w
unfolding over
memory_over r n w below same = with_items_is r.memory (over r.memory.items (room_at r n) w) (length-over r.memory.items w (room_at r n) (omega (arith, same, room_within r n below)) ∙ sym r.memory.ok.0)

elsewhere : (r : Receives) (n : ℕ) (g : Receiving) (w : List ℕ) → RxHolds r n g → length w ≡ room_len r n → (j : ℕ) → j < g.unread
    → ((rx_part r n).start + (first_unread g + j) % (rx_part r n).size < room_at r n) ⊎ (room_at r n + length w ≤ (rx_part r n).start + (first_unread g + j) % (rx_part r n).size)
elsewhere r n g w h same j below =
    let p = rx_part r n in
    let o : offset_in p.size p.end ≡ p.end % p.size = offset_is p.size p.end (omega (arith, below, h.unread, r.fits n)) in
    elim (outside p.size p.end (first_unread g) (next_to_receive g) j p.unread (free_len p) (r.layout.sized n) (omega (arith, below, h.unread)) (r.fits n) (room_free p) (omega (arith, room_piece p, o)) (omega (arith, h.unread, h.within)) h.end) [
      | inl less ↦ inl (omega (arith, o, less))
      | inr more ↦ inr (omega (arith, o, more, same))
    ]

pub lent_own : (r : Receives) (n : ℕ) (g : Receiving) (w : List ℕ) → n < 8 → RxHolds r n g → length w ≡ room_len r n → RxHolds (with_room r n w) n g
lent_own r n g w ln h same = let p = rx_part r n in record {
  size = h.size;
  unread = h.unread;
  within = h.within;
  end = h.end;
  rd = h.rd;
  high = h.high;
  low = h.low;
  kept = λ j below.
      ap (λ m. get_or m (p.start + (first_unread g + j) % p.size) 0) (memory_over r n w ln same)
      ∙ over_at r.memory.items w (room_at r n) (omega (arith, same, room_within r n ln)) (p.start + (first_unread g + j) % p.size) (elsewhere r n g w h same j below)
      ∙ h.kept j below;
}

out_of_room : (p : RxPart) (w : List ℕ) (at : ℕ) → length w ≡ free_len p → (at < p.start) ⊎ (p.start + p.size ≤ at) → (at < free_at p) ⊎ (free_at p + length w ≤ at)
out_of_room p w at same (inl less) = inl (omega (arith, less))
out_of_room p w at same (inr more) = inr (omega (arith, more, same, room_in_part p))

pub lent_other : (r : Receives) (n m : ℕ) (g : Receiving) (w : List ℕ) → n < 8 → m < 8 → m ≢ n → RxHolds r m g → length w ≡ room_len r n → RxHolds (with_room r n w) m g
lent_other r n m g w ln lm other h same =
    others_keep r.layout n m (rx_part r m) (rx_part r m) r.memory.items (with_room r n w).memory.items g ln lm other refl refl (r.fits m) refl
    (λ at out. ap (λ l. get_or l at 0) (memory_over r n w ln same) ∙ over_at r.memory.items w (room_at r n) (omega (arith, same, room_within r n ln)) at (out_of_room (rx_part r n) w at same out)) h

-- every socket's lists still stand
pub lent_stands : (r : Receives) (n m : ℕ) (g : Receiving) (w : List ℕ) → n < 8 → m < 8 → RxHolds r m g → length w ≡ room_len r n → RxHolds (with_room r n w) m g
lent_stands r n m g w ln lm h same = elim (cases_eq m n) [
  | inl here ↦ subst (λ k. RxHolds (with_room r n w) k g) (sym here) (lent_own r n g w ln (subst (λ k. RxHolds r k g) here h) same)
  | inr other ↦ lent_other r n m g w ln lm other h same
]

pub lent_bytes : (r : Receives) (n : ℕ) (w : List ℕ) → n < 8 → length w ≡ room_len r n → room_bytes (with_room r n w) n ≡ w
lent_bytes r n w ln same =
    ap (λ m. take (room_len r n) (drop (room_at r n) m)) (memory_over r n w ln same)
    ∙ ap (λ k. take k (drop (room_at r n) (over r.memory.items (room_at r n) w))) (sym same)
    ∙ over_in r.memory.items w (room_at r n) (omega (arith, same, room_within r n ln))
