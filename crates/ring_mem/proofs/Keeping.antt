-- What the calls do to a part of the RX memory.
use Rattle.std.proofs.Common.{inl, inr, ◌≡◌, ◌≢◌, ◌≤◌, ◌<◌, ℕ, ◌+◌, ◌-◌, ◌%◌, true, List, [], ◌∷◌, ◌++◌, length, length-append, length-drop, take, drop, get_or, set, append_assoc, append-nil, refl, sym, ap, ◌∙◌, arith, subst}
use Rattle.std.proofs.lemmas.Bool.{cases_lt, cases_eq}
use Rattle.std.proofs.lemmas.List.{get_or-set_other, get_or_append_left, get_or-append_right, length-take-le}
use Rattle.std.proofs.lemmas.Grind.{get_or-set_at}
use Rattle.chip_sheet.specs.Receiving.{Receiving, first_unread, next_to_receive, released_count, release_length, after_got, after_release}
use Rattle.ring_mem.specs.Parts.{SameBytesOutside, is_size}
use Rattle.ring_mem.specs.declared.layout.Layout.{Layout}
use Rattle.ring_mem.specs.RxHolds.{RxPart, Keeps, free_at, free_len}
use Rattle.ring_mem.proofs.Apart.{outside}
use Rattle.ring_mem.proofs.Places.{place_below, places_apart, same_place}
use Rattle.ring_mem.proofs.Rooms.{got_at, room_free, room_piece, room_in_part}

pub same_rx_part : (a b : RxPart) → a.start ≡ b.start → a.size ≡ b.size → a.unread ≡ b.unread → a.end ≡ b.end → a.rd ≡ b.rd → a ≡ b
same_rx_part a b e₁ e₂ e₃ e₄ e₅ = λ i. record { start = e₁ i; size = e₂ i; unread = e₃ i; end = e₄ i; rd = e₅ i }

-- the other parts stand while the memory changes within one part only
pub others_keep : (l : Layout) (i n : ℕ) (p q : RxPart) (memory memory₂ : List ℕ) (g : Receiving) → i < 8 → n < 8 → n ≢ i → p.start ≡ get_or l.starts n 0 → p.size ≡ get_or l.sizes n 0 → p.unread ≤ p.size → q ≡ p
    → SameBytesOutside memory memory₂ (get_or l.starts i 0) (get_or l.sizes i 0) → Keeps p memory g → Keeps q memory₂ g
others_keep l i n p q memory memory₂ g li ln other start size fits same bytes h = subst (λ q. Keeps q memory₂ g) (sym same) (record {
  size = h.size;
  unread = h.unread;
  within = h.within;
  end = h.end;
  rd = h.rd;
  high = h.high;
  low = h.low;
  kept = λ j below.
      let o = (first_unread g + j) % p.size in
      let lo : o < p.size = place_below p.size _ (omega (arith, below, h.unread, fits)) in
      bytes (p.start + o) (outside l i n o (p.start + o) li ln other (omega (arith, lo, size)) (omega (arith, start))) ∙ h.kept j below;
})

pub below_set : (xs ys : List ℕ) (i v : ℕ) → ((n : ℕ) → get_or xs n 0 ≤ get_or ys n 0) → i < length xs → v ≤ get_or ys i 0 → (n : ℕ) → get_or (set xs i v) n 0 ≤ get_or ys n 0
below_set xs ys i v all within small n = elim (cases_eq n i) [
  | inl here ↦ omega (arith, get_or-set_at xs i n v 0 here within, ap (λ k. get_or ys k 0) here, small)
  | inr other ↦ omega (arith, get_or-set_other xs i n v 0 other, all n)
]

pub fills : (p : RxPart) (memory : List ℕ) (g : Receiving) (k : ℕ) → is_size p.size ≡ true → p.unread ≤ p.size → p.start + p.size ≤ length memory → k ≤ free_len p → Keeps p memory g
    → Keeps (record p { unread = p.unread + k; end = (p.end + k) % 65536 }) memory (after_got g (take k (take (free_len p) (drop (free_at p) memory))))
fills p memory g k known fits part few h =
    let room = take (free_len p) (drop (free_at p) memory) in
    let b = take k room in
    let m : length room ≡ free_len p = length-take-le (free_len p) (drop (free_at p) memory) (omega (arith, room_in_part p, part, length-drop (free_at p) memory)) in
    let n : length b ≡ k = length-take-le k room (omega (arith, m, few)) in
    let l : length (g.got ++ b) ≡ length g.got + k = omega (arith, length-append g.got b, n) in
    let same : released_count (after_got g b) ≡ released_count g = omega (arith, l, n, h.within) in
    record {
      size = h.size;
      unread = omega (arith, h.unread, n);
      within = omega (arith, h.within, l, n);
      end = omega (arith, h.end, l);
      rd = h.rd;
      high = h.high;
      low = h.low;
      kept = λ j below. ap (λ q. get_or memory (p.start + (g.base + q + j) % p.size) 0) same
          ∙ got_at memory g.got p.start p.size p.end (first_unread g) (next_to_receive g) (released_count g) p.unread (free_len p) k j
          known fits (room_free p) (room_piece p) (omega (arith, h.unread, h.within)) h.end (omega (arith, h.unread, h.within)) part few (λ i less. h.kept i (omega (arith, h.unread, less))) (omega (arith, below, h.unread, n))
          ∙ ap (λ q. get_or (g.got ++ b) (q + j) 0) (sym same);
    }

pub releases : (p : RxPart) (memory : List ℕ) (g : Receiving) (a : ℕ) → a ≡ release_length g → a ≤ p.unread → Keeps p memory g → Keeps (record p { unread = p.unread - a }) memory (after_release g)
releases p memory g a is small h =
    let few : release_length g ≤ g.unread = omega (arith, is, small, h.unread) in
    let same : released_count (after_release g) ≡ released_count g + release_length g = omega (arith, few, h.within) in
    record {
      size = h.size;
      unread = omega (arith, is, h.unread);
      within = omega (arith, h.within);
      end = h.end;
      rd = h.rd;
      high = h.high;
      low = h.low;
      kept = λ j below. ap (λ q. get_or memory (p.start + q % p.size) 0) (omega (arith, same)) ∙ h.kept (release_length g + j) (omega (arith, below)) ∙ ap (λ q. get_or g.got q 0) (omega (arith, same));
    }

pub puts : (p : RxPart) (memory : List ℕ) (g : Receiving) (b : ℕ) → is_size p.size ≡ true → p.unread < p.size → p.start + p.size ≤ length memory → Keeps p memory g
    → Keeps (record p { unread = p.unread + 1; end = (p.end + 1) % 65536 }) (set memory (p.start + p.end % p.size) b) (after_got g (b ∷ []))
puts p memory g b known fits part h =
    let l : length (g.got ++ b ∷ []) ≡ length g.got + 1 = length-append g.got (b ∷ []) in
    let same : released_count (after_got g (b ∷ [])) ≡ released_count g = omega (arith, l, h.within) in
    let some : 0 < p.size = omega (arith, fits) in
    let last : p.end % p.size ≡ (first_unread g + g.unread) % p.size = ap (λ k. k % p.size) h.end ∙ same_place p.size (next_to_receive g) known some ∙ ap (λ k. k % p.size) (omega (arith, h.within)) in
    let short : p.end % p.size < p.size = place_below p.size p.end some in
    record {
      size = h.size;
      unread = omega (arith, h.unread);
      within = omega (arith, h.within, l);
      end = omega (arith, h.end, l);
      rd = h.rd;
      high = h.high;
      low = h.low;
      kept = λ j below. ap (λ q. get_or (set memory (p.start + p.end % p.size) b) (p.start + (g.base + q + j) % p.size) 0) same
          ∙ elim (cases_lt j g.unread) [
            | inl old ↦
                get_or-set_other memory (p.start + p.end % p.size) (p.start + (first_unread g + j) % p.size) b 0
                (λ e. let i : j ≡ g.unread = places_apart p.size (first_unread g) j g.unread known (omega (arith, old, h.unread, fits)) (omega (arith, h.unread, fits)) (omega (arith, e, last)) in omega (arith, i, old))
                ∙ h.kept j old ∙ sym (get_or_append_left g.got (b ∷ []) 0 (released_count g + j) (omega (arith, old, h.within)))
            | inr new ↦
                let i : j ≡ g.unread = omega (arith, below, new) in
                get_or-set_at memory (p.start + p.end % p.size) (p.start + (first_unread g + j) % p.size) b 0 (ap (λ k. p.start + (first_unread g + k) % p.size) i ∙ ap (λ k. p.start + k) (sym last)) (omega (arith, short, part))
                ∙ sym (get_or-append_right g.got (b ∷ []) (length g.got) (released_count g + j) 0 refl (omega (arith, i, h.within)) ∙ ap (λ k. get_or (b ∷ []) k 0) (let z : released_count g + j - length g.got ≡ 0 = omega (arith, i, h.within) in z))
          ]
          ∙ ap (λ q. get_or (g.got ++ b ∷ []) (q + j) 0) (sym same);
    }

pub got_more : (g : Receiving) (xs ys : List ℕ) → after_got (after_got g xs) ys ≡ after_got g (xs ++ ys)
got_more g xs ys =
    let e₁ : (g.got ++ xs) ++ ys ≡ g.got ++ (xs ++ ys) = append_assoc g.got xs ys in
    let e₂ : g.unread + length xs + length ys ≡ g.unread + length (xs ++ ys) = omega (arith, length-append xs ys) in
    λ i. record g { got = e₁ i; unread = e₂ i }

pub got_none : (g : Receiving) → after_got g [] ≡ g
got_none g =
    let e₁ : g.got ++ [] ≡ g.got = append-nil g.got in
    let e₂ : g.unread + 0 ≡ g.unread = omega arith in
    λ i. record g { got = e₁ i; unread = e₂ i }
