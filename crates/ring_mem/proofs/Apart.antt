-- Two parts share no place.
use Rattle.std.proofs.Common.{inl, inr, ◌⊎◌, ◌≡◌, ◌≢◌, ◌≤◌, ◌<◌, ℕ, zero, suc, ◌+◌, ◌%◌, List, get_or, arith, subst}
use Rattle.std.proofs.lemmas.Bool.{cases_lt}
use Rattle.ring_mem.specs.Parts.{sum_below}
use Rattle.ring_mem.specs.declared.layout.Layout.{Layout}

pub sum_more : (sizes : List ℕ) (i j : ℕ) → i < j → sum_below sizes i + get_or sizes i 0 ≤ sum_below sizes j
sum_more sizes i zero below = absurd (omega (arith, below))
sum_more sizes i (suc j) below = elim (cases_lt i j) [
  | inl less ↦ omega (arith, sum_more sizes i j less)
  | inr more ↦ subst (λ k. sum_below sizes i + get_or sizes i 0 ≤ sum_below sizes k + get_or sizes k 0) (let e : i ≡ j = omega (arith, below, more) in e) (omega arith)
]

pub part_within : (l : Layout) (n : ℕ) → n < 8 → get_or l.starts n 0 + get_or l.sizes n 0 ≤ 16384
part_within l n below = omega (arith, l.sums n below, sum_more l.sizes n 8 below, l.total)

pub place_within : (l : Layout) (n at : ℕ) → n < 8 → 0 < get_or l.sizes n 0 → get_or l.starts n 0 + at % get_or l.sizes n 0 < 16384
place_within l n at below some = let less : at % get_or l.sizes n 0 < get_or l.sizes n 0 = omega (arith, some) in omega (arith, part_within l n below, less)

pub outside : (l : Layout) (i n o at : ℕ) → i < 8 → n < 8 → n ≢ i → o < get_or l.sizes n 0 → at ≡ get_or l.starts n 0 + o
    → (at < get_or l.starts i 0) ⊎ (get_or l.starts i 0 + get_or l.sizes i 0 ≤ at)
outside l i n o at li ln other lo is = elim (cases_lt i n) [
  | inl less ↦ inr (omega (arith, l.sums n ln, l.sums i li, sum_more l.sizes i n less, is))
  | inr more ↦ inl (let less : n < i = omega (arith, more, other) in omega (arith, l.sums n ln, l.sums i li, sum_more l.sizes n i less, is, lo))
]
