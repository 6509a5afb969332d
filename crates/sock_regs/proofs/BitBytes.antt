-- Numbers made of bits: what `|` and taking bits away make of them.
use Rattle.std.proofs.Common.{◌≡◌, ◌<◌, ℕ, ◌+◌, ◌-◌, ◌^◌, min, max, zero, suc, Bool, true, false, not, ◌&&◌, ◌||◌, cond, eqb, ltb, inl, inr, refl, sym, ap, ◌∙◌, arith}
use lib.Bits.{bit_and}
use Rattle.std.specs.Prelude.{bit_or}
use Rattle.std.specs.Int.{bit_at}
use Rattle.std.proofs.lemmas.Bool.{cases_lt, lt-ltb, le-ltb}
use Rattle.std.proofs.lemmas.Nat.Bits.{bit_at-zero, bit_at_and, bit_at_or, bit_at-lt, bit_at_above, same_from_bits}
use Rattle.chip_sheet.specs.Bits.{has_bit}
use Rattle.chip_sheet.proofs.BitSums.{bit_sum, bit_sum_at, bit_sum_small}

sum_bit : (f : ℕ → Bool) (count i : ℕ) → bit_at (bit_sum f count) i ≡ cond (ltb i count && f i) 1 0
sum_bit f count i =
    elim (cases_lt i count) [
      | inl less ↦ bit_sum_at f count i less ∙ sym (ap (λ (b : Bool). cond (b && f i) 1 0) (lt-ltb i count less))
      | inr more ↦ bit_at_above (bit_sum f count) count i (bit_sum_small f count) more ∙ sym (ap (λ (b : Bool). cond (b && f i) 1 0) (le-ltb i count more))
    ]

or_bit : (x a b : Bool) → max (cond (x && a) 1 0) (cond (x && b) 1 0) ≡ cond (x && (a || b)) 1 0
or_bit true true true = refl
or_bit true true false = refl
or_bit true false true = refl
or_bit true false false = refl
or_bit false a b = refl

pub or_sum : (f g : ℕ → Bool) (count : ℕ) → bit_or (bit_sum f count) (bit_sum g count) ≡ bit_sum (λ i. f i || g i) count
or_sum f g count = same_from_bits _ _ (λ i.
    bit_at_or (bit_sum f count) (bit_sum g count) i
    ∙ ap (λ (y : ℕ). max y (bit_at (bit_sum g count) i)) (sum_bit f count i)
    ∙ ap (λ (y : ℕ). max (cond (ltb i count && f i) 1 0) y) (sum_bit g count i)
    ∙ or_bit (ltb i count) (f i) (g i) ∙ sym (sum_bit (λ j. f j || g j) count i))

pub or_none : (n : ℕ) → bit_or n 0 ≡ n
or_none n = same_from_bits _ _ (λ i. bit_at_or n 0 i ∙ ap (λ (y : ℕ). max (bit_at n i) y) (bit_at-zero i) ∙ omega arith)

masked : (m : ℕ) → m < 2 → min 1 m ≡ cond (eqb m 1) 1 0
masked zero low = refl
masked (suc zero) low = refl
masked (suc (suc m)) low = absurd (omega arith)

and_bit : (x a : Bool) (m : ℕ) → m < 2 → min (cond (x && a) 1 0) m ≡ cond (x && (a && eqb m 1)) 1 0
and_bit true true m low = masked m low
and_bit true false m low = omega arith
and_bit false a m low = omega arith

pub and_sum : (f : ℕ → Bool) (m count : ℕ) → bit_and (bit_sum f count) m ≡ bit_sum (λ i. f i && has_bit m (2 ^ i)) count
and_sum f m count = same_from_bits _ _ (λ i.
    bit_at_and (bit_sum f count) m i
    ∙ ap (λ (y : ℕ). min y (bit_at m i)) (sum_bit f count i)
    ∙ and_bit (ltb i count) (f i) (bit_at m i) (bit_at-lt m i) ∙ sym (sum_bit (λ j. f j && has_bit m (2 ^ j)) count i))

one_split : (f k : Bool) (w a b s : ℕ) → a + b ≡ s → (a + cond (not k && f) w 0) + (b + cond (f && k) w 0) ≡ s + cond f w 0
one_split true true w a b s h = omega (arith, h)
one_split true false w a b s h = omega (arith, h)
one_split false true w a b s h = omega (arith, h)
one_split false false w a b s h = omega (arith, h)

split_sum : (f k : ℕ → Bool) (count : ℕ) → bit_sum (λ i. not (k i) && f i) count + bit_sum (λ i. f i && k i) count ≡ bit_sum f count
split_sum f k zero = refl
split_sum f k (suc count) =
    one_split (f count) (k count) (2 ^ count) (bit_sum (λ i. not (k i) && f i) count) (bit_sum (λ i. f i && k i) count) (bit_sum f count) (split_sum f k count)

-- the bits of a mask are taken away
pub cleared_sum : (f : ℕ → Bool) (m count : ℕ) → bit_sum f count - bit_and (bit_sum f count) m ≡ bit_sum (λ i. not (has_bit m (2 ^ i)) && f i) count
cleared_sum f m count =
    let split = split_sum f (λ i. has_bit m (2 ^ i)) count in
    let both = and_sum f m count in
    omega (arith, split, both)

pub same_sum : (f g : ℕ → Bool) (count : ℕ) → ((i : ℕ) → i < count → f i ≡ g i) → bit_sum f count ≡ bit_sum g count
same_sum f g zero h = refl
same_sum f g (suc count) h =
    ap (λ (x : ℕ). x + cond (f count) (2 ^ count) 0) (same_sum f g count (λ i less. h i (omega (arith, less))))
    ∙ ap (λ (b : Bool). bit_sum g count + cond b (2 ^ count) 0) (h count (omega arith))
