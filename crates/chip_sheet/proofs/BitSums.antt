-- A number made of bits, each with its weight: which bits it has, and where it meets a mask.
use Rattle.std.proofs.Common.{◌≡◌, ◌≤◌, ◌<◌, ℕ, ◌+◌, ◌-◌, ◌*◌, ◌/◌, ◌%◌, ◌^◌, min, zero, suc, Bool, true, false, not, ◌&&◌, ◌||◌, cond, eqb, inl, inr, refl, sym, ap, ◌∙◌, arith, ◌⊎◌}
use lib.Bits.{bit_and}
use Rattle.std.specs.Int.{bit_at}
use Rattle.std.proofs.lemmas.Bool.{cases_Bool, cases_lt, and_parts, or_cases, eqb-true, eqb-false, eq-eqb, false≢true}
use Rattle.std.proofs.lemmas.Nat.Bits.{bit_at-zero, bit_at_and, bit_at-lt, bit_at_above, bit_at_cat_low, bit_at_cat_high, same_from_bits}
use Rattle.chip_sheet.specs.Bits.{has_bit}

-- The sum of the weights of so many bits.
abbrev pub bit_sum : (ℕ → Bool) → ℕ → ℕ
bit_sum f zero = 0
bit_sum f (suc count) = bit_sum f count + cond (f count) (2 ^ count) 0

-- One of so many bits is set in a mask too.
abbrev pub any_met : (ℕ → Bool) → ℕ → ℕ → Bool
any_met f mask zero = false
any_met f mask (suc count) = any_met f mask count || (has_bit mask (2 ^ count) && f count)

weight_is : (b : Bool) (w : ℕ) → cond b w 0 ≡ cond b 1 0 * w
weight_is true w = omega arith
weight_is false w = omega arith

bit_small : (b : Bool) → cond b 1 0 < 2
bit_small true = omega arith
bit_small false = omega arith

pow_suc : (k : ℕ) → 2 ^ suc k ≡ 2 * 2 ^ k
pow_suc k = grind arith

bit_sum_is : (f : ℕ → Bool) (count : ℕ) → bit_sum f (suc count) ≡ cond (f count) 1 0 * 2 ^ count + bit_sum f count
bit_sum_is f count = let w = weight_is (f count) (2 ^ count) in omega (arith, w)

pub bit_sum_small : (f : ℕ → Bool) (count : ℕ) → bit_sum f count < 2 ^ count
bit_sum_small f zero = omega arith
bit_sum_small f (suc count) =
    let less = bit_sum_small f count in
    let twice = pow_suc count in
    small (f count) (bit_sum f count) (2 ^ count) (2 ^ suc count) less twice
  where
    small : (b : Bool) (s w v : ℕ) → s < w → v ≡ 2 * w → s + cond b w 0 < v
    small true s w v h e = omega arith
    small false s w v h e = omega arith

no_bits : (b : Bool) (j : ℕ) → bit_at (cond b 1 0) (suc j) ≡ 0
no_bits b j = bit_at_above (cond b 1 0) 1 (suc j) (bit_small b) (omega arith)

lowest : (b : Bool) → bit_at (cond b 1 0) 0 ≡ cond b 1 0
lowest true = refl
lowest false = refl

-- The sum has exactly these bits.
pub bit_sum_at : (f : ℕ → Bool) (count i : ℕ) → i < count → bit_at (bit_sum f count) i ≡ cond (f i) 1 0
bit_sum_at f zero i below = absurd (omega arith)
bit_sum_at f (suc count) i below =
    ap (λ (x : ℕ). bit_at x i) (bit_sum_is f count)
    ∙ elim (cases_lt i count) [
      | inl less ↦ bit_at_cat_low (cond (f count) 1 0) count (bit_sum f count) i less ∙ bit_sum_at f count i less
      | inr most ↦
          let same : i ≡ count = omega (arith, most) in
          let none : i - count ≡ 0 = omega (arith, same) in
          bit_at_cat_high (cond (f count) 1 0) count (bit_sum f count) i (bit_sum_small f count) (omega (arith, same))
          ∙ ap (bit_at (cond (f count) 1 0)) none ∙ lowest (f count) ∙ ap (λ (j : ℕ). cond (f j) 1 0) (sym same)
    ]

-- A bit that is met.
record Met (f : ℕ → Bool) (mask count : ℕ) : Type 0 where
  at : ℕ
  below : at < count
  is : f at ≡ true
  masked : mask / 2 ^ at % 2 ≡ 1

met_at : (f : ℕ → Bool) (mask count : ℕ) → any_met f mask count ≡ true → Met f mask count
met_at f mask zero h = cc
met_at f mask (suc count) h =
    elim (or_cases (any_met f mask count) (has_bit mask (2 ^ count) && f count) h) [
      | inl before ↦ let it = met_at f mask count before in record { at = it.at; below = let less = it.below in omega (arith, less); is = it.is; masked = it.masked }
      | inr now ↦
          let parts = and_parts (has_bit mask (2 ^ count)) (f count) now in
          record { at = count; below = omega arith; is = parts.1; masked = eqb-true (mask / 2 ^ count % 2) 1 parts.0 }
    ]

or_false_parts : (a b : Bool) → (a || b) ≡ false → (a ≡ false) × (b ≡ false)
or_false_parts true b h = cc
or_false_parts false b h = (refl, h)

unmet : (f : ℕ → Bool) (mask count i : ℕ) → any_met f mask count ≡ false → i < count → (has_bit mask (2 ^ i) && f i) ≡ false
unmet f mask zero i h below = absurd (omega arith)
unmet f mask (suc count) i h below =
    let parts = or_false_parts (any_met f mask count) (has_bit mask (2 ^ count) && f count) h in
    elim (cases_lt i count) [
      | inl less ↦ unmet f mask count i parts.0 less
      | inr most ↦ let same : count ≡ i = omega (arith, most) in sym (ap (λ (j : ℕ). has_bit mask (2 ^ j) && f j) same) ∙ parts.1
    ]

none_both : (m : ℕ) (b : Bool) → m < 2 → (eqb m 1 && b) ≡ false → min (cond b 1 0) m ≡ 0
none_both m false less h = omega arith
none_both m true less h = let other = eqb-false m 1 (from_and (eqb m 1) h) in zero_of m less other
  where
    from_and : (a : Bool) → (a && true) ≡ false → a ≡ false
    from_and true h = cc
    from_and false h = refl

    zero_of : (m : ℕ) → m < 2 → (m ≡ 1 → ⊥) → min 1 m ≡ 0
    zero_of m less other = elim (cases_lt 0 m) [ inl some ↦ absurd (other (omega arith)) | inr none ↦ omega (arith, none) ]

not_zero : (x : ℕ) → (x ≡ 0 → ⊥) → not (eqb x 0) ≡ true
not_zero x h = elim (cases_Bool (eqb x 0)) [ inl is ↦ absurd (h (eqb-true x 0 is)) | inr other ↦ ap not other ]

-- The sum and the mask have a bit in common exactly where one of the bits is met.
pub met_exactly : (f : ℕ → Bool) (mask count : ℕ) → any_met f mask count ≡ not (eqb (bit_and (bit_sum f count) mask) 0)
met_exactly f mask count =
    let both = bit_and (bit_sum f count) mask in
    elim (cases_Bool (any_met f mask count)) [
      | inl some ↦
          let it = met_at f mask count some in
          let one : bit_at both it.at ≡ 1 =
          bit_at_and (bit_sum f count) mask it.at ∙ ap (λ (x : ℕ). min x (bit_at mask it.at)) (bit_sum_at f count it.at it.below ∙ ap (λ (b : Bool). cond b 1 0) it.is)
          ∙ ap (λ (x : ℕ). min 1 x) it.masked in
          some ∙ sym (not_zero both (λ none. let zero_at : bit_at both it.at ≡ 0 = ap (λ (x : ℕ). bit_at x it.at) none ∙ bit_at-zero it.at in omega (arith, one, zero_at)))
      | inr none ↦
          let all : both ≡ 0 = same_from_bits both 0 (λ i.
          bit_at_and (bit_sum f count) mask i ∙ elim (cases_lt i count) [
            | inl less ↦ ap (λ (x : ℕ). min x (bit_at mask i)) (bit_sum_at f count i less) ∙ none_both (bit_at mask i) (f i) (bit_at-lt mask i) (unmet f mask count i none less)
            | inr more ↦ ap (λ (x : ℕ). min x (bit_at mask i)) (bit_at_above (bit_sum f count) count i (bit_sum_small f count) (omega (arith, more))) ∙ omega arith
          ] ∙ sym (bit_at-zero i)) in
          none ∙ sym (ap not (eq-eqb both 0 all))
    ]
