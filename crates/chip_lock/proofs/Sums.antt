-- Sums over a list that changes at one place, and what a history of two says of one more entry.
use Rattle.std.proofs.Common.{◌≡◌, ◌≢◌, ℕ, zero, suc, ◌+◌, ◌<◌, ◌≤◌, List, [], ◌∷◌, length, set, Bool, true, false, refl, sym, ap, arith, cond, eqb, eq-eqb, ne_eqb}
use mathlib.Core.Logic.{dite}
use native.Mathlib.Decide.{ℕ_discrete}
use mathlib.Core.Option.{some, some-ne-none, some-injective}
use lib.ListN.{get_elem?}
use Rattle.chip_sheet.specs.declared.event.Entry.{Entry}
use Rattle.chip_sheet.specs.Past.{Past, GoesOn}
use Rattle.chip_lock.specs.Lists.{total, below, bare, same}

module _ {A : Type 0} (f : A → ℕ) where
  pub total-set : (xs : List A) (i : ℕ) (v w : A) → get_elem? xs i ≡ some v → total f (set xs i w) + f v ≡ total f xs + f w
  total-set [] i v w at = absurd (some-ne-none v (sym at))
  total-set (x ∷ xs) zero v w at = omega (arith, ap f (some-injective x v at))
  total-set (x ∷ xs) (suc i) v w at = omega (arith, total-set xs i v w at)

  pub total-at : (xs : List A) (i : ℕ) (v : A) → get_elem? xs i ≡ some v → f v ≤ total f xs
  total-at [] i v at = absurd (some-ne-none v (sym at))
  total-at (x ∷ xs) zero v at = omega (arith, ap f (some-injective x v at))
  total-at (x ∷ xs) (suc i) v at = omega (arith, total-at xs i v at)

  pub total-two : (xs : List A) (i j : ℕ) (v w : A) → j ≢ i → get_elem? xs i ≡ some v → get_elem? xs j ≡ some w → f v + f w ≤ total f xs
  total-two [] i j v w apart at there = absurd (some-ne-none v (sym at))
  total-two (x ∷ xs) zero zero v w apart at there = absurd (apart refl)
  total-two (x ∷ xs) zero (suc j) v w apart at there = omega (arith, ap f (some-injective x v at), total-at xs j w there)
  total-two (x ∷ xs) (suc i) zero v w apart at there = omega (arith, ap f (some-injective x w there), total-at xs i v at)
  total-two (x ∷ xs) (suc i) (suc j) v w apart at there = omega (arith, total-two xs i j v w (λ e. apart (ap suc e)) at there)

  total-none : (xs : List A) → ((i : ℕ) (v : A) → get_elem? xs i ≡ some v → f v ≡ 0) → total f xs ≡ 0
  total-none [] h = refl
  total-none (x ∷ xs) h = omega (arith, h 0 x refl, total-none xs (λ i v at. h (suc i) v at))

  pub total-only : (xs : List A) (i : ℕ) (v : A) → get_elem? xs i ≡ some v → ((j : ℕ) (u : A) → j ≢ i → get_elem? xs j ≡ some u → f u ≡ 0) → total f xs ≡ f v
  total-only [] i v at h = absurd (some-ne-none v (sym at))
  total-only (x ∷ xs) zero v at h = omega (arith, ap f (some-injective x v at), total-none xs (λ j u there. h (suc j) u (λ e. omega arith) there))
  total-only (x ∷ xs) (suc i) v at h = omega (arith, h 0 x (λ e. omega arith) refl, total-only xs i v at (λ j u apart there. h (suc j) u (λ e. apart (omega arith)) there))

  pub total_le : (g : A → ℕ) (xs : List A) → ((i : ℕ) (v : A) → get_elem? xs i ≡ some v → f v ≤ g v) → total f xs ≤ total g xs
  total_le g [] h = omega arith
  total_le g (x ∷ xs) h = omega (arith, h 0 x refl, total_le g xs (λ i v at. h (suc i) v at))

pub below-one : (n : ℕ) → below (λ _. 1) n ≡ n
below-one zero = refl
below-one (suc n) = omega (arith, below-one n)

pub below-more : (f : ℕ → ℕ) (n : ℕ) → below f (n + 1) ≡ f n + below f n
below-more f n = let e : n + 1 ≡ suc n = omega arith in ap (below f) e

-- 1 at the number t, and 0 at the others.
abbrev pub only : ℕ → ℕ → ℕ
only t x = cond (eqb x t) 1 0

pub only-same : (t : ℕ) → only t t ≡ 1
only-same t = ap (λ b. cond b 1 0) (eq-eqb t t refl)

only-other : (t x : ℕ) → x ≢ t → only t x ≡ 0
only-other t x ne = ap (λ b. cond b 1 0) (ne_eqb x t ne)

below-only-none : (t n : ℕ) → n ≤ t → below (only t) n ≡ 0
below-only-none t zero le = refl
below-only-none t (suc n) le = omega (arith, only-other t n (λ e. omega arith), below-only-none t n (omega arith))

pub below-only : (t n : ℕ) → below (only t) n ≤ 1
below-only t zero = omega arith
below-only t (suc n) =
    dite (ℕ_discrete n t)
    (λ e. omega (arith, ap (only t) e, only-same t, below-only-none t n (omega arith)))
    (λ ne. omega (arith, only-other t n ne, below-only t n))

module _ {A : Type 0} where
  pub set-at : (xs : List A) (i : ℕ) (v w : A) → get_elem? xs i ≡ some v → get_elem? (set xs i w) i ≡ some w
  set-at [] i v w at = absurd (some-ne-none v (sym at))
  set-at (x ∷ xs) zero v w at = refl
  set-at (x ∷ xs) (suc i) v w at = set-at xs i v w at

  pub at-below : (xs : List A) (i : ℕ) (v : A) → get_elem? xs i ≡ some v → i < length xs
  at-below [] i v at = absurd (some-ne-none v (sym at))
  at-below (x ∷ xs) zero v at = omega arith
  at-below (x ∷ xs) (suc i) v at = omega (arith, at-below xs i v at)

  pub length-bare : (xs : List (Bool × A)) → length (bare xs) ≡ length xs
  length-bare [] = refl
  length-bare (x ∷ xs) = ap suc (length-bare xs)

pub goes_further : (older newer : Past) (e : Entry) → GoesOn older newer → GoesOn older (e ∷ newer)
goes_further older newer e on = (e ∷ on.0, ap (λ l. e ∷ l) on.1)

pub same-self : (b : Bool) → same b b ≡ true
same-self true = refl
same-self false = refl
