-- Two functions on numbers that agree over a whole table agree at each place of it.
use Rattle.std.proofs.Common.{◌≡◌, ℕ, true, false, ◌&&◌, leb, ltb, zero, suc, ◌+◌, ◌<◌, ◌≤◌, List, [], ◌∷◌, subst, arith, inl, inr, eq-or-lt_of_le}
use Rattle.std.proofs.lemmas.Bool.Decides.{nat_tests}

-- The values at `at` and the n - 1 places above it.
abbrev pub table : {B : Type 0} → (ℕ → B) → ℕ → ℕ → List B
table f at zero = []
table f at (suc n) = f at ∷ table f (at + 1) n

pub same_at : {B : Type 0} (f g : ℕ → B) (at n : ℕ) → table f at n ≡ table g at n → (k : ℕ) → at ≤ k → k < at + n → f k ≡ g k
same_at f g at zero e k low high = absurd (omega arith)
same_at f g at (suc n) e k low high =
    let first : f at ≡ g at = cc in
    let rest : table f (at + 1) n ≡ table g (at + 1) n = cc in
    elim (eq-or-lt_of_le low) [
      | inl is ↦ subst (λ v. f v ≡ g v) is first
      | inr above ↦ same_at f g (at + 1) n rest k (omega arith) (omega arith)
    ]

-- A place behind a register is none of it.
pub outside : (first end addr n : ℕ) → leb end n ≡ true → n ≤ addr → (leb first addr && ltb addr end) ≡ false
outside first end addr n h above = grind (arith, nat_tests)
