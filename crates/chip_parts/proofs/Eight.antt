-- What is so at each of the eight places.
use Rattle.std.proofs.Common.{◌≡◌, ◌<◌, ℕ, inl, inr, sym, subst, arith}
use Rattle.std.proofs.lemmas.Bool.{cases_eq}

pub at_eight : (P : ℕ → Type 0) → P 0 → P 1 → P 2 → P 3 → P 4 → P 5 → P 6 → P 7 → (n : ℕ) → n < 8 → P n
at_eight P a b c d e f g h n below =
    elim (cases_eq n 0) [
      | inl is ↦ subst P (sym is) a
      | inr not0 ↦ elim (cases_eq n 1) [
        | inl is ↦ subst P (sym is) b
        | inr not1 ↦ elim (cases_eq n 2) [
          | inl is ↦ subst P (sym is) c
          | inr not2 ↦ elim (cases_eq n 3) [
            | inl is ↦ subst P (sym is) d
            | inr not3 ↦ elim (cases_eq n 4) [
              | inl is ↦ subst P (sym is) e
              | inr not4 ↦ elim (cases_eq n 5) [
                | inl is ↦ subst P (sym is) f
                | inr not5 ↦ elim (cases_eq n 6) [
                  | inl is ↦ subst P (sym is) g
                  | inr not6 ↦ subst P (let last : 7 ≡ n = omega (arith, below, not0, not1, not2, not3, not4, not5, not6) in last) h
                ]
              ]
            ]
          ]
        ]
      ]
    ]
