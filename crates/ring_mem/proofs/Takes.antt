-- What a take does to the marks.
use Rattle.std.proofs.Common.{inl, inr, ◌≡◌, ◌≤◌, ◌<◌, ℕ, zero, suc, ◌+◌, ◌-◌, ◌%◌, Bool, true, false, not, ◌||◌, ◌&&◌, eqb, ltb, leb, List, [], ◌∷◌, get_or, refl, sym, ap, ap₂, ◌∙◌, arith}
use Rattle.std.proofs.lemmas.Bool.{cases_lt}
use Rattle.std.proofs.lemmas.Bool.Decides.{nat_tests}
use Rattle.chip_sheet.specs.Positions.{has_between}
use Rattle.ring_mem.specs.Parts.{is_size}
use Rattle.ring_mem.specs.Marks.{is_among, any_marked, Cleared}
use Rattle.ring_mem.specs.TxHolds.{is_end}
use Rattle.ring_mem.proofs.Marks.{not_among}

pub place_shift : (size wrapped first j : ℕ) → is_size size ≡ true → j < size → wrapped ≡ first % 65536 → (wrapped + j) % size ≡ (first + j) % size
place_shift size wrapped first j known some is = grind (arith, nat_tests)

pub wrapped_first : (end flight first next : ℕ) → flight ≤ 16384 → first + flight ≡ next → end ≡ next % 65536 → (end + (65536 - flight)) % 65536 ≡ first % 65536
wrapped_first end flight first next fits total at = omega arith

none_one : (g e : ℕ) → (ltb g e && leb e (g + 0)) ≡ false
none_one g e = grind (arith, nat_tests)

none_between : (g : ℕ) (ends : List ℕ) → has_between g (g + 0) ends ≡ false
none_between g [] = refl
none_between g (e ∷ more) = ap₂ (λ a b. a || b) (none_one g e) (none_between g more)

one_between : (g k e : ℕ) → (ltb g e && leb e (g + suc k)) ≡ ((ltb g e && leb e (g + k)) || eqb e (g + k + 1))
one_between g k e = grind (arith, nat_tests)

regroup : (a b c d : Bool) → ((a || b) || (c || d)) ≡ ((a || c) || (b || d))
regroup true b c d = refl
regroup false true true d = refl
regroup false true false d = refl
regroup false false c d = refl

more_between : (g k : ℕ) (ends : List ℕ) → has_between g (g + suc k) ends ≡ (has_between g (g + k) ends || is_end ends (g + k + 1))
more_between g k [] = refl
more_between g k (e ∷ more) = ap₂ (λ a b. a || b) (one_between g k e) (more_between g k more) ∙ regroup (ltb g e && leb e (g + k)) (eqb e (g + k + 1)) (has_between g (g + k) more) (is_end more (g + k + 1))

pub any_is : (marks : List Bool) (ends : List ℕ) (start size wrapped first gone : ℕ) → ((j : ℕ) → j < size → (wrapped + j) % size ≡ (first + j) % size)
    → ((j : ℕ) → j < size → get_or marks (start + (first + j) % size) false ≡ is_end ends (gone + j + 1))
    → (k : ℕ) → k ≤ size → any_marked marks start size wrapped k ≡ has_between gone (gone + k) ends
any_is marks ends start size wrapped first gone shift marked zero far = sym (none_between gone ends)
any_is marks ends start size wrapped first gone shift marked (suc k) far =
    ap₂ (λ a b. a || b) (any_is marks ends start size wrapped first gone shift marked k (omega (arith, far)))
    (ap (λ p. get_or marks (start + p) false) (shift k (omega (arith, far))) ∙ marked k (omega (arith, far)))
    ∙ sym (more_between gone k ends)

or_true : (b : Bool) → (b || true) ≡ true
or_true true = refl
or_true false = refl

same_is : (a : ℕ) → eqb a a ≡ true
same_is a = grind (arith, nat_tests)

among_yes : (start size first i at : ℕ) → at ≡ start + (first + i) % size → (k : ℕ) → i < k → is_among start size first k at ≡ true
among_yes start size first i at is zero below = absurd (omega (arith, below))
among_yes start size first i at is (suc k) below = elim (cases_lt i k) [
  | inl less ↦ ap (λ b. b || eqb at (start + (first + k) % size)) (among_yes start size first i at is k less)
  | inr more ↦ let e : i ≡ k = omega (arith, below, more) in
      ap (λ b. is_among start size first k at || b) (ap (λ n. eqb at n) (sym (is ∙ ap (λ j. start + (first + j) % size) e)) ∙ same_is at) ∙ or_true _
]

turn_round : (size first i : ℕ) → is_size size ≡ true → 0 < size → size ≤ i → (first + i) % size ≡ (first + (i - size)) % size
turn_round size first i known some past = grind (arith, nat_tests)

and_true : (b : Bool) → (b && true) ≡ b
and_true true = refl
and_true false = refl

and_false : (b : Bool) → (b && false) ≡ false
and_false true = refl
and_false false = refl

pub marks_left : (old new : List Bool) (ends : List ℕ) (start size wrapped first gone flight len k : ℕ) → is_size size ≡ true → k ≤ flight → flight ≤ size → len ≡ gone + flight
    → ((j : ℕ) → j < size → (wrapped + j) % size ≡ (first + j) % size)
    → ((j : ℕ) → j < size → get_or old (start + (first + j) % size) false ≡ is_end ends (gone + j + 1))
    → ((e : ℕ) → len < e → is_end ends e ≡ false) → Cleared old new start size wrapped k
    → (j : ℕ) → j < size → get_or new (start + (first + (k + j)) % size) false ≡ is_end ends (gone + (k + j) + 1)
marks_left old new ends start size wrapped first gone flight len k known few fits total shift marked ended cleared j below =
    cleared (start + (first + (k + j)) % size) ∙ elim (cases_lt (k + j) size) [
      | inl near ↦
          ap₂ (λ a b. a && not b) (marked (k + j) near)
          (ap (λ p. is_among start size wrapped k (start + p)) (sym (shift (k + j) near)) ∙ not_among start size wrapped (k + j) 0 known near k (omega arith))
          ∙ and_true _
      | inr far ↦
          ap (λ b. get_or old (start + (first + (k + j)) % size) false && not b)
          (among_yes start size wrapped (k + j - size) _ (ap (λ p. start + p) (turn_round size first (k + j) known (omega (arith, below)) far ∙ sym (shift (k + j - size) (omega (arith, below, few, fits))))) k (omega (arith, below, far)))
          ∙ and_false _ ∙ sym (ended (gone + (k + j) + 1) (omega (arith, far)))
    ]

pub size_most : (size flight : ℕ) → is_size size ≡ true → flight ≤ size → flight ≤ 16384
size_most size flight known fits = grind (arith, nat_tests)
