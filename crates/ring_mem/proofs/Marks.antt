-- Marks that are cleared one after another.
use Rattle.std.proofs.Common.{◌≡◌, ◌≢◌, ◌≤◌, ◌<◌, ℕ, zero, suc, ◌+◌, ◌%◌, Bool, true, false, not, ◌||◌, ◌&&◌, eqb, List, [], ◌∷◌, length, get_or, set, refl, sym, ap, ap₂, ◌∙◌, arith, subst}
use Rattle.std.proofs.lemmas.Bool.Decides.{nat_tests}
use Rattle.std.proofs.lemmas.List.{get_or-set_same, get_or-set_other}
use Rattle.ring_mem.specs.Parts.{is_size}
use Rattle.ring_mem.specs.Marks.{is_among, any_marked, Cleared}
use Rattle.ring_mem.proofs.Places.{places_apart, same_place}

pub suc_is : (j : ℕ) → j + 1 ≡ suc j
suc_is j = omega arith

pub and_true : (b : Bool) → b ≡ (b && not false)
and_true true = refl
and_true false = refl

pub cleared_none : (old : List Bool) (start size first : ℕ) → Cleared old old start size first 0
cleared_none old start size first at = and_true (get_or old at false)

and_false : (a : Bool) → false ≡ (a && false)
and_false true = refl
and_false false = refl

-- one place more, where the test on it says that it is this place
one_more : (a among here : Bool) (new before : Bool) → before ≡ (a && not among) → (here ≡ true → new ≡ false) → (here ≡ false → new ≡ before) → new ≡ (a && not (among || here))
one_more a true here new before is same other = elim here as (λ h. (h ≡ true → new ≡ false) → (h ≡ false → new ≡ before) → new ≡ (a && not (true || h))) [
  | true ↦ λ same other. same refl ∙ and_false a
  | false ↦ λ same other. other refl ∙ is
] same other
one_more a false true new before is same other = same refl ∙ and_false a
one_more a false false new before is same other = other refl ∙ is

same_number : (a b : ℕ) → eqb a b ≡ true → a ≡ b
same_number a b h = grind (arith, nat_tests)

other_number : (a b : ℕ) → eqb a b ≡ false → a ≢ b
other_number a b h = grind (arith, nat_tests)

pub cleared_more : (old mid : List Bool) (start size first j at next : ℕ) → Cleared old mid start size first j → at ≡ start + (first + j) % size → at < length mid → next ≡ suc j
    → Cleared old (set mid at false) start size first next
cleared_more old mid start size first j at next cleared is within e = subst (λ n. Cleared old (set mid at false) start size first n) (sym e) (λ i.
    one_more (get_or old i false) (is_among start size first j i) (eqb i (start + (first + j) % size)) (get_or (set mid at false) i false) (get_or mid i false) (cleared i)
    (λ here. let here' : i ≡ at = same_number _ _ here ∙ sym is in ap (λ k. get_or (set mid at false) k false) here' ∙ get_or-set_same mid at false false within)
    (λ here. get_or-set_other mid at i false false (λ i_at. other_number _ _ here (i_at ∙ is))))

pub apart : (a b : ℕ) → (a ≢ b) → eqb a b ≡ false
apart a b h = grind (arith, nat_tests)

pub not_among : (start size first j i : ℕ) → is_size size ≡ true → j < size → (k : ℕ) → k ≤ j → is_among start size first k (start + (first + j) % size) ≡ false
not_among start size first j i known below zero far = refl
not_among start size first j i known below (suc k) far =
    ap₂ (λ a b. a || b) (not_among start size first j i known below k (omega (arith, far)))
    (apart (start + (first + j) % size) (start + (first + k) % size) (λ e. let same : j ≡ k = places_apart size first j k known below (omega (arith, below, far)) (omega (arith, e)) in omega (arith, same, far)))

pub read_old : (old mid : List Bool) (start size first j at : ℕ) → is_size size ≡ true → j < size → at ≡ start + (first + j) % size → Cleared old mid start size first j → get_or mid at false ≡ get_or old (start + (first + j) % size) false
read_old old mid start size first j at known below is cleared =
    ap (λ i. get_or mid i false) is ∙ cleared (start + (first + j) % size)
    ∙ ap (λ b. get_or old (start + (first + j) % size) false && not b) (not_among start size first j 0 known below j (omega arith))
    ∙ sym (and_true _)

pub passed_more : (old : List Bool) (start size first j next : ℕ) (passed was : Bool) → passed ≡ any_marked old start size first j → was ≡ get_or old (start + (first + j) % size) false → next ≡ suc j
    → (passed || was) ≡ any_marked old start size first next
passed_more old start size first j next passed was p w e = ap₂ (λ a b. a || b) p w ∙ ap (any_marked old start size first) (sym e)

pub place_is : (start size first j at : ℕ) → is_size size ≡ true → j < size → at ≡ start + (first + j) % 65536 % size → at ≡ start + (first + j) % size
place_is start size first j at known below is = is ∙ ap (λ n. start + n) (same_place size (first + j) known (omega (arith, below)))

pub value_at : {A : Type 0} → (xs : List A) (i : ℕ) (x d : A) → i < length xs → x ≡ get_or xs i x → x ≡ get_or xs i d
value_at [] i x d below e = absurd (omega (arith, below))
value_at (y ∷ ys) zero x d below e = e
value_at (y ∷ ys) (suc i) x d below e = value_at ys i x d (omega (arith, below)) e

pub place_short : (size at : ℕ) {j : ℕ} → is_size size ≡ true → j < size → at % size < size
place_short size at known below = grind (arith, nat_tests)
