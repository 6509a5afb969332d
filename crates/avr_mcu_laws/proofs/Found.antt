-- The first number of a rising list that passes a test.
use Rattle.std.proofs.Common.{◌≡◌, ◌≤◌, ℕ, ◌==◌, Bool, true, false, cond, ◌⊎◌, inl, inr, List, [], ◌∷◌, Some, find, if◌then◌else◌, refl, sym, ap, subst, ◌∙◌, arith}
use Rattle.std.proofs.lemmas.Bool.Decides.{nat_tests}

-- A number stands in a list.
unfoldable pub Among : ℕ → List ℕ → Type 0
Among v [] = ⊥
Among v (x ∷ xs) = (v ≡ x) ⊎ Among v xs

-- Each number of a list is at least the one before it, and the first at least this.
abbrev pub RisesFrom : ℕ → List ℕ → Type 0
RisesFrom low [] = Unit {0}
RisesFrom low (x ∷ xs) = (low ≤ x) × RisesFrom x xs

-- No number of a list is above this.
abbrev pub UpTo : ℕ → List ℕ → Type 0
UpTo high [] = Unit {0}
UpTo high (x ∷ xs) = (x ≤ high) × UpTo high xs

pub at-least : (low : ℕ) (xs : List ℕ) (v : ℕ) → RisesFrom low xs → Among v xs → low ≤ v
unfolding Among
at-least low [] v rises among = absurd among
at-least low (x ∷ xs) v rises (inl e) = omega (arith, rises.0, e)
at-least low (x ∷ xs) v rises (inr later) =
    let further : x ≤ v = at-least x xs v rises.1 later in omega (arith, rises.0, further)

pub at-most : (high : ℕ) (xs : List ℕ) (v : ℕ) → UpTo high xs → Among v xs → v ≤ high
unfolding Among
at-most high [] v upto among = absurd among
at-most high (x ∷ xs) v upto (inl e) = omega (arith, upto.0, e)
at-most high (x ∷ xs) v upto (inr later) = at-most high xs v upto.1 later

-- What passes is found, or one before it.
abbrev pub FindsUpTo : (ℕ → Bool) → List ℕ → ℕ → Type 0
FindsUpTo test xs v = (w : ℕ) × (find test xs ≡ Some w) × (w ≤ v)

finds-by : (b : Bool) (test : ℕ → Bool) (x : ℕ) (xs : List ℕ) (v : ℕ) → test x ≡ b → x ≤ v → (b ≡ false → FindsUpTo test xs v) → FindsUpTo test (x ∷ xs) v
finds-by true test x xs v e below rest = (x, ap (λ t. cond t (Some x) (find test xs)) e, below)
finds-by false test x xs v e below rest =
    let it = rest refl in (it.0, ap (λ t. cond t (Some x) (find test xs)) e ∙ it.1, it.2)

pub finds : (test : ℕ → Bool) (low : ℕ) (xs : List ℕ) (v : ℕ) → RisesFrom low xs → Among v xs → test v ≡ true → FindsUpTo test xs v
unfolding Among
finds test low [] v rises among passes = absurd among
finds test low (x ∷ xs) v rises (inl e) passes =
    finds-by true test x xs v (subst (λ n. test n ≡ true) e passes) (omega (arith, e)) (λ no. absurd (cc))
finds test low (x ∷ xs) v rises (inr later) passes =
    finds-by _ test x xs v refl (at-least x xs v rises.1 later) (λ no. finds test x xs v rises.1 later passes)

-- What is found passes, and stands in the list.
found-by : (b : Bool) (test : ℕ → Bool) (x : ℕ) (xs : List ℕ) (w : ℕ) → test x ≡ b → cond b (Some x) (find test xs) ≡ Some w
    → (find test xs ≡ Some w → (test w ≡ true) × Among w xs) → (test w ≡ true) × Among w (x ∷ xs)
unfolding Among
found-by true test x xs w e is rest =
    let same : x ≡ w = cc in (subst (λ n. test n ≡ true) same e, inl (sym same))
found-by false test x xs w e is rest = let it = rest is in (it.0, inr it.1)

pub found : (test : ℕ → Bool) (xs : List ℕ) (w : ℕ) → find test xs ≡ Some w → (test w ≡ true) × Among w xs
unfolding Among
found test [] w is = absurd (cc)
found test (x ∷ xs) w is = found-by (test x) test x xs w refl is (found test xs w)

-- A test by cases of one number after another.
pub among-next : (x : ℕ) (here rest : Bool) (v : ℕ) (xs : List ℕ) → (if v == x then here else rest) ≡ true
    → (rest ≡ true → Among v xs) → Among v (x ∷ xs)
unfolding Among
among-next x here rest v xs is later =
    elim (v == x) as (λ b. (v == x) ≡ b → Among v (x ∷ xs)) [
      | true ↦ λ e. inl (grind (arith, nat_tests))
      | false ↦ λ e. inr (later (rw e at is))
    ] refl
