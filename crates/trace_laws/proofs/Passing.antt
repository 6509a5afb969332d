-- Texts of which each byte passes a test, and texts cut where one does not stand.
use Rattle.std.proofs.Common.{◌≡◌, ◌==◌, ◌&&◌, ℕ, Bool, true, false, not, List, [], ◌∷◌, ◌++◌, refl, ap, ◌∙◌}
use Rattle.std.specs.List.{join_with_byte, list_all, slice_split, onto_first}
use Rattle.std.proofs.lemmas.List.Folds.{list_all-append}
use Rattle.std.proofs.lemmas.List.Splits.{slice_split-cons_yes, slice_split-cons_no}
use Rattle.std.proofs.lemmas.Bool.{eq-eqb}

-- each byte passes
abbrev pub Passes : (ℕ → Bool) → List ℕ → Type 0
Passes q xs = list_all q xs ≡ true

-- each byte is another one
abbrev pub other : ℕ → ℕ → Bool
other c x = not (x == c)

abbrev pub Free : ℕ → List ℕ → Type 0
Free c xs = Passes (other c) xs

pub both : (a b : Bool) → (a && b) ≡ true → (a ≡ true) × (b ≡ true)
both true b h = (refl, h)
both false b h = absurd (cc h)

not_true : (b : Bool) → not b ≡ true → b ≡ false
not_true true h = absurd (cc h)
not_true false h = refl

pub passes_both : (q : ℕ → Bool) (xs ys : List ℕ) → Passes q xs → Passes q ys → Passes q (xs ++ ys)
passes_both q xs ys first second = list_all-append q xs ys ∙ ap (λ b. b && list_all q ys) first ∙ second

pub passes_then : (q : ℕ → Bool) (x : ℕ) (xs : List ℕ) → q x ≡ true → Passes q xs → Passes q (x ∷ xs)
passes_then q x xs first rest = ap (λ b. b && list_all q xs) first ∙ rest

-- each byte of each part passes
abbrev pub EachPasses : (ℕ → Bool) → List (List ℕ) → Type 0
EachPasses q [] = Unit {0}
EachPasses q (part ∷ parts) = Passes q part × EachPasses q parts

pub passes_joined : (q : ℕ → Bool) (c : ℕ) (parts : List (List ℕ)) → q c ≡ true → EachPasses q parts → Passes q (join_with_byte c parts)
passes_joined q c [] is each = refl
passes_joined q c (part ∷ []) is (first, rest) = first
passes_joined q c (part ∷ next ∷ more) is (first, rest) =
    passes_both q part (c ∷ join_with_byte c (next ∷ more)) first (passes_then q c (join_with_byte c (next ∷ more)) is (passes_joined q c (next ∷ more) is rest))

-- a text without the byte
pub split_free : (c : ℕ) (xs : List ℕ) → Free c xs → slice_split (λ b. b == c) xs ≡ xs ∷ []
split_free c [] free = refl
split_free c (x ∷ xs) free =
    let k = both (other c x) (list_all (other c) xs) free in
    slice_split-cons_no (λ b. b == c) x xs (not_true (x == c) k.0) ∙ ap (onto_first x) (split_free c xs k.1)

-- and one behind which it stands
pub split_first : (c : ℕ) (xs rest : List ℕ) → Free c xs → slice_split (λ b. b == c) (xs ++ c ∷ rest) ≡ xs ∷ slice_split (λ b. b == c) rest
split_first c [] rest free = slice_split-cons_yes (λ b. b == c) c rest (eq-eqb c c refl)
split_first c (x ∷ xs) rest free =
    let k = both (other c x) (list_all (other c) xs) free in
    slice_split-cons_no (λ b. b == c) x (xs ++ c ∷ rest) (not_true (x == c) k.0) ∙ ap (onto_first x) (split_first c xs rest k.1)

-- parts that are joined and cut again
pub split_joined : (c : ℕ) (part : List ℕ) (parts : List (List ℕ)) → EachPasses (other c) (part ∷ parts) → slice_split (λ b. b == c) (join_with_byte c (part ∷ parts)) ≡ part ∷ parts
split_joined c part [] (first, rest) = split_free c part first
split_joined c part (next ∷ more) (first, rest) =
    split_first c part (join_with_byte c (next ∷ more)) first ∙ ap (λ (ps : List (List ℕ)). part ∷ ps) (split_joined c next more rest)
