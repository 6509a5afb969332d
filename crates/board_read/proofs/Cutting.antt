-- A text, cut at the first place of a byte.
use Rattle.std.proofs.Common.{◌≡◌, ◌<◌, ◌≤◌, ◌+◌, ℕ, Bool, true, false, List, [], ◌∷◌, length, take, drop, cond, None, Some, refl, arith}
use Rattle.std.specs.List.{position, position_or_len, slice_split}
use Rattle.std.proofs.lemmas.List.Splits.{slice_split_first, slice_split_none}
use Rattle.std.proofs.lemmas.List.Sums.{position_or_len_is, fails_before_first}
use Rattle.std.proofs.lemmas.List.Quantifiers.{position-Some}
use Rattle.std.proofs.lemmas.List.Elements.{All-from_get_or}
use Rattle.std.proofs.lemmas.Bool.{ltb-false}

none_past : (b : Bool) (n : ℕ) → cond b (Some n) None ≡ None → b ≡ false
none_past true n e = cc
none_past false n e = refl

-- the byte is not in it
pub cut_none : (p : ℕ → Bool) (xs : List ℕ) → position p xs ≡ None → slice_split p xs ≡ xs ∷ []
cut_none p xs none =
    let far : length xs ≤ position_or_len p xs = ltb-false _ _ (none_past _ _ none) in
    slice_split_none p xs (All-from_get_or (λ (x : ℕ). p x ≡ false) xs 0 (λ k below. fails_before_first p xs k 0 (omega (arith, below, far))))

-- the byte is at this place
pub cut_some : (p : ℕ → Bool) (xs : List ℕ) (i : ℕ) → position p xs ≡ Some i → (i < length xs) × (slice_split p xs ≡ take i xs ∷ slice_split p (drop (i + 1) xs))
cut_some p xs i found =
    let at = position-Some p xs i 0 found in
    let is : position_or_len p xs ≡ i = position_or_len_is p xs i 0 (omega (arith, at.0)) (λ k below. at.2 k below) (λ below. at.1) in
    (at.0, rw is at (slice_split_first p xs 0 (rw is at.0)))
