-- Walks over a list from its first element on, and over what happened, whose newest is its first.
use Rattle.std.proofs.Common.{◌≡◌, ℕ, zero, suc, ◌+◌, ◌≤◌, Bool, cond, List, [], ◌∷◌, ◌++◌, length, take, reverse, slice_get, None, Some, refl, sym, ap, ◌∙◌, arith, append-nil, add-one}
use Rattle.std.proofs.Math.Seq.{take-nil}
use Rattle.std.specs.List.{count_by, flat_map}
use Rattle.std.proofs.lemmas.List.{length-reverse, reverse-append, take_all}
use Rattle.std.proofs.lemmas.Grind.{flat_map-append}
use Rattle.std.proofs.lemmas.List.Sums.{sum_by-append, sum_by-cons}

-- the first elements and the next one
pub take_got : {X : Type 0} (xs : List X) (i : ℕ) (x : X) → slice_get xs i ≡ Some x → take (i + 1) xs ≡ take i xs ++ x ∷ []
take_got [] i x is = cc
take_got (y ∷ xs) zero x is = cc
take_got (y ∷ xs) (suc i) x is = rw add-one (ap (λ ys. y ∷ ys) ((rw add-one at (take_got xs i x is))))

-- no more elements than all
pub take_past : {X : Type 0} (xs : List X) (i n : ℕ) → slice_get xs i ≡ None → i ≤ n → take i xs ≡ take n xs
take_past [] i n is le = take-nil i ∙ sym (take-nil n)
take_past (y ∷ xs) zero n is le = cc
take_past (y ∷ xs) (suc i) zero is le = absurd (omega arith)
take_past (y ∷ xs) (suc i) (suc n) is le = ap (λ ys. y ∷ ys) (take_past xs i n is (omega arith))

-- the newest is the last from the oldest on
pub reverse_more : {X : Type 0} (x : X) (xs : List X) → reverse (x ∷ xs) ≡ reverse xs ++ x ∷ []
reverse_more x xs = reverse-append (x ∷ []) xs

-- what is made of one element
flat_one : {X : Type 0} (f : X → List ℕ) (x : X) → flat_map f (x ∷ []) ≡ f x
flat_one f x = append-nil (f x)

-- what is made of each element, one after another
pub flat_more : {X : Type 0} (f : X → List ℕ) (xs : List X) (x : X) → flat_map f (xs ++ x ∷ []) ≡ flat_map f xs ++ f x
flat_more f xs x = flat_map-append f xs (x ∷ []) ∙ ap (λ (t : List ℕ). flat_map f xs ++ t) (flat_one f x)

pub flat_got : {X : Type 0} (f : X → List ℕ) (xs : List X) (i : ℕ) (x : X) → slice_get xs i ≡ Some x → flat_map f (take (i + 1) xs) ≡ flat_map f (take i xs) ++ f x
flat_got f xs i x is = ap (flat_map f) (take_got xs i x is) ∙ flat_more f (take i xs) x

-- how many elements pass
pub count_more : {X : Type 0} (p : X → Bool) (xs : List X) (x : X) → count_by p (xs ++ x ∷ []) ≡ count_by p xs + cond (p x) 1 0
count_more p xs x =
    let one : count_by p (x ∷ []) ≡ cond (p x) 1 0 = sum_by-cons (λ y. cond (p y) 1 0) x [] ∙ omega arith in
    sum_by-append (λ y. cond (p y) 1 0) xs (x ∷ []) ∙ ap (λ n. count_by p xs + n) one

pub count_got : {X : Type 0} (p : X → Bool) (xs : List X) (i : ℕ) (x : X) → slice_get xs i ≡ Some x → count_by p (take (i + 1) xs) ≡ count_by p (take i xs) + cond (p x) 1 0
count_got p xs i x is = ap (count_by p) (take_got xs i x is) ∙ count_more p (take i xs) x

pub count_reverse : {X : Type 0} (p : X → Bool) (xs : List X) → count_by p (reverse xs) ≡ count_by p xs
count_reverse p [] = refl
count_reverse p (x ∷ xs) =
    ap (count_by p) (reverse_more x xs) ∙ count_more p (reverse xs) x ∙ ap (λ n. n + cond (p x) 1 0) (count_reverse p xs)
    ∙ omega (arith, sum_by-cons (λ y. cond (p y) 1 0) x xs)

-- one more element is looked at
pub count_next : {X : Type 0} (p : X → Bool) (xs : List X) (i : ℕ) (x : X) (n one : ℕ) (b : Bool) → slice_get xs i ≡ Some x → b ≡ p x → one ≡ cond b 1 0
    → n ≡ count_by p (take i xs) → n + one ≡ count_by p (take (i + 1) xs)
count_next p xs i x n one b at is counts so_far = (rw (so_far, counts, is) refl) ∙ sym (count_got p xs i x at)

-- all were looked at, the oldest first
pub count_whole : {X : Type 0} (p : X → Bool) (xs : List X) (i n : ℕ) → length xs ≤ i → n ≡ count_by p (take i (reverse xs)) → n ≡ count_by p xs
count_whole p xs i n all so_far =
    let whole : length (reverse xs) ≤ i = rw length-reverse all in
    so_far ∙ ap (count_by p) (take_all i (reverse xs) whole) ∙ count_reverse p xs
