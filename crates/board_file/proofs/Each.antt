-- A list made of parts, read from its front.
use Rattle.std.proofs.Common.{◌≡◌, List, [], ◌∷◌, ◌++◌, Option, Some, None, option_map, refl, sym, ap, ◌∙◌, append_assoc}
use Rattle.std.specs.Option.{option_and_then}
use Rattle.board_read.specs.Lists.{each}

-- the answer for what is left, behind what is done
abbrev pub with_front : {B : Type 0} → List B → Option (List B) → Option (List B)
with_front front rest = option_map (λ ys. front ++ ys) rest

front_more : {B : Type 0} (front : List B) (y : B) (rest : Option (List B)) → with_front (front ++ y ∷ []) rest ≡ with_front front (option_map (λ ys. y ∷ ys) rest)
front_more front y None = refl
front_more front y (Some ys) = ap Some (append_assoc front (y ∷ []) ys)

-- one more is done
pub each_more : {A B : Type 0} (f : A → Option B) (front : List B) (x : A) (y : B) (xs : List A) → f x ≡ Some y → with_front (front ++ y ∷ []) (each f xs) ≡ with_front front (each f (x ∷ xs))
each_more f front x y xs is =
    front_more front y (each f xs)
    ∙ ap (λ (o : Option _). with_front front (option_and_then (λ z. option_map (λ zs. z ∷ zs) (each f xs)) o)) (sym is)

-- one that gives nothing leaves nothing of all
pub each_none : {A B : Type 0} (f : A → Option B) (front : List B) (x : A) (xs : List A) → f x ≡ None → with_front front (each f (x ∷ xs)) ≡ None
each_none f front x xs is =
    ap (λ (o : Option _). with_front front (option_and_then (λ z. option_map (λ zs. z ∷ zs) (each f xs)) o)) is
