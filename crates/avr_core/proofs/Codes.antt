-- The ops of a flash, one more at a time.
use Rattle.std.proofs.Common.{◌≡◌, ◌⊎◌, inl, inr, ℕ, zero, suc, ◌<◌, get_or, arith, List, [], ◌∷◌, ◌++◌, length, Option, Some, None, refl, sym, ap, subst}
use Rattle.std.specs.Prelude.{slice_get}
use Rattle.std.proofs.lemmas.Option.{none-some}
use Rattle.avr_core.specs.Code.{said_at}
use Rattle.avr_core.specs.Ops.{IsOp}
use Rattle.avr_core.specs.declared.op.Op.{Op}

record IsLast {X : Type 0} (xs : List X) (k : ℕ) (x y : X) : Type 0 where
  pub at : k ≡ length xs
  pub is : x ≡ y

from-some : {X : Type 0} → X → Option X → X
from-some d None = d
from-some d (Some x) = x

some-same : {X : Type 0} (x y : X) → Some x ≡ Some y → x ≡ y
unfolding from-some
some-same x y is = ap (from-some x) is

slice_get-push : {X : Type 0} (xs : List X) (x y : X) (k : ℕ) → slice_get (xs ++ y ∷ []) k ≡ Some x → (slice_get xs k ≡ Some x) ⊎ IsLast xs k x y
slice_get-push [] x y zero is = inr (record { at = refl; is = sym (some-same y x is) })
slice_get-push [] x y (suc k) is = absurd (none-some x is)
slice_get-push (z ∷ xs) x y zero is = inl is
slice_get-push (z ∷ xs) x y (suc k) is = elim (slice_get-push xs x y k is) [
  | inl e ↦ inl e
  | inr e ↦ inr (record { at = ap suc e.at; is = e.is })
]

pub ops-push : (image : List ℕ) (ops : List Op) (n : ℕ) (y : Op) → length ops ≡ n
    → ((k : ℕ) (op : Op) → slice_get ops k ≡ Some op → IsOp op (said_at image k)) → IsOp y (said_at image n)
    → (k : ℕ) (op : Op) → slice_get (ops ++ y ∷ []) k ≡ Some op → IsOp op (said_at image k)
ops-push image ops n y count each is k op at = elim (slice_get-push ops op y k at) [
  | inl e ↦ each k op e
  | inr e ↦ subst (λ o. IsOp o (said_at image k)) (sym e.is) (subst (λ m. IsOp y (said_at image m)) (sym (subst (λ m. k ≡ m) count e.at)) is)
]

-- An element that was read at a place of the list is the one there.
pub got : {X : Type 0} (xs : List X) (k : ℕ) (x : X) → k < length xs → x ≡ get_or xs k x → slice_get xs k ≡ Some x
got [] k x in_it is = absurd (omega arith)
got (y ∷ ys) zero x in_it is = ap Some (sym is)
got (y ∷ ys) (suc k) x in_it is = got ys k x (omega arith) is
