-- A list that is judged from its front.
use Rattle.std.proofs.Common.{◌≡◌, ℕ, ◌+◌, ◌<◌, List, [], ◌∷◌, ◌++◌, length, drop, get_or, BTreeMap, String, Global, Bor, Result, Ok, Err, refl, sym, ap, ◌∙◌, append_assoc, add-one, drop-cons}
use Rattle.toml.specs.Data.{Members}
use Rattle.toml.specs.View.{table_view}
use Rattle.toml.specs.declared.value.Value.{Value}
use Rattle.board_file.specs.Views.{tables}
use Rattle.board_file.specs.Judged.{◌>>=◌, each_from}

-- what is left, behind what is done
abbrev pub with_done : {B E : Type 0} → List B → Result (List B) E → Result (List B) E
with_done done (Ok rest) = Ok (done ++ rest)
with_done done (Err e) = Err e

pub done_none : {B E : Type 0} (rest : Result (List B) E) → with_done [] rest ≡ rest
done_none (Ok rest) = refl
done_none (Err e) = refl

front_more : {B E : Type 0} (done : List B) (y : B) (rest : Result (List B) E) → with_done (done ++ y ∷ []) rest ≡ with_done done (rest >>= (λ ys. Ok (y ∷ ys)))
front_more done y (Ok rest) = ap Ok (append_assoc done (y ∷ []) rest)
front_more done y (Err e) = refl

-- one more is judged
pub done_more : {A B E : Type 0} (judge : ℕ → A → Result B E) (done : List B) (n : ℕ) (x : A) (y : B) (xs : List A) → judge n x ≡ Ok y
    → with_done (done ++ y ∷ []) (each_from judge (n + 1) xs) ≡ with_done done (each_from judge n (x ∷ xs))
done_more judge done n x y xs is =
    front_more done y (each_from judge (n + 1) xs)
    ∙ ap (λ (r : Result _ _). with_done done (r >>= (λ z. each_from judge (n + 1) xs >>= (λ zs. Ok (z ∷ zs))))) (sym is)

-- one is faulty
pub done_fault : {A B E : Type 0} (judge : ℕ → A → Result B E) (done : List B) (n : ℕ) (x : A) (e : E) (xs : List A) → judge n x ≡ Err e
    → with_done done (each_from judge n (x ∷ xs)) ≡ Err e
done_fault judge done n x e xs is =
    ap (λ (r : Result _ _). with_done done (r >>= (λ z. each_from judge (n + 1) xs >>= (λ zs. Ok (z ∷ zs))))) is

-- the same of tables that references show
pub done_table : {B E : Type 0} (judge : ℕ → Members → Result B E) (done : List B) (n : ℕ) (t : Bor (BTreeMap (String Global) Value)) (y : B) (ts : List (Bor (BTreeMap (String Global) Value))) → n < length ts → t ≡ get_or ts n t
    → judge n (table_view t.now) ≡ Ok y → with_done (done ++ y ∷ []) (each_from judge (n + 1) (tables (drop (n + 1) ts))) ≡ with_done done (each_from judge n (tables (drop n ts)))
done_table judge done n t y ts below at is =
    let parts : drop n ts ≡ get_or ts n t ∷ drop (n + 1) ts = rw add-one (drop-cons ts n t below) in
    done_more judge done n (table_view t.now) y (tables (drop (n + 1) ts)) is
    ∙ ap (λ (u : Bor _). with_done done (each_from judge n (table_view u.now ∷ tables (drop (n + 1) ts)))) at
    ∙ ap (λ (us : List _). with_done done (each_from judge n (tables us))) (sym parts)
