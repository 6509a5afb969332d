-- The rows of an image, written over erased flash one after another.
use Rattle.std.proofs.Common.{◌≡◌, ℕ, zero, suc, ◌+◌, ◌*◌, ◌-◌, ◌≤◌, Bool, true, false, eqb, List, [], ◌∷◌, ◌++◌, length, take, drop, set, replicate, if◌then◌else◌, refl, sym, ap, ◌∙◌, arith, append_assoc, append-nil}
use Rattle.std.proofs.Math.Nat.{sub-zero}
use Rattle.std.proofs.Math.Seq.{set-append_seam, take-append-add}
use Rattle.std.proofs.lemmas.List.{length-append, length-take, length-drop, take-append-drop, replicate-append-replicate, take_all}
use Rattle.std.proofs.lemmas.Bool.{and_parts, eqb-true}
use Rattle.std.specs.List.{list_all}
use Rattle.ihex.specs.Flash.{Placed, placed, written}
use Rattle.ihex.specs.Store.{row_of}

-- the data bytes of a row's record, and of those of the rows below row k
abbrev pub row_data : List ℕ → ℕ → List Placed
row_data image k = if list_all (λ b. eqb b 255) (row_of image k) then [] else placed (16 * k) (row_of image k)

abbrev pub rows_data : List ℕ → ℕ → List Placed
rows_data image zero = []
rows_data image (suc k) = rows_data image k ++ row_data image k

written-append : (image : List ℕ) (xs ys : List Placed) → written image (xs ++ ys) ≡ written (written image xs) ys
written-append image [] ys = refl
written-append image (p ∷ xs) ys = written-append (set image p.place p.byte) xs ys

-- a row over as many bytes, between others
written_row : (a b c row : List ℕ) (at : ℕ) → at ≡ length a → length b ≡ length row → written (a ++ (b ++ c)) (placed at row) ≡ a ++ (row ++ c)
written_row a [] c [] at e l = refl
written_row a [] c (r ∷ row) at e l = absurd (omega (arith, l))
written_row a (x ∷ b) c [] at e l = absurd (omega (arith, l))
written_row a (x ∷ b) c (r ∷ row) at e l =
    let one : set (a ++ x ∷ (b ++ c)) at r ≡ (a ++ r ∷ []) ++ (b ++ c) = rw e (set-append_seam a x (b ++ c) r ∙ sym (append_assoc a (r ∷ []) (b ++ c))) in
    ap (λ (image : List ℕ). written image (placed (at + 1) row)) one
    ∙ written_row (a ++ r ∷ []) b c row (at + 1) (rw length-append (omega (arith, e))) (omega (arith, l))
    ∙ append_assoc a (r ∷ []) (row ++ c)

-- a row of FF alone
erased_row : (row : List ℕ) → list_all (λ b. eqb b 255) row ≡ true → row ≡ replicate (length row) 255
erased_row [] all = refl
erased_row (b ∷ row) all =
    let both = and_parts _ _ all in
    ap (λ (x : ℕ). x ∷ row) (eqb-true b 255 both.0) ∙ ap (λ (xs : List ℕ). 255 ∷ xs) (erased_row row both.1)

-- the first m bytes and the 16 behind them
take_row : (image : List ℕ) (m : ℕ) → m ≤ length image → take (m + 16) image ≡ take m image ++ take 16 (drop m image)
take_row image m fits =
    let long : length (take m image) ≡ m = rw length-take (omega (arith, fits)) in
    ap (λ (xs : List ℕ). take (m + 16) xs) (sym (take-append-drop m image))
    ∙ ap (λ (n : ℕ). take (n + 16) (take m image ++ drop m image)) (sym long)
    ∙ take-append-add (take m image) (drop m image) 16

pub length_row : (image : List ℕ) (n k : ℕ) → length image ≡ n → 16 * k + 16 ≤ n → length (row_of image k) ≡ 16
length_row image n k size fits = rw (length-take, length-drop, size) (omega (arith, fits))

row_is : (image : List ℕ) (k : ℕ) → row_of image k ≡ take 16 (drop (16 * k) image)
row_is image k = let sixteen : 16 * k + 16 - 16 * k ≡ 16 = omega arith in ap (λ (m : ℕ). take m (drop (16 * k) image)) sixteen

step : (image : List ℕ) (n k : ℕ) (b : Bool) → list_all (λ b. eqb b 255) (row_of image k) ≡ b → length image ≡ n → 16 * k + 16 ≤ n
    → written (take (16 * k) image ++ replicate (n - 16 * k) 255) (if b then [] else placed (16 * k) (row_of image k)) ≡ take (16 * k + 16) image ++ replicate (n - (16 * k + 16)) 255
step image n k b is size fits =
    let row = row_of image k in
    let rest : List ℕ = replicate (n - (16 * k + 16)) 255 in
    let long : length (take (16 * k) image) ≡ 16 * k = rw (length-take, size) (omega (arith, fits)) in
    let sixteen : length row ≡ 16 = length_row image n k size fits in
    let left : replicate (n - 16 * k) 255 ≡ replicate 16 255 ++ rest =
    let parts : n - 16 * k ≡ 16 + (n - (16 * k + 16)) = omega (arith, fits) in
    ap (λ (m : ℕ). replicate m 255) parts ∙ sym (replicate-append-replicate 16 (n - (16 * k + 16)) 255) in
    let front : take (16 * k + 16) image ≡ take (16 * k) image ++ row =
    take_row image (16 * k) (omega (arith, size, fits)) ∙ ap (λ (r : List ℕ). take (16 * k) image ++ r) (sym (row_is image k)) in
    let whole : (take (16 * k) image ++ row) ++ rest ≡ take (16 * k + 16) image ++ rest = ap (λ (f : List ℕ). f ++ rest) (sym front) in
    let as_parts : take (16 * k) image ++ replicate (n - 16 * k) 255 ≡ take (16 * k) image ++ (replicate 16 255 ++ rest) = ap (λ (r : List ℕ). take (16 * k) image ++ r) left in
    elim b as (λ v. list_all (λ b. eqb b 255) row ≡ v → written (take (16 * k) image ++ replicate (n - 16 * k) 255) (if v then [] else placed (16 * k) row) ≡ take (16 * k + 16) image ++ rest) [
      | true ↦ λ all.
          as_parts
          ∙ ap (λ (r : List ℕ). take (16 * k) image ++ (r ++ rest)) (sym (erased_row row all ∙ ap (λ (m : ℕ). replicate m 255) sixteen))
          ∙ sym (append_assoc (take (16 * k) image) row rest) ∙ whole
      | false ↦ λ some.
          ap (λ (i : List ℕ). written i (placed (16 * k) row)) as_parts
          ∙ written_row (take (16 * k) image) (replicate 16 255) rest row (16 * k) (sym long) (sym sixteen)
          ∙ sym (append_assoc (take (16 * k) image) row rest) ∙ whole
    ] is

-- the rows below row k are written, and FF stands behind them
pub rows_written : (image : List ℕ) (n k : ℕ) → length image ≡ n → 16 * k ≤ n → written (replicate n 255) (rows_data image k) ≡ take (16 * k) image ++ replicate (n - 16 * k) 255
rows_written image n zero size fits = ap (λ (m : ℕ). replicate m 255) (sym (sub-zero n))
rows_written image n (suc k) size fits =
    written-append (replicate n 255) (rows_data image k) (row_data image k)
    ∙ ap (λ (i : List ℕ). written i (row_data image k)) (rows_written image n k size (omega (arith, fits)))
    ∙ step image n k (list_all (λ b. eqb b 255) (row_of image k)) refl size (omega (arith, fits))
    ∙ (let next : 16 * k + 16 ≡ 16 * suc k = omega arith in ap (λ (m : ℕ). take m image ++ replicate (n - m) 255) next)

-- all rows are written
pub all_written : (image : List ℕ) (n k : ℕ) → length image ≡ n → n ≡ 16 * k → written (replicate n 255) (rows_data image k) ≡ image
all_written image n k size whole =
    let none : n - 16 * k ≡ 0 = omega (arith, whole) in
    rows_written image n k size (omega (arith, whole))
    ∙ ap (λ (m : ℕ). take (16 * k) image ++ replicate m 255) none
    ∙ append-nil (take (16 * k) image)
    ∙ take_all (16 * k) image (omega (arith, size, whole))
