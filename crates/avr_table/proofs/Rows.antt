-- What follows from the rows as a list: no word fits two, and the one that fits is what a word says.
use Rattle.std.proofs.Common.{◌≡◌, ℕ, zero, suc, Bool, true, false, List, [], ◌∷◌, refl, ap, sym, ◌∙◌, arith, ◌⊎◌, inl, inr}
use Rattle.std.specs.Prelude.{bit_and, Some, slice_get, Ok, Err, ◌==◌, ◌&&◌, if◌then◌else◌}
use Rattle.std.proofs.lemmas.Nat.{and_assoc, and_comm}
use Rattle.std.proofs.lemmas.Bool.Decides.{nat_tests}
use Rattle.avr_table.specs.Row.{Row, fits, instr_of}
use Rattle.avr_table.specs.Rows.{rows}
use Rattle.avr_table.specs.Decoded.{decoded, decoded_by, checked, is_undefined, OnlyOneRow, SaysItsRow, IllegalFitsNone}
use Rattle.avr_table.specs.declared.instr.Instr.{Instr}
use Rattle.avr_table.specs.declared.fault.DecodeFault.TheVariants.{Illegal, Undefined}

-- Two rows that differ at a bit which both fix.
abbrev pub is_apart : Row → Row → Bool
is_apart one other = if bit_and one.bits other.mask == bit_and other.bits one.mask then false else true

abbrev pub is_apart_from : Row → List Row → Bool
is_apart_from one [] = true
is_apart_from one (other ∷ rows) = is_apart one other && is_apart_from one rows

abbrev pub are_apart : List Row → Bool
are_apart [] = true
are_apart (row ∷ rows) = is_apart_from row rows && are_apart rows

pub all_apart : are_apart rows ≡ true
all_apart = refl

-- What both masks leave of the word is what the other's mask leaves of either's bits.
both : (w m v n u : ℕ) → bit_and m w ≡ v → bit_and n w ≡ u → bit_and v n ≡ bit_and u m
both w m v n u one other =
    ap (λ x. bit_and x n) (sym one) ∙ and_assoc n m w ∙ ap (λ x. bit_and m x) (and_comm w n ∙ other) ∙ and_comm m u

is_from_test : (a b : ℕ) → (a == b) ≡ true → a ≡ b
is_from_test a b h = grind (arith, nat_tests)

pub test_from_is : (a b : ℕ) → a ≡ b → (a == b) ≡ true
test_from_is a b h = grind (arith, nat_tests)

pub test_from_not : (a b : ℕ) → (a ≡ b → ⊥) → (a == b) ≡ false
test_from_not a b h = grind (arith, nat_tests)

-- Rows that are apart fit no word together.
pub clash : (one other : Row) (w : ℕ) → is_apart one other ≡ true → fits one w ≡ true → fits other w ≡ true → ⊥
clash one other w apart first second =
    let same = test_from_is _ _ (both w one.mask one.bits other.mask other.bits (is_from_test _ _ first) (is_from_test _ _ second)) in
    cc

pub first_and : (a b : Bool) → (a && b) ≡ true → a ≡ true
first_and true b h = refl
first_and false b h = h

pub second_and : (a b : Bool) → (a && b) ≡ true → b ≡ true
second_and true b h = h
second_and false b h = absurd (cc)

apart_at : (one other : Row) (rs : List Row) (j : ℕ) → is_apart_from one rs ≡ true → slice_get rs j ≡ Some other → is_apart one other ≡ true
apart_at one other [] j apart at = absurd (cc)
apart_at one other (x ∷ rs) zero apart at = let e : x ≡ other = cc in ap (is_apart one) (sym e) ∙ first_and _ _ apart
apart_at one other (x ∷ rs) (suc j) apart at = apart_at one other rs j (second_and (is_apart one x) _ apart) at

only : (rs : List Row) → are_apart rs ≡ true → OnlyOneRow rs
only [] apart i j one other w at_i at_j fit_i fit_j = absurd (cc)
only (x ∷ rs) apart zero zero one other w at_i at_j fit_i fit_j = refl
only (x ∷ rs) apart zero (suc j) one other w at_i at_j fit_i fit_j =
    let e : x ≡ one = cc in absurd (clash x other w (apart_at x other rs j (first_and _ _ apart) at_j) (ap (λ r. fits r w) e ∙ fit_i) fit_j)
only (x ∷ rs) apart (suc i) zero one other w at_i at_j fit_i fit_j =
    let e : x ≡ other = cc in absurd (clash x one w (apart_at x one rs i (first_and _ _ apart) at_i) (ap (λ r. fits r w) e ∙ fit_j) fit_i)
only (x ∷ rs) apart (suc i) (suc j) one other w at_i at_j fit_i fit_j =
    ap suc (only rs (second_and (is_apart_from x rs) _ apart) i j one other w at_i at_j fit_i fit_j)

pub only_one_row : OnlyOneRow rows
only_one_row = only rows all_apart

-- The first row is the one that fits, or it is not.
pub at_first : (x : Row) (rs : List Row) (w n : ℕ) → fits x w ≡ true → decoded_by (x ∷ rs) w n ≡ checked (instr_of x w n)
at_first x rs w n fit = rw (fit, decoded_by) refl

pub past_first : (x : Row) (rs : List Row) (w n : ℕ) → fits x w ≡ false → decoded_by (x ∷ rs) w n ≡ decoded_by rs w n
past_first x rs w n fit = rw (fit, decoded_by) refl

pub is_either : (b : Bool) → (b ≡ true) ⊎ (b ≡ false)
is_either true = inl refl
is_either false = inr refl

says : (rs : List Row) → are_apart rs ≡ true → (i : ℕ) (row : Row) (w n : ℕ) → slice_get rs i ≡ Some row → fits row w ≡ true
    → decoded_by rs w n ≡ checked (instr_of row w n)
says [] apart i row w n at fit = absurd (cc)
says (x ∷ rs) apart zero row w n at fit =
    let e : x ≡ row = cc in at_first x rs w n (ap (λ r. fits r w) e ∙ fit) ∙ ap (λ r. checked (instr_of r w n)) e
says (x ∷ rs) apart (suc i) row w n at fit =
    elim (is_either (fits x w)) [
      | inl here ↦ absurd (clash x row w (apart_at x row rs i (first_and _ _ apart) at) here fit)
      | inr past ↦ past_first x rs w n past ∙ says rs (second_and (is_apart_from x rs) _ apart) i row w n at fit
    ]

pub says_its_row : SaysItsRow rows
unfolding decoded
says_its_row i row w n at fit = says rows all_apart i row w n at fit

-- A checked instruction is never Illegal.
not_illegal : (i : Instr) → checked i ≡ Err Illegal → ⊥
not_illegal i h = elim (is_either (is_undefined i)) [
  | inl undefined ↦ let e : checked i ≡ Err Undefined = rw undefined refl in cc
  | inr defined ↦ let e : checked i ≡ Ok i = rw defined refl in cc
]

fits_none : (rs : List Row) (w n : ℕ) → decoded_by rs w n ≡ Err Illegal
    → (i : ℕ) (row : Row) → slice_get rs i ≡ Some row → fits row w ≡ false
fits_none [] w n illegal i row at = absurd (cc)
fits_none (x ∷ rs) w n illegal zero row at =
    let e : x ≡ row = cc in
    elim (is_either (fits x w)) [
      | inl here ↦ absurd (not_illegal (instr_of x w n) (sym (at_first x rs w n here) ∙ illegal))
      | inr past ↦ ap (λ r. fits r w) (sym e) ∙ past
    ]
fits_none (x ∷ rs) w n illegal (suc i) row at =
    elim (is_either (fits x w)) [
      | inl here ↦ absurd (not_illegal (instr_of x w n) (sym (at_first x rs w n here) ∙ illegal))
      | inr past ↦ fits_none rs w n (sym (past_first x rs w n past) ∙ illegal) i row at
    ]

illegal_where_none : (rs : List Row) (w n : ℕ) → ((i : ℕ) (row : Row) → slice_get rs i ≡ Some row → fits row w ≡ false)
    → decoded_by rs w n ≡ Err Illegal
illegal_where_none [] w n none = refl
illegal_where_none (x ∷ rs) w n none =
    past_first x rs w n (none zero x refl) ∙ illegal_where_none rs w n (λ i row at. none (suc i) row at)

pub illegal_fits_none : IllegalFitsNone rows
unfolding decoded
illegal_fits_none w n = (fits_none rows w n, illegal_where_none rows w n)
