-- How many words an instruction takes, and how many the word takes that says it.
use Rattle.std.proofs.Common.{◌≡◌, ℕ, zero, suc, ◌/◌, ◌%◌, ◌<◌, Bool, true, false, List, [], ◌∷◌, refl, ap, sym, subst, ◌∙◌, arith, inl, inr, ◌⊎◌}
use Rattle.std.specs.Prelude.{◌==◌, ◌&&◌, ◌||◌, filter, if◌then◌else◌, slice_get, Some, Result, Ok, Err, IfOk}
use Rattle.std.proofs.lemmas.Bool.Decides.{nat_tests}
use Rattle.avr_table.specs.Row.{Row, fits, instr_of}
use Rattle.avr_table.specs.Rows.{rows}
use Rattle.avr_table.specs.Decoded.{decoded, decoded_by, checked, is_undefined}
use Rattle.avr_table.specs.Words.{fits_long, fits_long_by, long_rows, words_of, words_at}
use Rattle.avr_table.specs.declared.instr.Instr.{Instr}
use Rattle.avr_table.specs.declared.fault.DecodeFault.{DecodeFault}
use Rattle.avr_table.specs.declared.instr.Instr.TheVariants as instrs
use Rattle.avr_table.specs.declared.instr.Moves.TheVariants.{Lds, Sts}
use Rattle.avr_table.specs.declared.instr.Jumps.TheVariants.{Jmp, Call}
use Rattle.avr_table.specs.declared.fault.DecodeFault.TheVariants.{Undefined}
use Rattle.avr_sheet.proofs.Table.{table, same_at}
use Rattle.avr_table.proofs.Alike.{begins, not_fitting}
use Rattle.avr_table.proofs.Rows.{at_first, past_first, is_either, clash, is_apart, is_apart_from, are_apart, all_apart, first_and, second_and, test_from_is, test_from_not}

-- The test of the code.
abbrev pub long_of : ℕ → Bool
long_of w =
    if w / 1024 == 36 then w % 16 == 0
    else if w / 1024 == 37 then w / 512 % 2 == 0 && w / 4 % 4 == 3
    else false

long_agrees : table (λ (rs : List Row) w. long_of w) long_rows 36864 4096 ≡ table (λ rs w. fits_long_by rs w) long_rows 36864 4096
long_agrees = refl

-- Each of the four rows begins with 1001, so that a word of another nibble fits none.
abbrev begins_any : ℕ → List Row → Bool
begins_any nibble [] = false
begins_any nibble (x ∷ rs) = begins nibble x || begins_any nibble rs

begin_with_1001 : table (λ (rs : List Row) nibble. begins_any nibble rs) long_rows 0 16 ≡ table (λ rs nibble. nibble == 9) long_rows 0 16
begin_with_1001 = refl

first_or : (a b : Bool) → (a || b) ≡ false → a ≡ false
first_or true b h = absurd (cc)
first_or false b h = refl

second_or : (a b : Bool) → (a || b) ≡ false → b ≡ false
second_or true b h = absurd (cc)
second_or false b h = h

fits_none_of : (nibble : ℕ) (rs : List Row) (w : ℕ) → w / 4096 ≡ nibble → begins_any nibble rs ≡ false → fits_long_by rs w ≡ false
fits_none_of nibble [] w is none = refl
fits_none_of nibble (x ∷ rs) w is none =
    ap (λ b. b || fits_long_by rs w) (not_fitting nibble x w is (first_or (begins nibble x) _ none))
    ∙ fits_none_of nibble rs w is (second_or (begins nibble x) _ none)

other_nibble : (w : ℕ) → w < 65536 → (w / 4096 == 9) ≡ false → long_of w ≡ fits_long_by long_rows w
other_nibble w high other =
    let none : begins_any (w / 4096) long_rows ≡ false =
    same_at (λ (rs : List Row) nibble. begins_any nibble rs) (λ rs nibble. nibble == 9) long_rows 0 16 begin_with_1001 (w / 4096) (omega arith) (omega arith) ∙ other in
    let not36 : (w / 1024 == 36) ≡ false = test_from_not _ _ (λ h. let nine : w / 4096 ≡ 9 = omega arith in let is = test_from_is _ _ nine in cc) in
    let not37 : (w / 1024 == 37) ≡ false = test_from_not _ _ (λ h. let nine : w / 4096 ≡ 9 = omega arith in let is = test_from_is _ _ nine in cc) in
    let short : long_of w ≡ false = rw (not36, not37) refl in
    short ∙ sym (fits_none_of (w / 4096) long_rows w refl none)

is_from_nine : (w : ℕ) → (w / 4096 == 9) ≡ true → w / 4096 ≡ 9
is_from_nine w h = grind (arith, nat_tests)

pub same_long : (w : ℕ) → w < 65536 → long_of w ≡ fits_long w
unfolding fits_long
same_long w high = elim (is_either (w / 4096 == 9)) [
  | inl nine ↦
      let is = is_from_nine w nine in
      same_at (λ (rs : List Row) v. long_of v) (λ rs v. fits_long_by rs v) long_rows 36864 4096 long_agrees w (omega arith) (omega arith)
  | inr other ↦ other_nibble w high other
]

pub long_36 : (w : ℕ) → w < 65536 → w / 1024 ≡ 36 → (w % 16 == 0) ≡ fits_long w
long_36 w high h =
    let test : (w / 1024 == 36) ≡ true = test_from_is _ _ h in
    let e : long_of w ≡ (w % 16 == 0) = rw test refl in
    sym e ∙ same_long w high

pub long_37 : (w : ℕ) → w < 65536 → w / 1024 ≡ 37 → w / 512 % 2 ≡ 0 → (w / 4 % 4 == 3) ≡ fits_long w
long_37 w high h even =
    let other : (w / 1024 == 36) ≡ false = ap (λ n. n == 36) h in
    let test : (w / 1024 == 37) ≡ true = test_from_is _ _ h in
    let bit : (w / 512 % 2 == 0) ≡ true = test_from_is _ _ even in
    let e : long_of w ≡ (w / 4 % 4 == 3) = rw (other, test, bit) refl in
    sym e ∙ same_long w high

pub short_37 : (w : ℕ) → w < 65536 → w / 1024 ≡ 37 → (w / 512 % 2 ≡ 0 → ⊥) → (w / 512 % 2 == 0) ≡ fits_long w
short_37 w high h odd =
    let other : (w / 1024 == 36) ≡ false = ap (λ n. n == 36) h in
    let test : (w / 1024 == 37) ≡ true = test_from_is _ _ h in
    let bit : (w / 512 % 2 == 0) ≡ false = test_from_not _ _ odd in
    let e : long_of w ≡ false = rw (other, test, bit) refl in
    bit ∙ sym e ∙ same_long w high

pub short_else : (w : ℕ) → w < 65536 → (w / 1024 ≡ 36 → ⊥) → (w / 1024 ≡ 37 → ⊥) → false ≡ fits_long w
short_else w high not36 not37 =
    let one : (w / 1024 == 36) ≡ false = test_from_not _ _ not36 in
    let two : (w / 1024 == 37) ≡ false = test_from_not _ _ not37 in
    let e : long_of w ≡ false = rw (one, two) refl in
    sym e ∙ same_long w high

-- Each row's instruction takes as many words as the row says, whatever its fields are.
abbrev CountsRight : List Row → Type 0
CountsRight rs = (i : ℕ) (row : Row) → slice_get rs i ≡ Some row → (of : ℕ → ℕ) (next : ℕ) → words_of (row.instr of next) ≡ row.words

abbrev words_all : List Row → (ℕ → ℕ) → ℕ → List ℕ
words_all [] of next = []
words_all (x ∷ rs) of next = words_of (x.instr of next) ∷ words_all rs of next

abbrev words_told : List Row → List ℕ
words_told [] = []
words_told (x ∷ rs) = x.words ∷ words_told rs

each_row : (of : ℕ → ℕ) (next : ℕ) → words_all rows of next ≡ words_told rows
each_row of next = refl

counts : (rs : List Row) → ((of : ℕ → ℕ) (next : ℕ) → words_all rs of next ≡ words_told rs) → CountsRight rs
counts [] same i row at of next = absurd (cc)
counts (x ∷ rs) same zero row at of next =
    let e : x ≡ row = cc in
    let head : words_of (x.instr of next) ≡ x.words = let whole = same of next in cc in
    ap (λ r. words_of (r.instr of next)) (sym e) ∙ head ∙ ap (λ r. r.words) e
counts (x ∷ rs) same (suc i) row at of next =
    counts rs (λ of' next'. let whole = same of' next' in cc) i row at of next

-- An instruction takes one word or two.
one_or_two : (i : Instr) → (words_of i ≡ 1) ⊎ (words_of i ≡ 2)
one_or_two (instrs.Moves (Lds d k)) = inr refl
one_or_two (instrs.Moves (Sts d k)) = inr refl
one_or_two (instrs.Jumps (Jmp k)) = inr refl
one_or_two (instrs.Jumps (Call k)) = inr refl
one_or_two _ = inl refl

abbrev is_long : Row → Bool
is_long row = row.words == 2

-- How many words a word takes by these rows.
abbrev count_by : List Row → ℕ → ℕ
count_by rs w = if fits_long_by (filter is_long rs) w then 2 else 1

keep_long : (x : Row) (rs : List Row) → is_long x ≡ true → filter is_long (x ∷ rs) ≡ x ∷ filter is_long rs
keep_long x rs long = rw (long, filter) refl

drop_short : (x : Row) (rs : List Row) → is_long x ≡ false → filter is_long (x ∷ rs) ≡ filter is_long rs
drop_short x rs short = rw (short, filter) refl

-- Where the first row does not fit, the count is that of the others.
count_past : (x : Row) (rs : List Row) (w : ℕ) → fits x w ≡ false → count_by (x ∷ rs) w ≡ count_by rs w
count_past x rs w past = elim (is_either (is_long x)) [
  | inl long ↦ ap (λ ls. if fits_long_by ls w then 2 else 1) (keep_long x rs long) ∙ ap (λ b. if b || fits_long_by (filter is_long rs) w then 2 else 1) past
  | inr short ↦ ap (λ ls. if fits_long_by ls w then 2 else 1) (drop_short x rs short)
]

-- Where a row fits that is apart from all these, none of them does.
none_fits : (x : Row) (rs : List Row) (w : ℕ) → is_apart_from x rs ≡ true → fits x w ≡ true → count_by rs w ≡ 1
none_fits x [] w apart fit = refl
none_fits x (y ∷ rs) w apart fit = elim (is_either (fits y w)) [
  | inl too ↦ absurd (clash x y w (first_and (is_apart x y) _ apart) fit too)
  | inr past ↦ count_past y rs w past ∙ none_fits x rs w (second_and (is_apart x y) _ apart) fit
]

-- The row that fits counts as its instruction does.
count_here : (x : Row) (rs : List Row) (w : ℕ) (i : Instr) → is_apart_from x rs ≡ true → fits x w ≡ true → words_of i ≡ x.words
    → words_of i ≡ count_by (x ∷ rs) w
count_here x rs w i apart fit same = elim (one_or_two i) [
  | inl one ↦
      let short : is_long x ≡ false = ap (λ n. n == 2) (sym same ∙ one) in
      one ∙ sym (ap (λ ls. if fits_long_by ls w then 2 else 1) (drop_short x rs short) ∙ none_fits x rs w apart fit)
  | inr two ↦
      let long : is_long x ≡ true = ap (λ n. n == 2) (sym same ∙ two) in
      two ∙ sym (ap (λ ls. if fits_long_by ls w then 2 else 1) (keep_long x rs long) ∙ ap (λ b. if b || fits_long_by (filter is_long rs) w then 2 else 1) fit)
]

-- A checked instruction counts as the instruction does.
count_checked : (i : Instr) (n : ℕ) → words_of i ≡ n → IfOk (checked i) (λ j. words_of j ≡ n)
count_checked i n same = elim (is_either (is_undefined i)) [
  | inl undefined ↦ let e : checked i ≡ Err Undefined = rw undefined refl in subst (λ r. IfOk r (λ j. words_of j ≡ n)) (sym e) tt
  | inr defined ↦ let e : checked i ≡ Ok i = rw defined refl in subst (λ r. IfOk r (λ j. words_of j ≡ n)) (sym e) same
]

same_count : (rs : List Row) → are_apart rs ≡ true → CountsRight rs → (w n : ℕ)
    → IfOk (decoded_by rs w n) (λ i. words_of i ≡ count_by rs w)
same_count [] apart right w n = tt
same_count (x ∷ rs) apart right w n = elim (is_either (fits x w)) [
  | inl here ↦
      subst (λ r. IfOk r (λ i. words_of i ≡ count_by (x ∷ rs) w)) (sym (at_first x rs w n here))
      (count_checked (instr_of x w n) _ (count_here x rs w (instr_of x w n) (first_and _ _ apart) here (right zero x refl _ n)))
  | inr past ↦
      subst (λ r. IfOk r (λ i. words_of i ≡ count_by (x ∷ rs) w)) (sym (past_first x rs w n past))
      (subst (λ m. IfOk (decoded_by rs w n) (λ i. words_of i ≡ m)) (sym (count_past x rs w past))
      (same_count rs (second_and (is_apart_from x rs) _ apart) (λ i row at. right (suc i) row at) w n))
]

-- What a word says takes as many words as the word does by itself.
pub words_right : (w n : ℕ) → IfOk (decoded w n) (λ i. words_of i ≡ words_at w)
unfolding decoded fits_long
words_right w n = same_count rows all_apart (counts rows each_row) w n

pub words_by : (r : Result Instr DecodeFault) (w n : ℕ) → r ≡ decoded w n → IfOk r (λ i. words_of i ≡ words_at w)
words_by r w n same = subst (λ r'. IfOk r' (λ i. words_of i ≡ words_at w)) (sym same) (words_right w n)
