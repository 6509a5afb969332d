-- The line of one record, read back.
use Rattle.std.proofs.Common.{◌≡◌, ℕ, suc, ◌-◌, ◌%◌, ◌≤◌, false, eqb, List, [], ◌∷◌, ◌++◌, length, None, sym, ap, ◌∙◌, arith, append_assoc}
use Rattle.std.specs.List.{slice_range}
use Rattle.std.specs.Str.Lines.{lines}
use Rattle.std.proofs.lemmas.List.{take_all}
use Rattle.std.proofs.lemmas.Bool.{cond-false, eq-eqb, ne_eqb}
use Rattle.ihex.specs.Digits.{bytes_of}
use Rattle.ihex.specs.Record.{at_start, below, below_record, digit_faults, fault_of, first_kind, line_data, record_data, record_faults}
use Rattle.ihex.specs.Store.{digits_of, head_of, record_line}
use Rattle.ihex_laws.proofs.Digits.{AllBytes, bytes_of_digits, digits_are_digits, length-digits_of, digits_above, digits_of-append}
use Rattle.ihex_laws.proofs.FirstLine.{lines_first}
use Rattle.ihex_laws.proofs.OneRecord.{row_bytes}

record_line_is : (at : ℕ) (row : List ℕ) → record_line at row ≡ (58 ∷ digits_of (row_bytes at row)) ++ 10 ∷ []
unfolding record_line
record_line_is at row = ap (λ (d : List ℕ). (58 ∷ (digits_of (head_of at) ++ d)) ++ 10 ∷ []) (sym (digits_of-append row _))

-- the line, and the text behind it
pub lines_record : (at : ℕ) (row rest : List ℕ) → AllBytes (row_bytes at row) → lines (record_line at row ++ rest) ≡ (58 ∷ digits_of (row_bytes at row)) ∷ lines rest
lines_record at row rest all =
    let line : List ℕ = 58 ∷ digits_of (row_bytes at row) in
    let colon : 14 ≤ 58 = omega arith in
    ap (λ (l : List ℕ). lines (l ++ rest)) (record_line_is at row)
    ∙ ap lines (append_assoc line (10 ∷ []) rest)
    ∙ lines_first line rest (colon, digits_above (row_bytes at row) all)

tail_is : (digits : List ℕ) → slice_range (58 ∷ digits) 1 (length (58 ∷ digits)) ≡ digits
tail_is digits = take_all (suc (length digits) - 1) digits (omega arith)

some_line : (digits : List ℕ) → eqb (length (58 ∷ digits)) 0 ≡ false
some_line digits = ne_eqb (length (58 ∷ digits)) 0 (λ e. omega (arith, e))

digits_fault : (bs : List ℕ) → AllBytes bs → first_kind (record_faults 0 bs) ≡ None → first_kind (digit_faults 0 (digits_of bs)) ≡ None
digits_fault bs all none =
    let even : length (digits_of bs) % 2 ≡ 0 = omega (arith, length-digits_of bs) in
    rw (digits_are_digits bs all, eq-eqb (length (digits_of bs) % 2) 0 even, bytes_of_digits bs all) none

pub line_fault : (bs : List ℕ) → AllBytes bs → first_kind (record_faults 0 bs) ≡ None → fault_of at_start (58 ∷ digits_of bs) ≡ None
unfolding fault_of
line_fault bs all none =
    cond-false _ _ _ (some_line (digits_of bs))
    ∙ ap (λ (d : List ℕ). first_kind (digit_faults 0 d)) (tail_is (digits_of bs))
    ∙ digits_fault bs all none

pub line_below : (bs : List ℕ) → AllBytes bs → below at_start (58 ∷ digits_of bs) ≡ below_record at_start bs
unfolding below
line_below bs all =
    cond-false _ _ _ (some_line (digits_of bs))
    ∙ ap (λ (d : List ℕ). below_record at_start (bytes_of d)) (tail_is (digits_of bs))
    ∙ ap (below_record at_start) (bytes_of_digits bs all)

pub line_data_is : (bs : List ℕ) → AllBytes bs → line_data at_start (58 ∷ digits_of bs) ≡ record_data 0 bs
unfolding line_data
line_data_is bs all =
    cond-false _ _ _ (some_line (digits_of bs))
    ∙ ap (λ (d : List ℕ). record_data 0 (bytes_of d)) (tail_is (digits_of bs))
    ∙ ap (record_data 0) (bytes_of_digits bs all)
