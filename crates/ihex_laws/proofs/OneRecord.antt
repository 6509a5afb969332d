-- One record of a row: it has no fault, it puts the row in its place, and it leaves the base.
use Rattle.std.proofs.Common.{◌≡◌, ℕ, ◌+◌, ◌*◌, ◌/◌, ◌%◌, ◌≤◌, true, false, List, [], ◌∷◌, ◌++◌, length, take, None, refl, ap, ◌∙◌, arith, length-append}
use Rattle.std.proofs.lemmas.List.{take-append-le, take_all}
use Rattle.std.proofs.lemmas.List.Sums.{fold-append, sum_by_from}
use Rattle.std.proofs.lemmas.Bool.{eq-eqb, lt-leb}
use Rattle.std.specs.Prelude.{sum, nat_le}
use Rattle.ihex.specs.Record.{at_start, first_kind, record_faults, record_data, is_outside, below_record, count_fits}
use Rattle.ihex.specs.Store.{checksum, head_of}
use Rattle.ihex.specs.Flash.{placed}

-- The bytes of a row's record.
abbrev pub row_bytes : ℕ → List ℕ → List ℕ
row_bytes at row = head_of at ++ row ++ checksum (sum (head_of at) + sum row) ∷ []

pub outside_none : (at : ℕ) (row : List ℕ) → at + length row ≤ 32768 → is_outside (placed at row) ≡ false
unfolding is_outside
outside_none at [] h = refl
outside_none at (b ∷ more) h =
    let here : nat_le 32768 at ≡ false = lt-leb 32768 at (omega arith) in
    let ih : is_outside (placed (at + 1) more) ≡ false = outside_none (at + 1) more (omega arith) in
    rw here ih

front : (row : List ℕ) (c : ℕ) → length row ≡ 16 → take 16 (row ++ c ∷ []) ≡ row
front row c n = take-append-le 16 row (c ∷ []) (omega arith) ∙ take_all 16 row (omega arith)

pub data_is : (at : ℕ) (row : List ℕ) → at + 16 ≤ 32768 → length row ≡ 16 → record_data 0 (row_bytes at row) ≡ placed at row
unfolding record_data
data_is at row h n =
    let place : 0 + (256 * (at / 256) + at % 256) ≡ at = omega arith in
    rw (front row _ n) (ap (λ (p : ℕ). placed p row) place)

-- the checksum closes the sum
closes : (s : ℕ) → (s + checksum s) % 256 ≡ 0
closes s = omega arith

sum_is : (at : ℕ) (row : List ℕ) → sum (row_bytes at row) % 256 ≡ 0
sum_is at row =
    let head : ℕ = sum (head_of at) in
    let c : ℕ = checksum (head + sum row) in
    ap (λ (t : ℕ). t % 256) (fold-append (λ (t x : ℕ). t + x) head row (c ∷ []) ∙ ap (λ (t : ℕ). t + c) (sum_by_from (λ (x : ℕ). x) head row)) ∙ closes (head + sum row)

length_is : (at : ℕ) (row : List ℕ) → length row ≡ 16 → length (row_bytes at row) ≡ 21
length_is at row n = omega (arith, length-append row (checksum (sum (head_of at) + sum row) ∷ []))

-- a data record has any number of data bytes
any_count : (n : ℕ) → count_fits 0 n ≡ true
unfolding count_fits
any_count n = refl

pub no_fault : (at : ℕ) (row : List ℕ) → at + 16 ≤ 32768 → length row ≡ 16 → first_kind (record_faults 0 (row_bytes at row)) ≡ None
no_fault at row h n =
    let inside : is_outside (record_data 0 (row_bytes at row)) ≡ false = ap is_outside (data_is at row h n) ∙ outside_none at row (omega arith) in
    rw (eq-eqb (length (row_bytes at row)) 21 (length_is at row n), eq-eqb (sum (row_bytes at row) % 256) 0 (sum_is at row), any_count 16, inside) refl

-- the base stays
pub stays : (at : ℕ) (row : List ℕ) → below_record at_start (row_bytes at row) ≡ at_start
unfolding below_record
stays at row = refl
