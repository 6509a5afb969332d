-- The text of an image, row by row.
use Rattle.std.proofs.Common.{◌≡◌, ℕ, zero, suc, ◌+◌, ◌*◌, ◌/◌, ◌%◌, ◌<◌, ◌≤◌, ◌-◌, true, false, eqb, List, [], ◌∷◌, ◌++◌, length, take, drop, replicate, None, if◌then◌else◌, refl, sym, ap, ◌∙◌, arith, append_assoc, append-nil}
use Rattle.std.specs.List.{All, list_all}
use Rattle.std.specs.Str.Lines.{lines}
use Rattle.std.specs.Prelude.{sum}
use Rattle.ihex.specs.Flash.{Placed, placed, written}
use Rattle.flash.specs.Image.{erased, filled}
use Rattle.ihex.specs.Record.{at_start}
use Rattle.ihex.specs.Store.{checksum, end_line, head_of, hex_text, record_line, row_line, row_of, rows_below}
use Rattle.ihex.specs.Text.{data_behind, data_in, fault_behind, fault_in}
use Rattle.ihex_laws.specs.RoundTrip.{Gives, TextGivesImage}
use Rattle.ihex_laws.proofs.Digits.{AllBytes, all_bytes_append}
use Rattle.ihex_laws.proofs.FirstLine.{fault_in-end, data_in-end}
use Rattle.ihex_laws.proofs.OneLine.{lines_record, line_fault, line_below, line_data_is}
use Rattle.ihex_laws.proofs.OneRecord.{row_bytes, no_fault, data_is, stays}
use Rattle.ihex_laws.proofs.Rows.{row_data, rows_data, length_row, all_written}

all_bytes : (bs : List ℕ) → All (λ b. b < 256) bs → AllBytes bs
all_bytes [] all = tt
all_bytes (b ∷ more) all = (all zero b (omega arith), all_bytes more (λ k e m. all (suc k) e (omega (arith, m))))

all_drop : (n : ℕ) (bs : List ℕ) → AllBytes bs → AllBytes (drop n bs)
all_drop zero bs all = all
all_drop (suc n) [] all = tt
all_drop (suc n) (b ∷ bs) all = all_drop n bs all.1

all_take : (n : ℕ) (bs : List ℕ) → AllBytes bs → AllBytes (take n bs)
all_take zero bs all = tt
all_take (suc n) [] all = tt
all_take (suc n) (b ∷ bs) all = (all.0, all_take n bs all.1)

-- the bytes of a row's record
record_bytes : (at : ℕ) (row : List ℕ) → at < 65536 → AllBytes row → AllBytes (row_bytes at row)
record_bytes at row small all =
    let count : 16 < 256 = omega arith in
    let high : at / 256 < 256 = omega (arith, small) in
    let low : at % 256 < 256 = omega arith in
    let kind : 0 < 256 = omega arith in
    let closes : checksum (sum (head_of at) + sum row) < 256 = omega arith in
    (count, (high, (low, (kind, all_bytes_append row (checksum (sum (head_of at) + sum row) ∷ []) all (closes, tt)))))

-- a row's record in front of a text: it has no fault
record_fault : (image : List ℕ) (k : ℕ) (rest : List ℕ) → length image ≡ 32768 → AllBytes image → 16 * k + 16 ≤ 32768
    → ((n : ℕ) → fault_behind n at_start (lines rest) ≡ None) → (n : ℕ) → fault_behind n at_start (lines (record_line (16 * k) (row_of image k) ++ rest)) ≡ None
record_fault image k rest size all fits behind n =
    let at : ℕ = 16 * k in
    let row = row_of image k in
    let sixteen : length row ≡ 16 = length_row image 32768 k size fits in
    let bytes : AllBytes (row_bytes at row) = record_bytes at row (omega (arith, fits)) (all_take (16 * k + 16 - 16 * k) (drop (16 * k) image) (all_drop (16 * k) image all)) in
    ap (fault_behind n at_start) (lines_record at row rest bytes)
    ∙ rw (line_fault (row_bytes at row) bytes (no_fault at row fits sixteen), line_below (row_bytes at row) bytes, stays at row) (behind (n + 1))

-- and it puts the row in its place
record_data_is : (image : List ℕ) (k : ℕ) (rest : List ℕ) → length image ≡ 32768 → AllBytes image → 16 * k + 16 ≤ 32768
    → data_behind at_start (lines (record_line (16 * k) (row_of image k) ++ rest)) ≡ placed (16 * k) (row_of image k) ++ data_behind at_start (lines rest)
record_data_is image k rest size all fits =
    let at : ℕ = 16 * k in
    let row = row_of image k in
    let sixteen : length row ≡ 16 = length_row image 32768 k size fits in
    let bytes : AllBytes (row_bytes at row) = record_bytes at row (omega (arith, fits)) (all_take (16 * k + 16 - 16 * k) (drop (16 * k) image) (all_drop (16 * k) image all)) in
    ap (data_behind at_start) (lines_record at row rest bytes)
    ∙ rw (line_data_is (row_bytes at row) bytes, data_is at row fits sixteen, line_below (row_bytes at row) bytes, stays at row) refl

-- a row, erased or not, in front of a text
row_fault : (image : List ℕ) (k : ℕ) (rest : List ℕ) → length image ≡ 32768 → AllBytes image → 16 * k + 16 ≤ 32768
    → ((n : ℕ) → fault_behind n at_start (lines rest) ≡ None) → (n : ℕ) → fault_behind n at_start (lines (row_line image k ++ rest)) ≡ None
unfolding row_line
row_fault image k rest size all fits behind n =
    elim (list_all (λ b. eqb b 255) (row_of image k)) as (λ v. fault_behind n at_start (lines ((if v then [] else record_line (16 * k) (row_of image k)) ++ rest)) ≡ None) [
      | true ↦ behind n
      | false ↦ record_fault image k rest size all fits behind n
    ]

row_data_is : (image : List ℕ) (k : ℕ) (rest : List ℕ) → length image ≡ 32768 → AllBytes image → 16 * k + 16 ≤ 32768
    → data_behind at_start (lines (row_line image k ++ rest)) ≡ row_data image k ++ data_behind at_start (lines rest)
unfolding row_line
row_data_is image k rest size all fits =
    elim (list_all (λ b. eqb b 255) (row_of image k)) as (λ v. data_behind at_start (lines ((if v then [] else record_line (16 * k) (row_of image k)) ++ rest)) ≡ (if v then [] else placed (16 * k) (row_of image k)) ++ data_behind at_start (lines rest)) [
      | true ↦ refl
      | false ↦ record_data_is image k rest size all fits
    ]

-- the rows below row k in front of a text
rows_fault : (image : List ℕ) (k : ℕ) (rest : List ℕ) → length image ≡ 32768 → AllBytes image → 16 * k ≤ 32768
    → ((n : ℕ) → fault_behind n at_start (lines rest) ≡ None) → (n : ℕ) → fault_behind n at_start (lines (rows_below image k ++ rest)) ≡ None
rows_fault image zero rest size all fits behind n = behind n
rows_fault image (suc k) rest size all fits behind n =
    ap (λ (text : List ℕ). fault_behind n at_start (lines text)) (append_assoc (rows_below image k) (row_line image k) rest)
    ∙ rows_fault image k (row_line image k ++ rest) size all (omega (arith, fits)) (row_fault image k rest size all (omega (arith, fits)) behind) n

rows_data_is : (image : List ℕ) (k : ℕ) (rest : List ℕ) → length image ≡ 32768 → AllBytes image → 16 * k ≤ 32768
    → data_behind at_start (lines (rows_below image k ++ rest)) ≡ rows_data image k ++ data_behind at_start (lines rest)
rows_data_is image zero rest size all fits = refl
rows_data_is image (suc k) rest size all fits =
    ap (λ (text : List ℕ). data_behind at_start (lines text)) (append_assoc (rows_below image k) (row_line image k) rest)
    ∙ rows_data_is image k (row_line image k ++ rest) size all (omega (arith, fits))
    ∙ ap (λ (more : List Placed). rows_data image k ++ more) (row_data_is image k rest size all (omega (arith, fits)))
    ∙ sym (append_assoc (rows_data image k) (row_data image k) (data_behind at_start (lines rest)))

-- the text of an image, and erased flash, by numbers that are not written out
text_is : (image : List ℕ) (k : ℕ) → k ≡ 2048 → hex_text image ≡ rows_below image k ++ end_line
unfolding hex_text
text_is image k is = ap (λ (m : ℕ). rows_below image m ++ end_line) (sym is)

filled_is : (n b : ℕ) → filled n b ≡ replicate n b
unfolding filled
filled_is n b = refl

erased_is : (n : ℕ) → n ≡ 32768 → erased ≡ replicate n 255
erased_is n is = ap (λ (m : ℕ). filled m 255) (sym is) ∙ filled_is n 255

gives_by : (image : List ℕ) (k : ℕ) → k ≡ 2048 → length image ≡ 32768 → AllBytes image → Gives (hex_text image) image
unfolding fault_in data_in
gives_by image k rows size all =
    let fits : 16 * k ≤ 32768 = omega (arith, rows) in
    let whole : length image ≡ 16 * k = omega (arith, rows, size) in
    let placed_bytes : data_behind at_start (lines (rows_below image k ++ end_line)) ≡ rows_data image k =
    rows_data_is image k end_line size all fits
    ∙ ap (λ (more : List Placed). rows_data image k ++ more) data_in-end
    ∙ append-nil (rows_data image k) in
    rw (text_is image k rows) (record {
      fault = rows_fault image k end_line size all fits fault_in-end 0;
      bytes =
          ap (λ (flash : List ℕ). written flash (data_behind at_start (lines (rows_below image k ++ end_line)))) (erased_is (length image) size)
          ∙ ap (written (replicate (length image) 255)) placed_bytes
          ∙ all_written image (length image) k refl whole;
    })

pub text_gives : TextGivesImage
text_gives image size all = gives_by image 2048 refl size (all_bytes image all)
