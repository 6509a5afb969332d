-- What is encoded is decoded again: each form of opcode over all values of its fields, by computation.
use Rattle.std.proofs.Common.{◌≡◌, ℕ, ◌+◌, ◌-◌, ◌*◌, ◌/◌, ◌%◌, ◌<◌, ◌≤◌, Bool, true, false, List, [], ◌∷◌, refl, ap, sym, ◌∙◌, arith, inl, inr}
use Rattle.std.specs.Prelude.{Result, Ok, filter, ◌||◌}
use Rattle.std.specs.List.{list_any}
use Rattle.std.proofs.lemmas.Nat.{div-mul-add, mod-mul-add, mul-add-lt}
use Rattle.avr_table.specs.Row.{Row, fits}
use Rattle.avr_table.specs.Rows.{rows}
use Rattle.avr_table.specs.Decoded.{decoded, decoded_by}
use Rattle.avr_table.specs.WellFormed.{AreRegisters, IsUpperWithByte, IsWidePair, AreMiddle}
use Rattle.avr_table.specs.declared.instr.Instr.{Instr}
use Rattle.avr_table.specs.declared.fault.DecodeFault.{DecodeFault}
use Rattle.avr_sheet.proofs.Table.{table, same_at}
use Rattle.avr_table.proofs.Rows.{at_first, past_first, is_either, clash, is_apart, is_apart_from, are_apart, all_apart, first_and, second_and}

-- The rows that a word fits, and whether it fits any of a list.
abbrev pub fitting : ℕ → List Row
fitting word = filter (λ row. fits row word) rows

abbrev pub fits_any : List Row → ℕ → Bool
fits_any rs word = list_any (λ row. fits row word) rs

keep : (P : Row → Bool) (x : Row) (rs : List Row) → P x ≡ true → filter P (x ∷ rs) ≡ x ∷ filter P rs
keep P x rs kept = rw (kept, filter) refl

leave : (P : Row → Bool) (x : Row) (rs : List Row) → P x ≡ false → filter P (x ∷ rs) ≡ filter P rs
leave P x rs out = rw (out, filter) refl

-- Where a row fits that is apart from all these, none of them does.
none_fits : (P : Row → Bool) (x : Row) (rs : List Row) (w : ℕ) → is_apart_from x rs ≡ true → fits x w ≡ true → fits_any (filter P rs) w ≡ false
none_fits P x [] w apart fit = refl
none_fits P x (y ∷ rs) w apart fit =
    let rest : fits_any (filter P rs) w ≡ false = none_fits P x rs w (second_and (is_apart x y) _ apart) fit in
    elim (is_either (P y)) [
      | inr out ↦ ap (λ ls. fits_any ls w) (leave P y rs out) ∙ rest
      | inl kept ↦ elim (is_either (fits y w)) [
        | inl too ↦ absurd (clash x y w (first_and (is_apart x y) _ apart) fit too)
        | inr past ↦ ap (λ ls. fits_any ls w) (keep P y rs kept) ∙ ap (λ b. b || fits_any (filter P rs) w) past ∙ rest
      ]
    ]

-- Some rows say of a word what all say, where it fits one of them.
some_say : (P : Row → Bool) (rs : List Row) (w n : ℕ) → are_apart rs ≡ true → fits_any (filter P rs) w ≡ true → decoded_by (filter P rs) w n ≡ decoded_by rs w n
some_say P [] w n apart any = refl
some_say P (x ∷ rs) w n apart any = elim (is_either (fits x w)) [
  | inl here ↦ elim (is_either (P x)) [
    | inl kept ↦ ap (λ ls. decoded_by ls w n) (keep P x rs kept) ∙ at_first x (filter P rs) w n here ∙ sym (at_first x rs w n here)
    | inr out ↦
        let none : fits_any (filter P (x ∷ rs)) w ≡ false = ap (λ ls. fits_any ls w) (leave P x rs out) ∙ none_fits P x rs w (first_and _ _ apart) here in
        absurd (cc)
  ]
  | inr past ↦ elim (is_either (P x)) [
    | inl kept ↦
        let other : fits_any (filter P (x ∷ rs)) w ≡ fits_any (filter P rs) w =
        ap (λ ls. fits_any ls w) (keep P x rs kept) ∙ ap (λ b. b || fits_any (filter P rs) w) past in
        ap (λ ls. decoded_by ls w n) (keep P x rs kept) ∙ past_first x (filter P rs) w n past
        ∙ some_say P rs w n (second_and (is_apart_from x rs) _ apart) (sym other ∙ any) ∙ sym (past_first x rs w n past)
    | inr out ↦
        let other : fits_any (filter P (x ∷ rs)) w ≡ fits_any (filter P rs) w = ap (λ ls. fits_any ls w) (leave P x rs out) in
        ap (λ ls. decoded_by ls w n) (leave P x rs out)
        ∙ some_say P rs w n (second_and (is_apart_from x rs) _ apart) (sym other ∙ any) ∙ sym (past_first x rs w n past)
  ]
]

-- Whether a word fits one of these rows, and what they say of it.
abbrev pub told : List Row → ℕ → ℕ → Bool × Result Instr DecodeFault
told rs word next = (fits_any rs word, decoded_by rs word next)

told_whole : (v w n : ℕ) (r : Result Instr DecodeFault) → told (fitting v) w n ≡ (true, r) → decoded w n ≡ r
unfolding decoded
told_whole v w n r is =
    let any : fits_any (fitting v) w ≡ true = ap (λ pair. pair.0) is in
    let says : decoded_by (fitting v) w n ≡ r = ap (λ pair. pair.1) is in
    sym (some_say (λ row. fits row v) rows w n all_apart any) ∙ says

-- The word of one field is decoded so, at each of `m` values of the field: by computation over the row that the first word fits.
abbrev pub OneField : ℕ → (ℕ → ℕ) → (ℕ → ℕ → Result Instr DecodeFault) → Type 0
OneField m word result =
    (next : ℕ) → table (λ (rs : List Row) i. told rs (word i) next) (fitting (word 0)) 0 m ≡ table (λ rs i. (true, result i next)) (fitting (word 0)) 0 m

pub one_field : (m : ℕ) (word : ℕ → ℕ) (result : ℕ → ℕ → Result Instr DecodeFault) → OneField m word result
    → (next x : ℕ) → x < m → decoded (word x) next ≡ result x next
one_field m word result decodes next x high =
    told_whole (word 0) (word x) next (result x next)
    (same_at (λ (rs : List Row) i. told rs (word i) next) (λ rs i. (true, result i next)) (fitting (word 0)) 0 m (decodes next) x (omega arith) (omega arith))

-- The word of two fields is decoded to their instruction, at each of `m` values of the first and `n` of the
-- second, which are counted from 0 and placed by `f` and `g`.
abbrev pub TwoFields : ℕ → ℕ → (ℕ → ℕ) → (ℕ → ℕ) → (ℕ → ℕ → ℕ) → (ℕ → ℕ → Instr) → Type 0
TwoFields m n f g word instr =
    (next : ℕ) → table (λ (rs : List Row) i. told rs (word (f (i / n)) (g (i % n))) next) (fitting (word (f 0) (g 0))) 0 (n * m)
    ≡ table (λ rs i. (true, Ok (instr (f (i / n)) (g (i % n))))) (fitting (word (f 0) (g 0))) 0 (n * m)

pub two_fields : (m n : ℕ) (f g : ℕ → ℕ) (word : ℕ → ℕ → ℕ) (instr : ℕ → ℕ → Instr) → TwoFields m n f g word instr
    → (next x y d r : ℕ) → x < m → y < n → f x ≡ d → g y ≡ r → decoded (word d r) next ≡ Ok (instr d r)
two_fields m n f g word instr decodes next x y d r first second is_d is_r =
    let row : (x * n + y) / n ≡ x = div-mul-add x n y second in
    let column : (x * n + y) % n ≡ y = mod-mul-add x n y second in
    let below : x * n + y < n * m = mul-add-lt x n y m first second in
    let at_place = same_at (λ (rs : List Row) i. told rs (word (f (i / n)) (g (i % n))) next) (λ rs i. (true, Ok (instr (f (i / n)) (g (i % n))))) (fitting (word (f 0) (g 0))) 0 (n * m) (decodes next) (x * n + y) (omega arith) (omega arith) in
    told_whole (word (f 0) (g 0)) (word d r) next (Ok (instr d r)) (rw (row, column, is_d, is_r) at at_place)

-- A number as it is, from r16 on, by pairs, and by pairs from r24 on.
abbrev pub plain : ℕ → ℕ
plain x = x

abbrev pub upper : ℕ → ℕ
upper x = 16 + x

abbrev pub pair : ℕ → ℕ
pair x = x * 2

abbrev pub wide : ℕ → ℕ
wide x = 24 + x * 2

pub registers : (word : ℕ → ℕ → ℕ) (instr : ℕ → ℕ → Instr) → TwoFields 32 32 plain plain word instr
    → (next d r : ℕ) → AreRegisters d r → decoded (word d r) next ≡ Ok (instr d r)
registers word instr decodes next d r fit =
    two_fields 32 32 plain plain word instr decodes next d r d r fit.0 fit.1 refl refl

pub constants : (word : ℕ → ℕ → ℕ) (instr : ℕ → ℕ → Instr) → TwoFields 16 256 upper plain word instr
    → (next d k : ℕ) → IsUpperWithByte d k → decoded (word d k) next ≡ Ok (instr d k)
constants word instr decodes next d k fit =
    two_fields 16 256 upper plain word instr decodes next (d - 16) k d k (omega arith) fit.2 (omega arith) refl

pub wide_pairs : (word : ℕ → ℕ → ℕ) (instr : ℕ → ℕ → Instr) → TwoFields 4 64 wide plain word instr
    → (next d k : ℕ) → IsWidePair d k → decoded (word d k) next ≡ Ok (instr d k)
wide_pairs word instr decodes next d k fit =
    two_fields 4 64 wide plain word instr decodes next ((d - 24) / 2) k d k (omega arith) fit.3 (omega arith) refl

pub middles : (word : ℕ → ℕ → ℕ) (instr : ℕ → ℕ → Instr) → TwoFields 8 8 upper upper word instr
    → (next d r : ℕ) → AreMiddle d r → decoded (word d r) next ≡ Ok (instr d r)
middles word instr decodes next d r fit =
    two_fields 8 8 upper upper word instr decodes next (d - 16) (r - 16) d r (omega arith) (omega arith) (omega arith) (omega arith)

pub uppers : (word : ℕ → ℕ → ℕ) (instr : ℕ → ℕ → Instr) → TwoFields 16 16 upper upper word instr
    → (next d r : ℕ) → (16 ≤ d) × (d < 32) × (16 ≤ r) × (r < 32) → decoded (word d r) next ≡ Ok (instr d r)
uppers word instr decodes next d r fit =
    two_fields 16 16 upper upper word instr decodes next (d - 16) (r - 16) d r (omega arith) (omega arith) (omega arith) (omega arith)

pub pairs : (word : ℕ → ℕ → ℕ) (instr : ℕ → ℕ → Instr) → TwoFields 16 16 pair pair word instr
    → (next d r : ℕ) → (d < 32) × (d % 2 ≡ 0) × (r < 32) × (r % 2 ≡ 0) → decoded (word d r) next ≡ Ok (instr d r)
pairs word instr decodes next d r fit =
    two_fields 16 16 pair pair word instr decodes next (d / 2) (r / 2) d r (omega arith) (omega arith) (omega arith) (omega arith)

pub fields_below : (m n : ℕ) (word : ℕ → ℕ → ℕ) (instr : ℕ → ℕ → Instr) → TwoFields m n plain plain word instr
    → (next x y : ℕ) → (x < m) × (y < n) → decoded (word x y) next ≡ Ok (instr x y)
fields_below m n word instr decodes next x y fit =
    two_fields m n plain plain word instr decodes next x y x y fit.0 fit.1 refl refl

pub field_below : (m : ℕ) (word : ℕ → ℕ) (instr : ℕ → Instr) → OneField m word (λ x next. Ok (instr x))
    → (next x : ℕ) → x < m → decoded (word x) next ≡ Ok (instr x)
field_below m word instr decodes next x high = one_field m word (λ x next. Ok (instr x)) decodes next x high
