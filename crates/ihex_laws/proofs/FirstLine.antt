-- The first line of a text, where its characters are known.
use Rattle.std.proofs.Common.{◌≡◌, ℕ, zero, suc, ◌-◌, ◌<◌, ◌≤◌, Bool, true, false, eqb, List, [], ◌∷◌, ◌++◌, length, get_or, None, refl, ap, ◌∙◌, arith}
use Rattle.std.proofs.lemmas.List.Splits.{slice_split_at, length-slice_split}
use Rattle.std.proofs.lemmas.Grind.{common_steps}
use Rattle.std.specs.List.{slice_split, All}
use Rattle.std.specs.Str.Lines.{lines, lines_of_parts, strip_carriage_return}
use Rattle.ihex.specs.Store.{digits_of, end_line, upper}
use Rattle.ihex.specs.Record.{at_start, fault_of, below, below_record, line_data, record_data, count_fits, is_outside}
use Rattle.ihex.specs.Digits.{is_digit, digit}
use Rattle.ihex.specs.Text.{fault_behind, data_behind}
use Rattle.ihex_laws.proofs.Digits.{AllAbove}

abbrev is_feed : ℕ → Bool
is_feed b = eqb b 10

more_parts : (x : List ℕ) (parts : List (List ℕ)) → 0 < length parts → lines_of_parts (x ∷ parts) ≡ strip_carriage_return x ∷ lines_of_parts parts
more_parts x [] l = absurd (omega arith)
more_parts x (y ∷ more) l = refl

-- a place of such a list
at_place : (line : List ℕ) → AllAbove line → (k e : ℕ) → k < length line → 14 ≤ get_or line k e
at_place [] a k e m = absurd (omega (arith, m))
at_place (c ∷ more) a zero e m = a.0
at_place (c ∷ more) a (suc k) e m = at_place more a.1 k e (omega (arith, m))

not_ten : (c : ℕ) → 14 ≤ c → eqb c 10 ≡ false
not_ten c l = grind (arith, common_steps, l)

not_thirteen : (c : ℕ) → 14 ≤ c → eqb c 13 ≡ false
not_thirteen c l = grind (arith, common_steps, l)

-- nothing is stripped
kept : (line : List ℕ) → AllAbove line → strip_carriage_return line ≡ line
kept [] a = refl
kept (c ∷ more) a =
    let last : 14 ≤ get_or (c ∷ more) (length (c ∷ more) - 1) 0 = at_place (c ∷ more) a (length (c ∷ more) - 1) 0 (omega arith) in
    rw (not_thirteen (get_or (c ∷ more) (length (c ∷ more) - 1) 0) last) refl

-- up to the first line feed
pub lines_first : (line rest : List ℕ) → AllAbove line → lines (line ++ 10 ∷ rest) ≡ line ∷ lines rest
lines_first line rest a =
    let front : All (λ b. is_feed b ≡ false) line = λ k e m. not_ten (get_or line k e) (at_place line a k e m) in
    ap lines_of_parts (slice_split_at is_feed line 10 rest front refl)
    ∙ more_parts line (slice_split is_feed rest) (omega (arith, length-slice_split is_feed rest))
    ∙ ap (λ (l : List ℕ). l ∷ lines rest) (kept line a)

pub lines_empty : lines [] ≡ []
lines_empty = refl

-- the end record: its line, which has no fault, ends the file and has no data
pub lines_end : lines end_line ≡ (58 ∷ digits_of (0 ∷ 0 ∷ 0 ∷ 1 ∷ 255 ∷ [])) ∷ []
unfolding upper
lines_end = refl

pub fault_of-end : fault_of at_start (58 ∷ digits_of (0 ∷ 0 ∷ 0 ∷ 1 ∷ 255 ∷ [])) ≡ None
unfolding fault_of below below_record line_data record_data count_fits is_outside is_digit digit upper
fault_of-end = refl

pub below-end : (below at_start (58 ∷ digits_of (0 ∷ 0 ∷ 0 ∷ 1 ∷ 255 ∷ []))).ended ≡ true
unfolding fault_of below below_record line_data record_data count_fits is_outside is_digit digit upper
below-end = refl

pub line_data-end : line_data at_start (58 ∷ digits_of (0 ∷ 0 ∷ 0 ∷ 1 ∷ 255 ∷ [])) ≡ []
unfolding fault_of below below_record line_data record_data count_fits is_outside is_digit digit upper
line_data-end = refl

pub fault_in-end : (n : ℕ) → fault_behind n at_start (lines end_line) ≡ None
unfolding fault_of below below_record line_data record_data count_fits is_outside is_digit digit upper
fault_in-end n = refl

pub data_in-end : data_behind at_start (lines end_line) ≡ []
unfolding fault_of below below_record line_data record_data count_fits is_outside is_digit digit upper
data_in-end = refl
