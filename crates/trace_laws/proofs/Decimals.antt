-- Numbers that are written in decimal and read again.
use Rattle.std.proofs.Common.{arith, ◌≡◌, ◌≤◌, ◌<◌, ◌&&◌, ◌^◌, ◌*◌, ◌-◌, ℕ, ◌+◌, zero, suc, not, Bool, true, false, List, [], ◌∷◌, length, cond, None, Some, refl, ap, ◌∙◌}
use Rattle.std.specs.Prelude.{nat_le}
use Rattle.std.specs.Prelude.{slice_index_or}
use Rattle.std.specs.Fmt.{decimal}
use Rattle.std.specs.Int.{IsInRange}
use Rattle.std.specs.List.{join_with_byte}
use Rattle.std.specs.Str.{all_ascii_digits}
use Rattle.std.proofs.lemmas.Bool.{le-leb, ne_eqb}
use Rattle.std.proofs.lemmas.Fmt.{decimal_digit, decimal_is_IsNumeral, digits_decimal, digits_value-decimal, first_decimal, length-decimal-le}
use Rattle.std.proofs.lemmas.Str.Parse.{FoldsDigits, IsNumeralModel, numerals_by_fold, tells_all_ascii_digits}
use Rattle.board_read.specs.Numbers.{is_digit, number_behind, number, at_most, has_leading_zero, written, four, four_bytes, address}
use Rattle.trace_laws.proofs.Passing.{Passes, other, passes_then, split_joined}

-- each byte is a digit
AreDigits : List ℕ → Type 0
AreDigits ds = all_ascii_digits ds ≡ true

value : ℕ → List ℕ → ℕ
value n [] = n
value n (c ∷ cs) = value (n * 10 + (c - 48)) cs

folds : FoldsDigits value
unfolding value
folds = record { empty = λ n. refl; more = λ n c cs k. refl }

model : IsNumeralModel (λ ds. all_ascii_digits ds ≡ true) (value 0)
model = numerals_by_fold (λ ds. all_ascii_digits ds ≡ true) tells_all_ascii_digits value folds

is_one : (c : ℕ) → IsInRange 48 57 c → is_digit c ≡ true
is_one c k = λ i. le-leb 48 c k.0 i && le-leb c 57 k.1 i

reads : (n : ℕ) (ds : List ℕ) → AreDigits ds → number_behind n ds ≡ Some (value n ds)
unfolding AreDigits value
reads n [] all = refl
reads n (c ∷ cs) all =
    let k = tells_all_ascii_digits.parts c cs all in
    ap (λ b. cond b (number_behind (n * 10 + (c - 48)) cs) None) (is_one c k.0) ∙ reads (n * 10 + (c - 48)) cs k.1

-- the digits pass what each digit does
pass : (q : ℕ → Bool) (ds : List ℕ) → ((c : ℕ) → 48 ≤ c → c ≤ 57 → q c ≡ true) → AreDigits ds → Passes q ds
unfolding AreDigits
pass q [] each all = refl
pass q (c ∷ cs) each all =
    let k = tells_all_ascii_digits.parts c cs all in passes_then q c cs (each c k.0.0 k.0.1) (pass q cs each k.1)

pub decimal_passes : (q : ℕ → Bool) (n : ℕ) → n < 2 ^ 64 → ((c : ℕ) → 48 ≤ c → c ≤ 57 → q c ≡ true) → Passes q (decimal n)
unfolding AreDigits
decimal_passes q n small each = pass q (decimal n) each (digits_decimal model n small)

-- a count and a port
number_back : (n : ℕ) → n < 2 ^ 32 → number (decimal n) ≡ Some n
unfolding AreDigits
number_back n small =
    let wide : n < 2 ^ 64 = omega (arith, small) in
    let some : 1 ≤ length (decimal n) = (decimal_is_IsNumeral n wide).0.0 in
    let few : length (decimal n) ≤ 10 = length-decimal-le 10 n (omega arith) (omega (arith, small)) wide in
    let sized : (nat_le 1 (length (decimal n)) && nat_le (length (decimal n)) 10) ≡ true = λ i. le-leb 1 (length (decimal n)) some i && le-leb (length (decimal n)) 10 few i in
    ap (λ b. cond b (number_behind 0 (decimal n)) None) sized
    ∙ reads 0 (decimal n) (digits_decimal model n wide)
    ∙ ap Some (digits_value-decimal model n wide)

pub at_most_back : (max n : ℕ) → n ≤ max → n < 2 ^ 32 → at_most max (number (decimal n)) ≡ Some n
at_most_back max n within small = ap (at_most max) (number_back n small) ∙ ap (λ b. cond b (Some n) None) (le-leb n max within)

no_zero : (ds : List ℕ) → 48 < slice_index_or ds 0 0 → has_leading_zero ds ≡ false
no_zero [] some = refl
no_zero (c ∷ []) some = refl
no_zero (c ∷ d ∷ more) some = ne_eqb c 48 (λ e. omega (arith, some, e))

none_leads : (n : ℕ) → n < 2 ^ 32 → has_leading_zero (decimal n) ≡ false
none_leads zero small = ap has_leading_zero (decimal_digit 0 (omega arith))
none_leads (suc n) small = no_zero (decimal (suc n)) (first_decimal (suc n) (omega arith) (omega (arith, small)))

-- a number without leading zeros
pub written_back : (max n : ℕ) → n ≤ max → n < 2 ^ 32 → written max (decimal n) ≡ Some n
written_back max n within small =
    ap (λ b. cond b None (at_most max (number (decimal n)))) (none_leads n small) ∙ at_most_back max n within small

-- the four bytes of an address
four_read : (a b c d : ℕ) → a < 256 → b < 256 → c < 256 → d < 256 → four_bytes (decimal a ∷ decimal b ∷ decimal c ∷ decimal d ∷ []) ≡ Some (a ∷ b ∷ c ∷ d ∷ [])
four_read a b c d small_a small_b small_c small_d =
    let read : (n : ℕ) → n < 256 → written 255 (decimal n) ≡ Some n = λ n small. written_back 255 n (omega (arith, small)) (omega (arith, small)) in
    λ i. four (read a small_a i) (read b small_b i) (read c small_c i) (read d small_d i)

no_dot : (n : ℕ) → n < 256 → Passes (other 46) (decimal n)
no_dot n small = decimal_passes (other 46) n (omega (arith, small)) (λ c low high. ap not (ne_eqb c 46 (λ e. omega (arith, low, e))))

pub address_back : (a b c d : ℕ) → a < 256 → b < 256 → c < 256 → d < 256 → address (join_with_byte 46 (decimal a ∷ decimal b ∷ decimal c ∷ decimal d ∷ [])) ≡ Some (a ∷ b ∷ c ∷ d ∷ [])
address_back a b c d small_a small_b small_c small_d =
    ap four_bytes (split_joined 46 (decimal a) (decimal b ∷ decimal c ∷ decimal d ∷ []) (no_dot a small_a, (no_dot b small_b, (no_dot c small_c, (no_dot d small_d, tt)))))
    ∙ four_read a b c d small_a small_b small_c small_d
