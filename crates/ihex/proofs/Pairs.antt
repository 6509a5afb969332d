-- Bytes read from pairs of digits.
use Rattle.std.proofs.Common.{◌≡◌, ℕ, zero, suc, ◌+◌, ◌*◌, ◌-◌, ◌/◌, ◌%◌, ◌<◌, ◌≤◌, true, false, eqb, List, [], ◌∷◌, ◌++◌, length, get_or, take, set, Some, refl, sym, ap, ◌∙◌, arith}
use Rattle.std.proofs.lemmas.List.{take_more, take_more_set, take_all}
use Rattle.std.proofs.lemmas.Grind.{common_steps}
use Rattle.std.proofs.lemmas.Bool.{eq-eqb}
use Rattle.std.specs.List.{list_all}
use Rattle.ihex.specs.declared.fault.HexKind.TheVariants.{BadLength}
use Rattle.ihex.specs.Digits.{is_digit, digit, bytes_of}
use Rattle.ihex.specs.Record.{first_kind, digit_faults}

pub length-bytes_of : (digits : List ℕ) (n : ℕ) → length digits ≡ 2 * n → length (bytes_of digits) ≡ n
length-bytes_of [] n e = omega (arith, e)
length-bytes_of (c ∷ []) n e = absurd (omega (arith, e))
length-bytes_of (a ∷ b ∷ more) n e =
    let ih : length (bytes_of more) ≡ n - 1 = length-bytes_of more (n - 1) (omega (arith, e)) in omega (arith, ih, e)

byte_at : (digits : List ℕ) (i : ℕ) → 2 * i + 1 < length digits → get_or (bytes_of digits) i 0 ≡ 16 * digit (get_or digits (2 * i) 0) + digit (get_or digits (2 * i + 1) 0)
byte_at [] i h = absurd (omega (arith, h))
byte_at (c ∷ []) i h = absurd (omega (arith, h))
byte_at (a ∷ b ∷ more) zero h = refl
byte_at (a ∷ b ∷ more) (suc i) h =
    let low : 2 * suc i + 1 ≡ suc (suc (2 * i + 1)) = omega arith in
    let high : 2 * suc i ≡ suc (suc (2 * i)) = omega arith in
    rw (low, high) (byte_at more i (omega (arith, h)))

-- one more byte is read
pub bytes_more : (digits bytes : List ℕ) (i v : ℕ) → length digits ≡ 2 * length bytes → i < length bytes → v ≡ 16 * digit (get_or digits (2 * i) 0) + digit (get_or digits (2 * i + 1) 0)
    → take i bytes ≡ take i (bytes_of digits) → take (i + 1) (set bytes i v) ≡ take (i + 1) (bytes_of digits)
bytes_more digits bytes i v long below is so_far =
    let n : length (bytes_of digits) ≡ length bytes = length-bytes_of digits (length bytes) long in
    take_more_set bytes i v below
    ∙ ap (λ (p : List ℕ). p ++ v ∷ []) so_far
    ∙ ap (λ (w : ℕ). take i (bytes_of digits) ++ w ∷ []) (is ∙ sym (byte_at digits i (omega (arith, long, below))))
    ∙ sym (take_more (bytes_of digits) i 0 (omega (arith, n, below)))

-- all bytes are read
pub bytes_all : (digits bytes : List ℕ) (i : ℕ) → length digits ≡ 2 * length bytes → length bytes ≤ i → take i bytes ≡ take i (bytes_of digits) → bytes ≡ bytes_of digits
bytes_all digits bytes i long last so_far =
    let n : length (bytes_of digits) ≡ length bytes = length-bytes_of digits (length bytes) long in
    sym (take_all i bytes last) ∙ so_far ∙ take_all i (bytes_of digits) (omega (arith, n, last))

pub digit_small : (c : ℕ) → digit c ≤ 15
unfolding digit
digit_small c = grind (arith, common_steps)

first_small : (digits : List ℕ) → get_or (bytes_of digits) 0 0 ≤ 255
first_small [] = omega arith
first_small (c ∷ []) = omega arith
first_small (a ∷ b ∷ more) = omega (arith, digit_small a, digit_small b)

-- no count tells more than 255 data bytes
pub too_long : (digits : List ℕ) → length digits % 2 ≡ 0 → 520 < length digits → eqb (length (bytes_of digits)) (get_or (bytes_of digits) 0 0 + 5) ≡ false
too_long digits even long =
    let n : length (bytes_of digits) ≡ length digits / 2 = length-bytes_of digits (length digits / 2) (omega (arith, even)) in
    grind (arith, n, long, even, first_small digits)

-- more digits than any count tells
pub long_fault : (base : ℕ) (digits : List ℕ) → list_all is_digit digits ≡ true → length digits % 2 ≡ 0 → 520 < length digits → first_kind (digit_faults base digits) ≡ Some BadLength
long_fault base digits all even long = rw (all, eq-eqb (length digits % 2) 0 even, too_long digits even long) refl
