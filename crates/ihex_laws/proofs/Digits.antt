-- Bytes written as pairs of digits, and read back.
use Rattle.std.proofs.Common.{◌≡◌, ℕ, ◌+◌, ◌*◌, ◌/◌, ◌%◌, ◌<◌, ◌≤◌, true, List, [], ◌∷◌, ◌++◌, length, refl, ap, ◌∙◌, arith}
use Rattle.std.proofs.lemmas.Grind.{common_steps}
use Rattle.std.specs.List.{list_all}
use Rattle.ihex.specs.Digits.{is_digit, digit, bytes_of}
use Rattle.ihex.specs.Store.{upper, digits_of}

-- each is a byte
abbrev pub AllBytes : List ℕ → Type 0
AllBytes [] = Unit {0}
AllBytes (b ∷ more) = (b < 256) × AllBytes more

-- no character is a line's end
abbrev pub AllAbove : List ℕ → Type 0
AllAbove [] = Unit {0}
AllAbove (c ∷ more) = (14 ≤ c) × AllAbove more

pub digit-upper : (v : ℕ) → v < 16 → digit (upper v) ≡ v
unfolding digit upper
digit-upper v small = grind (arith, common_steps, small)

pub is_digit-upper : (v : ℕ) → v < 16 → is_digit (upper v) ≡ true
unfolding is_digit upper
is_digit-upper v small = grind (arith, common_steps, small)

pub upper_above : (v : ℕ) → 14 ≤ upper v
unfolding upper
upper_above v = grind (arith, common_steps)

pub bytes_of_digits : (bs : List ℕ) → AllBytes bs → bytes_of (digits_of bs) ≡ bs
bytes_of_digits [] all = refl
bytes_of_digits (b ∷ more) all =
    let high : digit (upper (b / 16)) ≡ b / 16 = digit-upper (b / 16) (omega (arith, all.0)) in
    let low : digit (upper (b % 16)) ≡ b % 16 = digit-upper (b % 16) (omega arith) in
    let whole : 16 * digit (upper (b / 16)) + digit (upper (b % 16)) ≡ b = omega (arith, high, low) in
    ap (λ (v : ℕ). v ∷ bytes_of (digits_of more)) whole ∙ ap (λ (l : List ℕ). b ∷ l) (bytes_of_digits more all.1)

pub digits_are_digits : (bs : List ℕ) → AllBytes bs → list_all is_digit (digits_of bs) ≡ true
digits_are_digits [] all = refl
digits_are_digits (b ∷ more) all =
    rw (is_digit-upper (b / 16) (omega (arith, all.0)), is_digit-upper (b % 16) (omega arith)) (digits_are_digits more all.1)

pub length-digits_of : (bs : List ℕ) → length (digits_of bs) ≡ 2 * length bs
length-digits_of [] = refl
length-digits_of (b ∷ more) = let ih : length (digits_of more) ≡ 2 * length more = length-digits_of more in omega (arith, ih)

pub digits_above : (bs : List ℕ) → AllBytes bs → AllAbove (digits_of bs)
digits_above [] all = tt
digits_above (b ∷ more) all = (upper_above (b / 16), (upper_above (b % 16), digits_above more all.1))

pub digits_of-append : (a b : List ℕ) → digits_of (a ++ b) ≡ digits_of a ++ digits_of b
digits_of-append [] b = refl
digits_of-append (x ∷ more) b = ap (λ (l : List ℕ). upper (x / 16) ∷ upper (x % 16) ∷ l) (digits_of-append more b)

pub all_bytes_append : (a b : List ℕ) → AllBytes a → AllBytes b → AllBytes (a ++ b)
all_bytes_append [] b left right = right
all_bytes_append (x ∷ more) b left right = (left.0, all_bytes_append more b left.1 right)

pub above_append : (a b : List ℕ) → AllAbove a → AllAbove b → AllAbove (a ++ b)
above_append [] b left right = right
above_append (x ∷ more) b left right = (left.0, above_append more b left.1 right)
