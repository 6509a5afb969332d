-- Numbers of 16 bits in decimal: their digits, one after the other, and how many there are.
use Rattle.std.proofs.Common.{◌≡◌, ℕ, ◌+◌, ◌/◌, ◌%◌, ◌^◌, ◌<◌, ◌≤◌, [], ◌∷◌, ◌++◌, length, ap, ◌∙◌, arith, length-append}
use Rattle.std.specs.Fmt.{decimal}
use Rattle.std.proofs.lemmas.Fmt.{decimal_digit, decimal_step, length-decimal-le}

fits : (n : ℕ) → n < 2 ^ 16 → n < 2 ^ 64
fits n h = omega arith

pub last_digit : (n : ℕ) → 10 ≤ n → n < 2 ^ 16 → decimal n ≡ decimal (n / 10) ++ (48 + n % 10) ∷ []
last_digit n high h = decimal_step n high (fits n h)

pub length_one : (n : ℕ) → n < 10 → length (decimal n) ≡ 1
length_one n h = ap length (decimal_digit n h)

pub length_more : (n : ℕ) → 10 ≤ n → n < 2 ^ 16 → length (decimal n) ≡ length (decimal (n / 10)) + 1
length_more n high h = ap length (last_digit n high h) ∙ length-append (decimal (n / 10)) ((48 + n % 10) ∷ [])

pub length_short : (n : ℕ) → n < 2 ^ 16 → length (decimal n) ≤ 5
length_short n h = length-decimal-le 5 n (omega arith) (omega arith) (fits n h)
