-- The product of the extended bytes is the signed product on 16 bits: a negative factor is 65536 less its distance from 0.
use Rattle.std.proofs.Common.{◌≡◌, ℕ, zero, suc, ◌+◌, ◌-◌, ◌*◌, ◌%◌, ◌<◌, ◌≤◌, true, false, refl, ap, sym, ◌∙◌, arith, inl, inr}
use Rattle.std.specs.Prelude.{pos, negsuc, ◌*ℤ◌, ◌-ℤ◌, nat_lt}
use Rattle.std.proofs.Math.Nat.{add-mul, mul-add, mul-le-mul_left, mul-le-mul_right}
use Rattle.std.proofs.lemmas.Bool.{cases_lt}
use Rattle.std.proofs.lemmas.Bool.Decides.{nat_tests}
use Rattle.std.proofs.lemmas.Int.{ints}
use Rattle.avr_alu.specs.Groups.{signed}
use Rattle.avr_alu.specs.Effects.{word_of}
use Rattle.avr_alu.specs.Bits.{extended}
use Rattle.std.proofs.Math.IntN.{neg_ℤ}

signed_low : (a : ℕ) → a < 128 → signed a ≡ pos a
signed_low a low = let test : nat_lt a 128 ≡ true = grind (arith, nat_tests) in rw test refl

signed_high : (a : ℕ) → 128 ≤ a → a < 256 → signed a ≡ negsuc (255 - a)
signed_high a high in_byte =
    let test : nat_lt a 128 ≡ false = grind (arith, nat_tests) in
    let is : pos a -ℤ pos 256 ≡ negsuc (255 - a) = omega (arith, ints) in
    rw test is

extended_low : (a : ℕ) → a < 128 → extended a ≡ a
extended_low a low = omega arith

extended_high : (a : ℕ) → 128 ≤ a → a < 256 → extended a ≡ 65536 - suc (255 - a)
extended_high a high in_byte = omega arith

bound : (a b m n : ℕ) → a ≤ m → b ≤ n → a * b ≤ m * n
bound a b m n first second = omega (arith, mul-le-mul_right b first, mul-le-mul_left m second)

-- The word of a negative number, by its distance from 0.
word_negative : (m p n : ℕ) → m + p ≡ 65536 * n → p < 65536 → m % 65536 ≡ word_of (neg_ℤ (pos p))
word_negative m zero n whole small = omega arith
word_negative m (suc p) n whole small = omega arith

turned_first : (x b : ℕ) → x ≤ 128 → b < 256 → (65536 - x) * b % 65536 ≡ word_of (neg_ℤ (pos (x * b)))
turned_first x b near in_byte =
    let sum : (65536 - x) + x ≡ 65536 = omega arith in
    let whole : (65536 - x) * b + x * b ≡ 65536 * b = sym (add-mul (65536 - x) x b) ∙ ap (λ n. n * b) sum in
    let most : x * b ≤ 128 * 255 = bound x b 128 255 near (omega arith) in
    word_negative ((65536 - x) * b) (x * b) b whole (omega arith)

turned_second : (a y : ℕ) → a < 256 → y ≤ 128 → a * (65536 - y) % 65536 ≡ word_of (neg_ℤ (pos (a * y)))
turned_second a y in_byte near =
    let sum : (65536 - y) + y ≡ 65536 = omega arith in
    let whole : a * (65536 - y) + a * y ≡ a * 65536 = sym (mul-add a (65536 - y) y) ∙ ap (λ n. a * n) sum in
    let most : a * y ≤ 255 * 128 = bound a y 255 128 (omega arith) near in
    word_negative (a * (65536 - y)) (a * y) a (omega arith) (omega arith)

turned_both : (x y : ℕ) → x ≤ 128 → y ≤ 128 → (65536 - x) * (65536 - y) % 65536 ≡ x * y
turned_both x y near_x near_y =
    let sum_x : (65536 - x) + x ≡ 65536 = omega arith in
    let sum_y : (65536 - y) + y ≡ 65536 = omega arith in
    let outer : (65536 - x) * (65536 - y) + x * (65536 - y) ≡ 65536 * (65536 - y) = sym (add-mul (65536 - x) x (65536 - y)) ∙ ap (λ n. n * (65536 - y)) sum_x in
    let inner : x * (65536 - y) + x * y ≡ x * 65536 = sym (mul-add x (65536 - y) y) ∙ ap (λ n. x * n) sum_y in
    let most : x * y ≤ 128 * 128 = bound x y 128 128 near_x near_y in
    omega arith

small_product : (a b : ℕ) → a < 256 → b < 256 → a * b % 65536 ≡ a * b
small_product a b a_in b_in = let most : a * b ≤ 255 * 255 = bound a b 255 255 (omega arith) (omega arith) in omega arith

pub same_signed_product : (a b : ℕ) → a < 256 → b < 256 → extended a * extended b % 65536 ≡ word_of (signed a *ℤ signed b)
same_signed_product a b a_in b_in = elim (cases_lt a 128) [
  | inl a_low ↦ elim (cases_lt b 128) [
    | inl b_low ↦ rw (extended_low a a_low, extended_low b b_low, signed_low a a_low, signed_low b b_low) (small_product a b a_in b_in)
    | inr b_high ↦
        rw (extended_low a a_low, extended_high b b_high b_in, signed_low a a_low, signed_high b b_high b_in) (turned_second a (suc (255 - b)) a_in (omega arith))
  ]
  | inr a_high ↦ elim (cases_lt b 128) [
    | inl b_low ↦
        rw (extended_high a a_high a_in, extended_low b b_low, signed_high a a_high a_in, signed_low b b_low) (turned_first (suc (255 - a)) b (omega arith) b_in)
    | inr b_high ↦
        rw (extended_high a a_high a_in, extended_high b b_high b_in, signed_high a a_high a_in, signed_high b b_high b_in)
        (turned_both (suc (255 - a)) (suc (255 - b)) (omega arith) (omega arith))
  ]
]

pub same_mixed_product : (a b : ℕ) → a < 256 → b < 256 → extended a * b % 65536 ≡ word_of (signed a *ℤ pos b)
same_mixed_product a b a_in b_in = elim (cases_lt a 128) [
  | inl a_low ↦ rw (extended_low a a_low, signed_low a a_low) (small_product a b a_in b_in)
  | inr a_high ↦ rw (extended_high a a_high a_in, signed_high a a_high a_in) (turned_first (suc (255 - a)) b (omega arith) b_in)
]
