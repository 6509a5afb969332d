-- The bit formulas of an addition give its flag group.
use Rattle.std.proofs.Common.{◌≡◌, ℕ, ◌+◌, ◌-◌, ◌*◌, ◌/◌, ◌%◌, ◌<◌, ◌≤◌, min, ap, ◌∙◌, arith}
use Rattle.std.specs.Prelude.{bit_and, bit_or, bit_xor, not, ◌==◌, nat_le, pos, ◌+ℤ◌}
use Rattle.std.proofs.lemmas.Grind.{common_steps}
use Rattle.std.proofs.lemmas.Int.{ints}
use Rattle.avr_alu.specs.Groups.{sum, addition_flags, signed, is_outside_byte}
use Rattle.avr_alu.specs.Bits.{addition_by_bits}
use Rattle.avr_alu.proofs.BitFormulas.{carry_out, sum_carries_at, differ_at, same_test, negative, bit_3, bit_7}

abbrev carries : ℕ → ℕ → ℕ → ℕ
carries a b r = bit_or (bit_and a b) (bit_and (bit_or a b) (255 - r))

abbrev overflows : ℕ → ℕ → ℕ → ℕ
overflows a b r = bit_and (bit_xor a r) (bit_xor b r)

-- The carry out of bit 3.
half_below : (a b c : ℕ) → c < 2 → carry_out (a / 8 % 2) (b / 8 % 2) (sum a b c / 8 % 2) ≡ 0 → a % 16 + b % 16 + c < 16
half_below a b c small none = omega arith

half_above : (a b c : ℕ) → c < 2 → 0 < carry_out (a / 8 % 2) (b / 8 % 2) (sum a b c / 8 % 2) → 16 ≤ a % 16 + b % 16 + c
half_above a b c small some = omega arith

half : (a b c : ℕ) → c < 2 → not (bit_and (carries a b (sum a b c)) 8 == 0) ≡ nat_le 16 (a % 16 + b % 16 + c)
half a b c small =
    let r : ℕ = sum a b c in
    let out : carries a b r / 8 % 2 ≡ carry_out (a / 8 % 2) (b / 8 % 2) (r / 8 % 2) = sum_carries_at a b r 3 (omega arith) (omega arith) in
    let mask : bit_and (carries a b r) 8 ≡ carry_out (a / 8 % 2) (b / 8 % 2) (r / 8 % 2) * 8 = bit_3 (carries a b r) ∙ ap (λ n. n * 8) out in
    ap (λ n. not (n == 0)) mask ∙ same_test (carry_out (a / 8 % 2) (b / 8 % 2) (r / 8 % 2) * 8) 16 (a % 16 + b % 16 + c)
    (λ none. half_below a b c small (omega arith)) (λ some. half_above a b c small (omega arith))

-- The carry out of bit 7.
whole_below : (a b c : ℕ) → a < 256 → b < 256 → c < 2 → carry_out (a / 128 % 2) (b / 128 % 2) (sum a b c / 128 % 2) ≡ 0 → a + b + c < 256
whole_below a b c a_in b_in small none = omega arith

whole_above : (a b c : ℕ) → a < 256 → b < 256 → c < 2 → 0 < carry_out (a / 128 % 2) (b / 128 % 2) (sum a b c / 128 % 2) → 256 ≤ a + b + c
whole_above a b c a_in b_in small some = omega arith

whole : (a b c : ℕ) → a < 256 → b < 256 → c < 2 → not (bit_and (carries a b (sum a b c)) 128 == 0) ≡ nat_le 256 (a + b + c)
whole a b c a_in b_in small =
    let r : ℕ = sum a b c in
    let out : carries a b r / 128 % 2 ≡ carry_out (a / 128 % 2) (b / 128 % 2) (r / 128 % 2) = sum_carries_at a b r 7 (omega arith) (omega arith) in
    let mask : bit_and (carries a b r) 128 ≡ carry_out (a / 128 % 2) (b / 128 % 2) (r / 128 % 2) * 128 = bit_7 (carries a b r) ∙ ap (λ n. n * 128) out in
    ap (λ n. not (n == 0)) mask ∙ same_test (carry_out (a / 128 % 2) (b / 128 % 2) (r / 128 % 2) * 128) 256 (a + b + c)
    (λ none. whole_below a b c a_in b_in small (omega arith)) (λ some. whole_above a b c a_in b_in small (omega arith))

-- An overflow: operands of one sign and a result of the other.
outside : (a b c x : ℕ) → a < 256 → b < 256 → c < 2 → x ≡ min ((a / 128 % 2 + sum a b c / 128 % 2) % 2) ((b / 128 % 2 + sum a b c / 128 % 2) % 2)
    → not (x * 128 == 0) ≡ is_outside_byte (signed a +ℤ signed b +ℤ pos c)
outside a b c x a_in b_in small is = grind (arith, common_steps, ints)

overflow : (a b c : ℕ) → a < 256 → b < 256 → c < 2 → not (bit_and (overflows a b (sum a b c)) 128 == 0) ≡ is_outside_byte (signed a +ℤ signed b +ℤ pos c)
overflow a b c a_in b_in small =
    let r : ℕ = sum a b c in
    ap (λ n. not (n == 0)) (bit_7 (overflows a b r)) ∙ outside a b c (overflows a b r / 128 % 2) a_in b_in small (differ_at a r b r 7)

pub same_addition : (a b carry : ℕ) → a < 256 → b < 256 → carry < 2 → addition_by_bits a b (sum a b carry) ≡ addition_flags a b carry
same_addition a b carry a_in b_in small =
    let e_half = half a b carry small in
    let e_overflow = overflow a b carry a_in b_in small in
    let e_negative = negative (sum a b carry) (omega arith) in
    let e_carry = whole a b carry a_in b_in small in
    cc
