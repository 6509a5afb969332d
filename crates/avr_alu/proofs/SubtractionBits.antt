-- The bit formulas of a subtraction give its flag group.
use Rattle.std.proofs.Common.{◌≡◌, ℕ, ◌+◌, ◌-◌, ◌*◌, ◌/◌, ◌%◌, ◌<◌, ◌≤◌, min, ap, ◌∙◌, arith}
use Rattle.std.specs.Prelude.{bit_and, bit_or, bit_xor, not, ◌==◌, nat_lt, pos, ◌-ℤ◌}
use Rattle.std.proofs.lemmas.Grind.{common_steps}
use Rattle.std.proofs.lemmas.Int.{ints}
use Rattle.avr_alu.specs.Groups.{difference, subtraction_flags, signed, is_outside_byte}
use Rattle.avr_alu.specs.Bits.{subtraction_by_bits}
use Rattle.avr_alu.proofs.BitFormulas.{borrow_out, difference_carries_at, differ_at, same_order, negative, bit_3, bit_7}

abbrev borrows : ℕ → ℕ → ℕ → ℕ
borrows a b r = bit_or (bit_and (255 - a) b) (bit_and (bit_or (255 - a) b) r)

abbrev overflows : ℕ → ℕ → ℕ → ℕ
overflows a b r = bit_and (bit_xor a b) (bit_xor a r)

-- The borrow out of bit 3.
half_none : (a b c : ℕ) → a < 256 → b < 256 → c < 2 → borrow_out (a / 8 % 2) (b / 8 % 2) (difference a b c / 8 % 2) ≡ 0 → b % 16 + c ≤ a % 16
half_none a b c a_in b_in small none = omega arith

half_some : (a b c : ℕ) → a < 256 → b < 256 → c < 2 → 0 < borrow_out (a / 8 % 2) (b / 8 % 2) (difference a b c / 8 % 2) → a % 16 < b % 16 + c
half_some a b c a_in b_in small some = omega arith

half : (a b c : ℕ) → a < 256 → b < 256 → c < 2 → not (bit_and (borrows a b (difference a b c)) 8 == 0) ≡ nat_lt (a % 16) (b % 16 + c)
half a b c a_in b_in small =
    let r : ℕ = difference a b c in
    let out : borrows a b r / 8 % 2 ≡ borrow_out (a / 8 % 2) (b / 8 % 2) (r / 8 % 2) = difference_carries_at a b r 3 a_in (omega arith) in
    let mask : bit_and (borrows a b r) 8 ≡ borrow_out (a / 8 % 2) (b / 8 % 2) (r / 8 % 2) * 8 = bit_3 (borrows a b r) ∙ ap (λ n. n * 8) out in
    ap (λ n. not (n == 0)) mask ∙ same_order (borrow_out (a / 8 % 2) (b / 8 % 2) (r / 8 % 2) * 8) (a % 16) (b % 16 + c)
    (λ none. half_none a b c a_in b_in small (omega arith)) (λ some. half_some a b c a_in b_in small (omega arith))

-- The borrow out of bit 7.
whole_none : (a b c : ℕ) → a < 256 → b < 256 → c < 2 → borrow_out (a / 128 % 2) (b / 128 % 2) (difference a b c / 128 % 2) ≡ 0 → b + c ≤ a
whole_none a b c a_in b_in small none = omega arith

whole_some : (a b c : ℕ) → a < 256 → b < 256 → c < 2 → 0 < borrow_out (a / 128 % 2) (b / 128 % 2) (difference a b c / 128 % 2) → a < b + c
whole_some a b c a_in b_in small some = omega arith

whole : (a b c : ℕ) → a < 256 → b < 256 → c < 2 → not (bit_and (borrows a b (difference a b c)) 128 == 0) ≡ nat_lt a (b + c)
whole a b c a_in b_in small =
    let r : ℕ = difference a b c in
    let out : borrows a b r / 128 % 2 ≡ borrow_out (a / 128 % 2) (b / 128 % 2) (r / 128 % 2) = difference_carries_at a b r 7 a_in (omega arith) in
    let mask : bit_and (borrows a b r) 128 ≡ borrow_out (a / 128 % 2) (b / 128 % 2) (r / 128 % 2) * 128 = bit_7 (borrows a b r) ∙ ap (λ n. n * 128) out in
    ap (λ n. not (n == 0)) mask ∙ same_order (borrow_out (a / 128 % 2) (b / 128 % 2) (r / 128 % 2) * 128) a (b + c)
    (λ none. whole_none a b c a_in b_in small (omega arith)) (λ some. whole_some a b c a_in b_in small (omega arith))

-- An overflow: operands of two signs and a result of the other's.
outside : (a b c x : ℕ) → a < 256 → b < 256 → c < 2 → x ≡ min ((a / 128 % 2 + b / 128 % 2) % 2) ((a / 128 % 2 + difference a b c / 128 % 2) % 2)
    → not (x * 128 == 0) ≡ is_outside_byte (signed a -ℤ signed b -ℤ pos c)
outside a b c x a_in b_in small is = grind (arith, common_steps, ints)

overflow : (a b c : ℕ) → a < 256 → b < 256 → c < 2
    → not (bit_and (overflows a b (difference a b c)) 128 == 0) ≡ is_outside_byte (signed a -ℤ signed b -ℤ pos c)
overflow a b c a_in b_in small =
    let r : ℕ = difference a b c in
    ap (λ n. not (n == 0)) (bit_7 (overflows a b r)) ∙ outside a b c (overflows a b r / 128 % 2) a_in b_in small (differ_at a b a r 7)

pub same_subtraction : (a b carry : ℕ) → a < 256 → b < 256 → carry < 2 → subtraction_by_bits a b (difference a b carry) ≡ subtraction_flags a b carry
same_subtraction a b carry a_in b_in small =
    let e_half = half a b carry a_in b_in small in
    let e_overflow = overflow a b carry a_in b_in small in
    let e_negative = negative (difference a b carry) (omega arith) in
    let e_carry = whole a b carry a_in b_in small in
    cc
