-- The bits of the formulas by which the code finds carries and overflows, as numbers.
use Rattle.std.proofs.Common.{◌≡◌, ℕ, ◌+◌, ◌-◌, ◌*◌, ◌/◌, ◌%◌, ◌<◌, ◌≤◌, max, min, ap, ◌∙◌, arith}
use Rattle.std.specs.Prelude.{bit_and, bit_or, bit_xor, not, ◌==◌, nat_le, nat_lt}
use Rattle.std.specs.Int.{bit_at, w8}
use Rattle.std.proofs.lemmas.Bool.Decides.{nat_tests}
use Rattle.std.proofs.lemmas.Nat.Bits.{and_pow, bit_at_and, bit_at_or, bit_at_xor, bit_at_not}

-- The carry out of a bit, by that bit of the operands and of the result.
abbrev pub carry_out : ℕ → ℕ → ℕ → ℕ
carry_out a b r = max (min a b) (min (max a b) (1 - r))

pub sum_carries_at : (a b r k : ℕ) → r < 256 → k < 8
    → bit_at (bit_or (bit_and a b) (bit_and (bit_or a b) (255 - r))) k ≡ carry_out (bit_at a k) (bit_at b k) (bit_at r k)
sum_carries_at a b r k small below =
    let inverse : bit_at (255 - r) k ≡ 1 - bit_at r k = bit_at_not w8 r k small below in
    simp (bit_at_or, bit_at_and, inverse)

-- The borrow into a bit, in the same way.
abbrev pub borrow_out : ℕ → ℕ → ℕ → ℕ
borrow_out a b r = max (min (1 - a) b) (min (max (1 - a) b) r)

pub difference_carries_at : (a b r k : ℕ) → a < 256 → k < 8
    → bit_at (bit_or (bit_and (255 - a) b) (bit_and (bit_or (255 - a) b) r)) k ≡ borrow_out (bit_at a k) (bit_at b k) (bit_at r k)
difference_carries_at a b r k small below =
    let inverse : bit_at (255 - a) k ≡ 1 - bit_at a k = bit_at_not w8 a k small below in
    simp (bit_at_or, bit_at_and, inverse)

-- Where two pairs of bytes differ in a bit.
pub differ_at : (a b x y k : ℕ) → bit_at (bit_and (bit_xor a b) (bit_xor x y)) k ≡ min ((bit_at a k + bit_at b k) % 2) ((bit_at x k + bit_at y k) % 2)
differ_at a b x y k = simp (bit_at_and, bit_at_xor)

-- A test of a number for 0 is a test of another for a bound.
pub same_test : (x m y : ℕ) → (x ≡ 0 → y < m) → (0 < x → m ≤ y) → not (x == 0) ≡ nat_le m y
same_test x m y below above = grind (arith, nat_tests)

pub bit_3 : (n : ℕ) → bit_and n 8 ≡ n / 8 % 2 * 8
bit_3 n = and_pow n 3

pub bit_7 : (n : ℕ) → bit_and n 128 ≡ n / 128 % 2 * 128
bit_7 n = and_pow n 7

pub same_order : (x y z : ℕ) → (x ≡ 0 → z ≤ y) → (0 < x → y < z) → not (x == 0) ≡ nat_lt y z
same_order x y z below above = grind (arith, nat_tests)

-- Bit 7 of a result.
pub negative : (r : ℕ) → r < 256 → not (bit_and r 128 == 0) ≡ nat_le 128 r
negative r small = ap (λ n. not (n == 0)) (bit_7 r) ∙ same_test (r / 128 % 2 * 128) 128 r (λ none. omega arith) (λ some. omega arith)
