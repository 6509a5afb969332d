-- Bytes by their bits.
use Rattle.std.proofs.Common.{◌≡◌, ◌<◌, ℕ, ◌^◌, eqb, refl, arith, zero, suc}
use Rattle.std.specs.Int.{bit_at}
use Rattle.std.proofs.lemmas.Nat.Bits.{bit_at-lt, same_from_bits_below}
use Rattle.chip_sheet.specs.Bits.{has_bit}

-- a bit by its test
same_bit : (x y : ℕ) → x < 2 → y < 2 → eqb x 1 ≡ eqb y 1 → x ≡ y
same_bit zero zero a b h = refl
same_bit zero (suc zero) a b h = cc
same_bit (suc zero) zero a b h = cc
same_bit (suc zero) (suc zero) a b h = refl
same_bit (suc (suc x)) y a b h = absurd (omega arith)
same_bit x (suc (suc y)) a b h = absurd (omega arith)

-- two bytes with the same eight bits
pub same_byte : (a b : ℕ) → a < 256 → b < 256 → ((n : ℕ) → n < 8 → has_bit a (2 ^ n) ≡ has_bit b (2 ^ n)) → a ≡ b
same_byte a b small low h = same_from_bits_below 8 a b small low (λ i below. same_bit (bit_at a i) (bit_at b i) (bit_at-lt a i) (bit_at-lt b i) (h i below))
