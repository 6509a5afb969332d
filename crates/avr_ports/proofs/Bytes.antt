-- A byte by its bits.
use Rattle.std.proofs.Common.{◌≡◌, ℕ, zero, suc, ◌+◌, ◌-◌, ◌*◌, ◌/◌, ◌%◌, ◌^◌, ◌<◌, Bool, true, false, min, refl, ap, arith, ◌∙◌}
use Rattle.std.specs.Prelude.{◌==◌, not, ◌&&◌, bit_and, bit_xor, if◌then◌else◌}
use Rattle.std.specs.Int.{bit_at}
use Rattle.std.proofs.lemmas.Nat.Bits.{bit_at_and, bit_at_xor, bit_at-lt}
use Rattle.avr_sheet.specs.Bits.{is_set, weighed, with_bit, differ}
use Rattle.avr_sheet.proofs.Table.{table, same_at}
use Rattle.avr_ports.specs.Bits.{byte, any_bit}

byte_values : table {A = ℕ} (λ u n. byte (is_set n)) 0 0 256 ≡ table {A = ℕ} (λ u n. n) 0 0 256
unfolding byte
byte_values = refl

-- a byte is made of its bits
pub byte-bit : (n : ℕ) → n < 256 → byte (is_set n) ≡ n
byte-bit n small = same_at {A = ℕ} (λ u n. byte (is_set n)) (λ u n. n) 0 0 256 byte_values n (omega arith) (omega arith)

pub byte-same : (f g : ℕ → Bool) → f 0 ≡ g 0 → f 1 ≡ g 1 → f 2 ≡ g 2 → f 3 ≡ g 3 → f 4 ≡ g 4 → f 5 ≡ g 5 → f 6 ≡ g 6 → f 7 ≡ g 7
    → byte f ≡ byte g
unfolding byte
byte-same f g h0 h1 h2 h3 h4 h5 h6 h7 = rw (h0, h1, h2, h3, h4, h5, h6, h7) refl

pub any_bit-same : (f g : ℕ → Bool) → f 0 ≡ g 0 → f 1 ≡ g 1 → f 2 ≡ g 2 → f 3 ≡ g 3 → f 4 ≡ g 4 → f 5 ≡ g 5 → f 6 ≡ g 6 → f 7 ≡ g 7
    → any_bit f ≡ any_bit g
unfolding any_bit
any_bit-same f g h0 h1 h2 h3 h4 h5 h6 h7 = rw (h0, h1, h2, h3, h4, h5, h6, h7) refl

set_values : (b : Bool) → table {A = ℕ} (λ u n. byte (λ i. if i == 2 then b else is_set n i)) 0 0 256 ≡ table {A = ℕ} (λ u n. with_bit n 2 b) 0 0 256
unfolding byte
set_values true = refl
set_values false = refl

-- a byte with bit 2 as given, by its bits
pub byte-with_bit : (b : Bool) (n : ℕ) → n < 256 → byte (λ i. if i == 2 then b else is_set n i) ≡ with_bit n 2 b
byte-with_bit b n small =
    same_at {A = ℕ} (λ u n. byte (λ i. if i == 2 then b else is_set n i)) (λ u n. with_bit n 2 b) 0 0 256 (set_values b) n (omega arith) (omega arith)

nonzero_values : table {A = ℕ} (λ u n. not (n == 0)) 0 0 256 ≡ table {A = ℕ} (λ u n. any_bit (is_set n)) 0 0 256
unfolding any_bit
nonzero_values = refl

-- a byte is not 0 where one of its bits is 1
pub nonzero : (n : ℕ) → n < 256 → not (n == 0) ≡ any_bit (is_set n)
nonzero n small = same_at {A = ℕ} (λ u n. not (n == 0)) (λ u n. any_bit (is_set n)) 0 0 256 nonzero_values n (omega arith) (omega arith)

selected : (a b m : ℕ) → a < 2 → b < 2 → m < 2 → (min ((a + b) % 2) m == 1) ≡ ((m == 1) && differ (a == 1) (b == 1))
selected zero zero zero ha hb hm = refl
selected zero zero (suc zero) ha hb hm = refl
selected zero (suc zero) zero ha hb hm = refl
selected zero (suc zero) (suc zero) ha hb hm = refl
selected (suc zero) zero zero ha hb hm = refl
selected (suc zero) zero (suc zero) ha hb hm = refl
selected (suc zero) (suc zero) zero ha hb hm = refl
selected (suc zero) (suc zero) (suc zero) ha hb hm = refl
selected (suc (suc a)) b m ha hb hm = absurd (omega arith)
selected a (suc (suc b)) m ha hb hm = absurd (omega arith)
selected a b (suc (suc m)) ha hb hm = absurd (omega arith)

-- a is_set of the bytes that differ, under a mask
pub bit-selected : (a b m k : ℕ) → is_set (bit_and (bit_xor a b) m) k ≡ (is_set m k && differ (is_set a k) (is_set b k))
bit-selected a b m k =
    ap (λ v. v == 1) (bit_at_and (bit_xor a b) m k ∙ ap (λ v. min v (bit_at m k)) (bit_at_xor a b k))
    ∙ selected (bit_at a k) (bit_at b k) (bit_at m k) (bit_at-lt a k) (bit_at-lt b k) (bit_at-lt m k)

digits : (u0 u1 u2 u3 u4 u5 u6 u7 : ℕ) → u0 < 2 → u1 < 2 → u2 < 2 → u3 < 2 → u4 < 2 → u5 < 2 → u6 < 2 → u7 < 2
    → (n : ℕ) → n ≡ u0 + 2 * u1 + 4 * u2 + 8 * u3 + 16 * u4 + 32 * u5 + 64 * u6 + 128 * u7
    → (n / 1 % 2 ≡ u0) × (n / 2 % 2 ≡ u1) × (n / 4 % 2 ≡ u2) × (n / 8 % 2 ≡ u3) × (n / 16 % 2 ≡ u4) × (n / 32 % 2 ≡ u5) × (n / 64 % 2 ≡ u6) × (n / 128 % 2 ≡ u7)
digits u0 u1 u2 u3 u4 u5 u6 u7 h0 h1 h2 h3 h4 h5 h6 h7 n is =
    (omega arith, omega arith, omega arith, omega arith, omega arith, omega arith, omega arith, omega arith)

weighed-times : (b : Bool) (w : ℕ) → weighed b w ≡ w * weighed b 1
weighed-times true w = omega arith
weighed-times false w = omega arith

weighed_small : (b : Bool) → weighed b 1 < 2
weighed_small true = omega arith
weighed_small false = omega arith

weighed_is : (b : Bool) (n : ℕ) → n ≡ weighed b 1 → (n == 1) ≡ b
weighed_is true n is = rw is refl
weighed_is false n is = rw is refl

-- the bits of the byte that is made of eight
pub bits-byte : (f : ℕ → Bool)
    → (is_set (byte f) 0 ≡ f 0) × (is_set (byte f) 1 ≡ f 1) × (is_set (byte f) 2 ≡ f 2) × (is_set (byte f) 3 ≡ f 3)
    × (is_set (byte f) 4 ≡ f 4) × (is_set (byte f) 5 ≡ f 5) × (is_set (byte f) 6 ≡ f 6) × (is_set (byte f) 7 ≡ f 7)
unfolding byte
bits-byte f =
    let u : ℕ → ℕ = λ k. weighed (f k) 1 in
    let sum : byte f ≡ u 0 + 2 * u 1 + 4 * u 2 + 8 * u 3 + 16 * u 4 + 32 * u 5 + 64 * u 6 + 128 * u 7 =
    omega (arith, weighed-times (f 1) 2, weighed-times (f 2) 4, weighed-times (f 3) 8, weighed-times (f 4) 16, weighed-times (f 5) 32, weighed-times (f 6) 64, weighed-times (f 7) 128) in
    let d = digits (u 0) (u 1) (u 2) (u 3) (u 4) (u 5) (u 6) (u 7) (weighed_small (f 0)) (weighed_small (f 1)) (weighed_small (f 2)) (weighed_small (f 3))
    (weighed_small (f 4)) (weighed_small (f 5)) (weighed_small (f 6)) (weighed_small (f 7)) (byte f) sum in (
      weighed_is (f 0) _ d.0,
      weighed_is (f 1) _ d.1,
      weighed_is (f 2) _ d.2,
      weighed_is (f 3) _ d.3,
      weighed_is (f 4) _ d.4,
      weighed_is (f 5) _ d.5,
      weighed_is (f 6) _ d.6,
      weighed_is (f 7) _ d.7,
    )
