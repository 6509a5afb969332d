-- Single bits of a byte, by all bytes and all bits.
use Rattle.std.proofs.Common.{◌≡◌, ℕ, zero, suc, ◌+◌, ◌-◌, ◌*◌, ◌/◌, ◌%◌, ◌^◌, ◌<◌, Bool, true, false, bit_and, bit_or, refl, arith}
use Rattle.std.proofs.lemmas.Bool.{ltb-true}
use Rattle.std.specs.Prelude.{◌==◌, ◌&&◌, if◌then◌else◌, nat_lt}
use Rattle.avr_sheet.specs.Bits.{is_set, weighed, with_bit}
use Rattle.avr_sheet.specs.Laws.{OneBitChanges, BitsMakeByte}
use Rattle.avr_sheet.proofs.Table.{table, same_at, same_eight}

-- A bit set or cleared by a mask is the byte with that bit.
pub set_by_mask : (v b : ℕ) → v < 256 → b < 8 → bit_or v (1 * 2 ^ b % 256) ≡ with_bit v b true
set_by_mask = same_eight (λ (x : ℕ) v b. bit_or v (1 * 2 ^ b % 256)) (λ x v b. with_bit v b true) 0 refl

pub cleared_by_mask : (v b : ℕ) → v < 256 → b < 8 → bit_and v (255 - 1 * 2 ^ b % 256) ≡ with_bit v b false
cleared_by_mask = same_eight (λ (x : ℕ) v b. bit_and v (255 - 1 * 2 ^ b % 256)) (λ x v b. with_bit v b false) 0 refl

-- Each bit of a byte with one bit set, and with one cleared.
one_bit : (set : Bool) (v b k : ℕ) → v < 256 → b < 8 → k < 8 → is_set (with_bit v b set) k ≡ (if k == b then set else is_set v k)
one_bit true v b k v_in b_in k_in =
    let at_place = same_at (λ (x : ℕ) w. is_set (with_bit (w / 64) (w / 8 % 8) true) (w % 8))
    (λ x w. if w % 8 == w / 8 % 8 then true else is_set (w / 64) (w % 8)) 0 0 16384 refl (v * 64 + b * 8 + k) (omega arith) (omega arith) in
    let byte : (v * 64 + b * 8 + k) / 64 ≡ v = omega arith in
    let place : (v * 64 + b * 8 + k) / 8 % 8 ≡ b = omega arith in
    let other : (v * 64 + b * 8 + k) % 8 ≡ k = omega arith in
    rw (byte, place, other) at at_place
one_bit false v b k v_in b_in k_in =
    let at_place = same_at (λ (x : ℕ) w. is_set (with_bit (w / 64) (w / 8 % 8) false) (w % 8))
    (λ x w. if w % 8 == w / 8 % 8 then false else is_set (w / 64) (w % 8)) 0 0 16384 refl (v * 64 + b * 8 + k) (omega arith) (omega arith) in
    let byte : (v * 64 + b * 8 + k) / 64 ≡ v = omega arith in
    let place : (v * 64 + b * 8 + k) / 8 % 8 ≡ b = omega arith in
    let other : (v * 64 + b * 8 + k) % 8 ≡ k = omega arith in
    rw (byte, place, other) at at_place

-- A byte with one bit changed is a byte.
fits : (set : Bool) (v b : ℕ) → v < 256 → b < 8 → with_bit v b set < 256
fits true v b v_in b_in =
    ltb-true (with_bit v b true) 256 (same_eight (λ (x : ℕ) v b. nat_lt (with_bit v b true) 256) (λ x v b. true) 0 refl v b v_in b_in)
fits false v b v_in b_in =
    ltb-true (with_bit v b false) 256 (same_eight (λ (x : ℕ) v b. nat_lt (with_bit v b false) 256) (λ x v b. true) 0 refl v b v_in b_in)

pub one_bit_changes : OneBitChanges
one_bit_changes v b set v_in b_in = record { bits = λ k k_in. one_bit set v b k v_in b_in k_in; fits = fits set v b v_in b_in }

pub bits_make_byte : BitsMakeByte
bits_make_byte v v_in =
    same_at (λ (x : ℕ) v. weighed (is_set v 0) 1 + weighed (is_set v 1) 2 + weighed (is_set v 2) 4 + weighed (is_set v 3) 8
    + weighed (is_set v 4) 16 + weighed (is_set v 5) 32 + weighed (is_set v 6) 64 + weighed (is_set v 7) 128)
    (λ x v. v) 0 0 256 refl v (omega arith) (omega arith)
