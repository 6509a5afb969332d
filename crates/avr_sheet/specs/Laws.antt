-- What the definitions on bits come to.
use Rattle.std.specs.Prelude.{◌≡◌, ◌<◌, ℕ, ◌+◌, ◌==◌, Bool, if◌then◌else◌}
use Rattle.avr_sheet.specs.Bits.{is_set, weighed, with_bit}

-- A byte with bit b as given has that bit so, and each other bit as it was; and it is a byte.
pub record ChangesOneBit (v b : ℕ) (set : Bool) : Type 0 where
  pub bits : (k : ℕ) → k < 8 → is_set (with_bit v b set) k ≡ (if k == b then set else is_set v k)
  pub fits : with_bit v b set < 256

abbrev pub OneBitChanges : Type 0
OneBitChanges = (v b : ℕ) (set : Bool) → v < 256 → b < 8 → ChangesOneBit v b set

-- A byte is the sum of the weights of its bits that are 1.
abbrev pub BitsMakeByte : Type 0
BitsMakeByte = (v : ℕ) → v < 256 →
    weighed (is_set v 0) 1 + weighed (is_set v 1) 2 + weighed (is_set v 2) 4 + weighed (is_set v 3) 8
    + weighed (is_set v 4) 16 + weighed (is_set v 5) 32 + weighed (is_set v 6) 64 + weighed (is_set v 7) 128 ≡ v
