-- A byte as eight bits, bit 0 the lowest.
use Rattle.std.specs.Prelude.{ℕ, ◌+◌, Bool, ◌||◌}
use Rattle.avr_sheet.specs.Bits.{weighed}

-- The byte with these bits.
unfoldable pub byte : (ℕ → Bool) → ℕ
byte f =
    weighed (f 0) 1 + weighed (f 1) 2 + weighed (f 2) 4 + weighed (f 3) 8
    + weighed (f 4) 16 + weighed (f 5) 32 + weighed (f 6) 64 + weighed (f 7) 128

-- Whether one of the eight bits passes.
unfoldable pub any_bit : (ℕ → Bool) → Bool
any_bit f = f 0 || f 1 || f 2 || f 3 || f 4 || f 5 || f 6 || f 7
