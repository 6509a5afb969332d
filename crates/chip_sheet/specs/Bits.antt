-- The bits of a byte.
use Rattle.std.specs.Prelude.{ℕ, ◌/◌, ◌%◌, Bool, ◌==◌}

-- A byte has the bit of this value, a power of two from 1 to 128.
abbrev pub has_bit : ℕ → ℕ → Bool
has_bit byte value = byte / value % 2 == 1
