-- A byte as eight bits, bit 0 the lowest.
use Rattle.std.specs.Prelude.{ℕ, ◌+◌, ◌*◌, ◌/◌, ◌%◌, ◌^◌, ◌==◌, Bool, not, if◌then◌else◌}

-- Whether bit b of a byte is 1.
abbrev pub is_set : ℕ → ℕ → Bool
is_set v b = v / 2 ^ b % 2 == 1

-- What a bit adds to the byte in which it has this weight.
abbrev pub weighed : Bool → ℕ → ℕ
weighed set weight = if set then weight else 0

-- A bit as a number.
abbrev pub bit : Bool → ℕ
bit set = if set then 1 else 0

-- The byte with bit b as given, below it and above it as it was.
abbrev pub with_bit : ℕ → ℕ → Bool → ℕ
with_bit v b set = v / 2 ^ (b + 1) * 2 ^ (b + 1) + bit set * 2 ^ b + v % 2 ^ b

-- Whether two bits differ: their exclusive or.
abbrev pub differ : Bool → Bool → Bool
differ a b = if a then not b else b
