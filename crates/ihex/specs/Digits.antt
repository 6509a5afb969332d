-- Hexadecimal digits, in either case, and the bytes that pairs of them write.
use Rattle.std.specs.Prelude.{ℕ, ◌+◌, ◌*◌, ◌-◌, Bool, ◌&&◌, ◌||◌, nat_le, List, [], ◌∷◌, if◌then◌else◌}

-- The characters 0 to 9.
abbrev pub is_decimal : ℕ → Bool
is_decimal c = nat_le 48 c && nat_le c 57

-- The characters A to F.
abbrev pub is_upper : ℕ → Bool
is_upper c = nat_le 65 c && nat_le c 70

-- The characters a to f.
abbrev pub is_lower : ℕ → Bool
is_lower c = nat_le 97 c && nat_le c 102

-- A hexadecimal digit, in either case.
unfoldable pub is_digit : ℕ → Bool
is_digit c = is_decimal c || is_upper c || is_lower c

-- The value of a digit; 0 where the character is none.
unfoldable pub digit : ℕ → ℕ
digit c = if is_decimal c then c - 48 else (if is_upper c then c - 55 else (if is_lower c then c - 87 else 0))

-- The bytes that pairs of digits write, the high digit of each first.
abbrev pub bytes_of : List ℕ → List ℕ
bytes_of [] = []
bytes_of (c ∷ []) = []
bytes_of (high ∷ low ∷ more) = (16 * digit high + digit low) ∷ bytes_of more
