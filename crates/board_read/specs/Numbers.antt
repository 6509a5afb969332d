-- Numbers and addresses, in decimal.
use Rattle.std.specs.Prelude.{ℕ, ◌+◌, ◌-◌, ◌*◌, nat_le, Bool, false, ◌==◌, ◌&&◌, List, [], ◌∷◌, length, Option, None, Some, if◌then◌else◌}
use Rattle.std.specs.List.{slice_split}

-- 48 to 57 are 0 to 9.
abbrev pub is_digit : ℕ → Bool
is_digit c = nat_le 48 c && nat_le c 57

-- The number that these digits write behind those of n, where each byte is a digit.
abbrev pub number_behind : ℕ → List ℕ → Option ℕ
number_behind n [] = Some n
number_behind n (c ∷ more) = if is_digit c then number_behind (n * 10 + (c - 48)) more else None

-- The number that one to ten digits write; it may begin with zeros.
abbrev pub number : List ℕ → Option ℕ
number text = if nat_le 1 (length text) && nat_le (length text) 10 then number_behind 0 text else None

abbrev pub at_most : ℕ → Option ℕ → Option ℕ
at_most max None = None
at_most max (Some n) = if nat_le n max then Some n else None

-- A port.
abbrev pub port : List ℕ → Option ℕ
port text = at_most 65535 (number text)

-- A count of bytes.
abbrev pub count : List ℕ → Option ℕ
count text = at_most 4294967295 (number text)

-- A number of two digits or more that begins with a zero: 48 is 0.
abbrev pub has_leading_zero : List ℕ → Bool
has_leading_zero [] = false
has_leading_zero (c ∷ []) = false
has_leading_zero (c ∷ d ∷ more) = c == 48

-- A number as it is written, without leading zeros.
abbrev pub written : ℕ → List ℕ → Option ℕ
written max text = if has_leading_zero text then None else at_most max (number text)

-- A start pointer.
abbrev pub pointer : List ℕ → Option ℕ
pointer text = written 65535 text

abbrev pub four : Option ℕ → Option ℕ → Option ℕ → Option ℕ → Option (List ℕ)
four (Some a) (Some b) (Some c) (Some d) = Some (a ∷ b ∷ c ∷ d ∷ [])
four a b c d = None

-- The four bytes of an address, from the parts between its dots.
abbrev pub four_bytes : List (List ℕ) → Option (List ℕ)
four_bytes (a ∷ b ∷ c ∷ d ∷ []) = four (written 255 a) (written 255 b) (written 255 c) (written 255 d)
four_bytes parts = None

-- The bytes of an address: four numbers of 0 to 255, as they are written, with dots between; 46 is a dot.
abbrev pub address : List ℕ → Option (List ℕ)
address text = four_bytes (slice_split (λ b. b == 46) text)
