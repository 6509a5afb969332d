-- Positions. Bytes that are sent and received are counted in lists without bound; a register shows a position modulo 65,536, and
-- a buffer has it at its place modulo the buffer's size.
use Rattle.std.specs.Prelude.{ℕ, ◌+◌, ◌-◌, ◌*◌, ◌%◌, ◌/◌, zero, suc, ◌==◌, Bool, ◌||◌, ◌&&◌, nat_lt, nat_le, Option, Some, None, List, [], ◌∷◌, if◌then◌else◌, false}

-- The register that shows a position.
abbrev pub shown : ℕ → ℕ
shown at = at % 65536

-- How far the pointer in a register is ahead of a position.
abbrev pub ahead : ℕ → ℕ → ℕ
ahead at pointer = (65536 + pointer - at % 65536) % 65536

-- The byte of a register of two bytes at the place with this index: its high byte stands at the lower place.
abbrev pub byte_of : ℕ → ℕ → ℕ
byte_of index value = if index == 0 then value / 256 % 256 else value % 256

-- A register of two bytes.
abbrev pub pair : ℕ → ℕ → ℕ
pair high low = 256 * high + low

-- Of the `count` positions from `first` on, counted from 0, the one that a buffer of this size has at the same place as this
-- address. Where the buffer is not larger than `count` there is at most one.
abbrev pub place_among : ℕ → ℕ → ℕ → ℕ → Option ℕ
place_among first zero size addr = None
place_among first (suc count) size addr =
    if (first + count) % size == addr % size then Some count else place_among first count size addr

-- The same in a buffer that may have no place at all.
abbrev pub found_among : ℕ → ℕ → ℕ → ℕ → Option ℕ
found_among first count zero addr = None
found_among first count (suc most) addr = place_among first count (suc most) addr

-- Some member of a list lies above the first and not above the second.
abbrev pub has_between : ℕ → ℕ → List ℕ → Bool
has_between from to [] = false
has_between from to (at ∷ more) = (nat_lt from at && nat_le at to) || has_between from to more
