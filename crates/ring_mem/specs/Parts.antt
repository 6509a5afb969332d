-- The parts of a memory: the sizes they can have, and what lies outside of one.
use Rattle.std.specs.Prelude.{◌≡◌, ◌≤◌, ◌<◌, ◌⊎◌, ℕ, zero, suc, ◌+◌, ◌/◌, ◌%◌, Bool, true, false, ◌==◌, ◌||◌, List, slice_index, slice_index_or, if◌then◌else◌}
use Rattle.chip_sheet.specs.Positions.{pair}

-- A size in bytes that a buffer can have.
abbrev pub is_size : ℕ → Bool
is_size size = size == 0 || size == 1024 || size == 2048 || size == 4096 || size == 8192 || size == 16384

abbrev pub IsSize : ℕ → Type 0
IsSize size = is_size size ≡ true

-- The sum of the sizes of the sockets below one: where its part begins.
abbrev pub sum_below : List ℕ → ℕ → ℕ
sum_below sizes zero = 0
sum_below sizes (suc n) = sum_below sizes n + slice_index sizes n

-- The place of a pointer in a buffer of this size.
abbrev pub offset_in : ℕ → ℕ → ℕ
offset_in size at = if size == 0 then 0 else at % size

-- Nothing has changed outside of so many places from one on.
abbrev pub SameBytesOutside : List ℕ → List ℕ → ℕ → ℕ → Type 0
SameBytesOutside old new start size =
    (at : ℕ) → (at < start) ⊎ (start + size ≤ at) → slice_index new at ≡ slice_index old at

abbrev pub SameMarksOutside : List Bool → List Bool → ℕ → ℕ → Type 0
SameMarksOutside old new start size =
    (at : ℕ) → (at < start) ⊎ (start + size ≤ at) → slice_index_or new at false ≡ slice_index_or old at false

-- A register of two bytes at this address, after a write of a byte.
abbrev pub with_byte : ℕ → ℕ → ℕ → ℕ → ℕ
with_byte register value addr v =
    if addr == register then pair v (value % 256) else
    (if addr == register + 1 then pair (value / 256) v else value)
