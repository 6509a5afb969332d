-- Marks of a part, one for each place: set at the last byte of each range in flight.
use Rattle.std.specs.Prelude.{◌≡◌, ℕ, zero, suc, ◌+◌, ◌%◌, Bool, false, not, ◌==◌, ◌||◌, ◌&&◌, List, slice_index_or}

-- One more place is marked, if so.
abbrev pub Marked : List Bool → List Bool → ℕ → Bool → Type 0
Marked old new place so =
    (at : ℕ) → slice_index_or new at false ≡ (slice_index_or old at false || (so && at == place))

-- A place is one of so many from a position on.
abbrev pub is_among : ℕ → ℕ → ℕ → ℕ → ℕ → Bool
is_among start size first zero at = false
is_among start size first (suc k) at = is_among start size first k at || at == start + (first + k) % size

-- One of these places is marked.
abbrev pub any_marked : List Bool → ℕ → ℕ → ℕ → ℕ → Bool
any_marked marks start size first zero = false
any_marked marks start size first (suc k) =
    any_marked marks start size first k || slice_index_or marks (start + (first + k) % size) false

-- These places are marked no more.
abbrev pub Cleared : List Bool → List Bool → ℕ → ℕ → ℕ → ℕ → Type 0
Cleared old new start size first k =
    (at : ℕ) → slice_index_or new at false ≡ (slice_index_or old at false && not (is_among start size first k at))
