-- The calls of a fake in memory: each has a number, from 1, and those of the listed numbers fail.
use Rattle.std.specs.Prelude.{◌≡◌, ℕ, ◌+◌, ◌-◌, ◌^◌, min, List, Contains}
use Rattle.wz_base.specs.declared.calls.Calls.{Calls}

-- the number of the next call; it stands still at the last value of u64
abbrev pub next_number : Calls → ℕ
next_number calls = min (calls.made + 1) (2 ^ 64 - 1)

-- the next call is one of the listed ones
abbrev pub IsListed : Calls → Type 0
IsListed calls = Contains calls.failing.items (next_number calls)

-- one more call was made, and the list is the same
pub record OneMore (old new : Calls) : Type 0 where
  pub made : new.made ≡ next_number old
  pub failing : new.failing.items ≡ old.failing.items

-- no call was made yet, and these will fail
pub record IsFresh (calls : Calls) (numbers : List ℕ) : Type 0 where
  pub made : calls.made ≡ 0
  pub faults : calls.faults ≡ 0
  pub failing : calls.failing.items ≡ numbers
