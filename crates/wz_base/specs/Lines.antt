-- Lines that wait to be written.
use Rattle.std.specs.Prelude.{◌≡◌, ℕ, List, ◌++◌, Option}
use Rattle.wz_base.specs.Whole.{Appends}

-- of what waited, and these bytes after it, a prefix was written, and the rest waits
pub record Gathers (waiting bytes rest : List ℕ) (old new : Option (List ℕ)) : Type 0 where
  pub sent : List ℕ
  pub written : Appends old sent new
  pub parts : sent ++ rest ≡ waiting ++ bytes
