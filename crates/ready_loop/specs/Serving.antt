-- What serving the links makes of a pass.
use Rattle.std.specs.Prelude.{◌≡◌, ◌⊎◌, ℕ, Some}
use Rattle.wz_base.specs.Outside.{Rose}
use Rattle.chip_lock.specs.declared.over.Over.TheVariants.{PollFault}
use Rattle.chip_lock.specs.Passes.{PassView, StaysOf, exchanges_of}

-- The pass is of the same turns. It made no event of the bus more, and found no stop.
pub record Serves (old new : PassView) : Type 0 where
  pub stays : StaysOf old new
  pub quiet : exchanges_of new.mine ≡ exchanges_of old.mine
  pub found : new.found ≡ old.found

-- It gave no cause more, or a fault of the poller, whose count of waits that failed went from the first number to the second and rose.
abbrev pub GivesFault : ℕ → ℕ → PassView → PassView → Type 0
GivesFault before now old new = (new.gave ≡ old.gave) ⊎ ((new.gave ≡ Some PollFault) × Rose before now)
