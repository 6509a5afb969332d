-- The steps of a stretch, from the first one on.
use Rattle.std.proofs.Common.{◌≡◌, ℕ, zero, suc, Option, refl, sym, subst}
use Rattle.avr_mcu.specs.State.{McuState, printed}
use Rattle.avr_mcu.specs.Stretch.{IsMove, GoesOn}
use Rattle.avr_run.specs.Steps.{GoesFrom, StretchGoesFrom}

one-more : (limit : ℕ) (byte : Option ℕ) (k : ℕ) (s mid t : McuState) → GoesFrom limit byte k s mid → IsMove limit byte mid t → GoesFrom limit byte (suc k) s t
one-more limit byte zero s mid t goes move = (t, subst (λ (m : McuState). IsMove limit byte m t) goes move, refl)
one-more limit byte (suc k) s mid t goes move = (goes.0, goes.1, one-more limit byte k goes.0 mid t goes.2 move)

pub stretch-goes-from : StretchGoesFrom
stretch-goes-from limit zero s t goes = goes
stretch-goes-from limit (suc k) s t goes = one-more limit (printed s) k s goes.0 t (stretch-goes-from limit k s goes.0 goes.1) goes.2
