-- The step of a run that printed a byte.
use Rattle.std.specs.Prelude.{◌≡◌, ℕ, List, [], ◌++◌, Option, Some}
use Rattle.board_bus.specs.declared.event.BusAnswer.{BusAnswer}
use Rattle.avr_mcu.specs.Answers.{led}
use Rattle.avr_mcu.specs.State.{McuState, printed, taken}
use Rattle.avr_mcu.specs.Step.{stepped}
use Rattle.avr_run.specs.Told.{Told, SoFar}

-- From `start` the run printed these bytes up to a step, which printed one more. It took the last of the answers, what it asked
-- was asked last, and the part stands behind it: nothing came behind that step.
pub record PrintsLast (cycles : ℕ) (start : McuState) (serial : List ℕ) (byte : ℕ) (now : McuState) (told : Told) : Type 0 where
  -- the part before that step, and what it was told by then
  pub at : McuState
  pub before : Told
  pub so_far : SoFar cycles start serial at before
  -- the answers of that step
  pub answers : List BusAnswer
  pub answers_are : told.answers ≡ before.answers ++ answers
  pub none_left : (led (stepped at) answers).left ≡ []
  pub asked_are : told.asked ≡ before.asked ++ (led (stepped at) answers).asked
  pub wanted_is : told.wanted ≡ (led (stepped at) answers).wants
  pub prints : printed (led (stepped at) answers).result.state ≡ Some byte
  pub leaves : now ≡ taken (led (stepped at) answers).result.state

-- From any run that has come so far with no byte printed since, where steps printed a byte, the last of them did.
abbrev pub LastPrints : ℕ → Option ℕ → McuState → Told → McuState → Told → Type 0
LastPrints cycles byte s told now told' =
    (v : ℕ) → byte ≡ Some v → (start : McuState) (serial : List ℕ) → SoFar cycles start serial s told → PrintsLast cycles start serial v now told'
