-- How a live run begins, and what is left of it behind its end.
use Rattle.std.specs.Prelude.{◌≡◌, ℕ, List}
use Rattle.chip_sheet.specs.Legal.{Legal}
use Rattle.chip_shared.specs.State.{State}
use Rattle.chip_shared.specs.Tied.{Tied}
use Rattle.chip_lock.specs.Passes.{PassView}
use Rattle.link_trait.specs.Shown.{Shown}
use Rattle.avr_mcu.specs.State.{McuState, reset_state}
use Rattle.board_file.specs.Boards.{Setup}
use Rattle.board_sim.specs.Ends.{starts_of}
use Rattle.board_run.specs.Lives.{Left}

-- A run of an image on a board begins: the part is after reset, and the firmware's pass is on the board's terms.
pub record Begins (image : List ℕ) (setup : Setup) (mcu : McuState) (cycles : ℕ) (pass : PassView) : Type 0 where
  pub reset : mcu ≡ reset_state image
  pub cycles_are : cycles ≡ setup.cycles
  pub starts : pass.starts ≡ starts_of setup
  pub limit : pass.limit ≡ setup.events

-- The history and the links of this state are left, and the part's cycles. The history is legal, and the links agree with it.
pub record Leaves {L : Type 0} (shown : L → Shown) (now : State L) (mcu : McuState) (left : Left) : Type 0 where
  pub past : left.past ≡ now.log.past
  pub links : left.links ≡ shown now.links
  pub cycles : left.cycles ≡ mcu.devices.cycles
  pub legal : Legal now.starts now.log.past
  pub tied : Tied now.starts now.log.past (shown now.links)
