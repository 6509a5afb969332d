-- What the firmware's side of a live run comes to.
use Rattle.std.specs.Prelude.{ℕ, Option, Some}
use Rattle.avr_mcu.specs.State.{McuState}
use Rattle.chip_lock.specs.Passes.{PassView, StaysOf}
use Rattle.board_sim.specs.Playing.{Printed}
use Rattle.board_run.specs.declared.firmware.Cut.{Cut}
use Rattle.board_run.specs.declared.wire.Unanswered.{Unanswered}
use Rattle.board_run.specs.Wires.{told_by}
use Rattle.board_run.specs.Sides.{EndsBy}
use Rattle.board_run.specs.Going.{Goes}

-- The firmware's side before and after: the part, its pass, the first event that got no answer, and what was printed.
pub record Side : Type 0 where
  pub mcu : McuState
  pub pass : PassView
  pub refused : Option Unanswered
  pub printed : Printed

-- From its bus before any step it came to what cut it, and its pass has ended.
pub record RanTo (cycles : ℕ) (cut : Cut) (old new : Side) : Type 0 where
  pub goes : Goes (Some cut) cycles old.mcu (told_by old.pass.mine old.refused) new.mcu (told_by new.pass.mine new.refused) old.printed new.printed
  pub stays : StaysOf old.pass new.pass
  pub ends : EndsBy new.pass new.refused

abbrev pub side : McuState → PassView → Option Unanswered → Printed → Side
side mcu pass refused printed = record { mcu = mcu; pass = pass; refused = refused; printed = printed }
