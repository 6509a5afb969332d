-- The firmware's side to its end.
use Rattle.std.proofs.Common.{◌≡◌, ℕ, List, Option, Some, sym, subst}
use Rattle.avr_mcu.specs.State.{McuState}
use Rattle.avr_run.specs.Told.{Told}
use Rattle.board_sim.specs.Playing.{Printed, printing}
use Rattle.chip_lock.specs.Passes.{PassView}
use Rattle.board_run.specs.declared.firmware.Cut.{Cut}
use Rattle.board_run.specs.declared.wire.Unanswered.{Unanswered}
use Rattle.board_run.specs.Going.{Goes}
use Rattle.board_run.specs.Ran.{RanTo, side}
use Rattle.board_run.specs.Sides.{IsLeft}
use Rattle.board_run.specs.Wires.{Keeps, WireView, told_of}
use Rattle.board_run.proofs.Staying.{stays_then}

-- Steps up to what cut them, and what is left behind them.
pub ran_to : (cycles : ℕ) (cut : Cut) (s now : McuState) (w v : WireView) (pass : PassView) (old new : Printed)
    → Goes (Some cut) cycles s (told_of w) now (told_of v) old new → Keeps w v → IsLeft v pass
    → RanTo cycles cut (side s w.pass w.refused old) (side now pass v.refused new)
ran_to cycles cut s now w v pass old new goes keeps left = record {
  goes = subst (λ (told : Told). Goes (Some cut) cycles s (told_of w) now told old new) (sym left.told) goes;
  stays = stays_then w.pass v.pass pass keeps.stays left.stays;
  ends = left.ends;
}

-- The same of what is handed on of it.
pub ran_left : (cycles : ℕ) (cut cut' : Cut) (s now now' : McuState) (w v : WireView) (pass : PassView) (refused : Option Unanswered) (old : Printed) (written written' : Option (List ℕ)) (last last' : Option ℕ)
    → Goes (Some cut) cycles s (told_of w) now (told_of v) old (printing written last) → Keeps w v → IsLeft v pass
    → cut' ≡ cut → now' ≡ now → refused ≡ v.refused → written' ≡ written → last' ≡ last
    → RanTo cycles cut' (side s w.pass w.refused old) (side now' pass refused (printing written' last'))
ran_left cycles cut cut' s now now' w v pass refused old written written' last last' goes keeps left same_cut same_now same_refused same_written same_last =
    rw (same_cut, same_now, same_refused, same_written, same_last) (ran_to cycles cut s now w v pass old (printing written last) goes keeps left)
