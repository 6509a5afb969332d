-- What both passes together leave: the shared state, and why the turns ended.
use Rattle.std.specs.Prelude.{◌≡◌, ◌⊎◌, ℕ, ◌<◌, true, false, List, Option, Some, None}
use Rattle.board_bus.specs.declared.event.BusAnswer.{BusAnswer}
use Rattle.board_bus.specs.declared.event.BusEvent.{BusEvent}
use Rattle.chip_sheet.specs.Life.{lives}
use Rattle.chip_sheet.specs.Windows.{flight}
use Rattle.chip_hist.specs.Log.{is_full}
use Rattle.link_trait.specs.Shown.{Shown}
use Rattle.chip_shared.specs.State.{State}
use Rattle.chip_lock.specs.declared.over.Over.{Over}
use Rattle.chip_lock.specs.declared.over.Over.TheVariants.{Stopped, TraceFull, NoMemory, PollFault, Finished}
use Rattle.wz_base.specs.Outside.{Rose}
use Rattle.board_sim.specs.Exchanges.{asked_of, answers_of}
use Rattle.avr_mcu.specs.declared.run.RunEnd.TheVariants as firmwares
use Rattle.board_sim.specs.declared.end.RunEnd.{RunEnd}
use Rattle.board_sim.specs.declared.end.RunEnd.TheVariants as ends
use Rattle.board_run.specs.declared.firmware.Cut.{Cut}
use Rattle.board_run.specs.declared.firmware.Cut.TheVariants as cuts
use Rattle.board_run.specs.declared.wire.Unanswered.{Unanswered}
use Rattle.avr_run.specs.Told.{Told}
use Rattle.board_run.specs.Lives.{IsClosing, StopsThere}
use Rattle.board_run.specs.Sides.{OnlyFault}

-- Why an event got no answer, over a poller of which so many waits had failed and have failed now. That the run was over is no cause.
abbrev pub CausedBy : {L : Type 0} → Over → State L → BusEvent → ℕ → ℕ → Type 0
CausedBy (Stopped s) now c before after = StopsThere now.starts now.log.limit now.log.past c s
CausedBy TraceFull now c before after = is_full now.log ≡ true
CausedBy NoMemory now c before after = Unit {0}
CausedBy PollFault now c before after = Rose before after
CausedBy Finished now c before after = ⊥

-- By whether an event got no answer; where each got one, the chip has not stopped.
abbrev pub CauseOf : {L : Type 0} → Option Unanswered → State L → ℕ → ℕ → Type 0
CauseOf None now before after = now.stopped ≡ None
CauseOf (Some u) now before after = CausedBy u.why now u.event before after

-- The events of the bus and their answers are these: those that the firmware's pass made.
pub record HasBus {L : Type 0} (asked : List BusEvent) (answers : List BusAnswer) (now : State L) : Type 0 where
  pub events_are : asked_of now.log.past ≡ asked
  pub answers_are : answers_of now.log.past ≡ answers

abbrev pub IsNotFinished : Option Unanswered → Type 0
IsNotFinished None = Unit {0}
IsNotFinished (Some u) = u.why ≡ Finished → ⊥

-- The run's end for a cause of the turns.
abbrev pub EndedFor : Over → RunEnd → Type 0
EndedFor (Stopped s) end = end ≡ ends.Chip s
EndedFor TraceFull end = end ≡ ends.TraceFull
EndedFor NoMemory end = end ≡ ends.NoMemory
EndedFor PollFault end = end ≡ ends.PollFault
EndedFor Finished end = ⊥

-- The end of the firmware's own, behind which closing was made; where memory was missing at it, that is the end.
abbrev pub ClosesTo : RunEnd → RunEnd → Type 0
ClosesTo own end = (end ≡ own) ⊎ (end ≡ ends.NoMemory)

-- A run's end, by what cut it. But for closing nothing has changed.
abbrev pub IsEnd : {L : Type 0} → Cut → Option Unanswered → State L → RunEnd → State L → Type 0
IsEnd (cuts.Step firmwares.Break) refused old end new = ClosesTo ends.Break end
IsEnd (cuts.Step firmwares.Sleep) refused old end new = ClosesTo ends.Sleep end
IsEnd (cuts.Step firmwares.CycleLimit) refused old end new = ClosesTo ends.CycleLimit end
IsEnd (cuts.Step (firmwares.Stop why)) refused old end new = (end ≡ ends.Avr why) × (new ≡ old)
IsEnd (cuts.Step (firmwares.Wants c)) None old end new = ⊥
IsEnd (cuts.Step (firmwares.Wants c)) (Some u) old end new = EndedFor u.why end × (new ≡ old)
IsEnd cuts.WriteFault refused old end new = (end ≡ ends.WriteFault) × (new ≡ old)

-- Bytes are in flight on a socket only where its last write stalled in its present life, unless the history is full.
abbrev pub StallsOnly : {L : Type 0} → (L → Shown) → State L → Type 0
StallsOnly shown now = is_full now.log ≡ false → (n : ℕ) → n < 8 → 0 < flight now.starts now.log.past n → (shown now.links).stalled n ≡ lives now.log.past n

-- A run's end with its cause in the state that is left, by what cut it, over a poller of which so many waits had failed and have failed now.
abbrev pub EndsWith : {L : Type 0} → Cut → Option Unanswered → State L → ℕ → ℕ → RunEnd → Type 0
EndsWith (cuts.Step firmwares.Break) refused now before after end = ClosesTo ends.Break end
EndsWith (cuts.Step firmwares.Sleep) refused now before after end = ClosesTo ends.Sleep end
EndsWith (cuts.Step firmwares.CycleLimit) refused now before after end = ClosesTo ends.CycleLimit end
EndsWith (cuts.Step (firmwares.Stop why)) refused now before after end = end ≡ ends.Avr why
EndsWith (cuts.Step (firmwares.Wants c)) None now before after end = ⊥
EndsWith (cuts.Step (firmwares.Wants c)) (Some u) now before after end = EndedFor u.why end × CausedBy u.why now u.event before after
EndsWith cuts.WriteFault refused now before after end = end ≡ ends.WriteFault

-- What the firmware was told, what cut its run, the first event that got no answer, and what the pass of the links gave.
pub record BothSides : Type 0 where
  pub told : Told
  pub cut : Cut
  pub refused : Option Unanswered
  pub gave : Option Over

-- The state that both sides leave, and the run's end.
pub record IsOver {L : Type 0} (shown : L → Shown) (sides : BothSides) (end : RunEnd) (now : State L) : Type 0 where
  pub bus : HasBus sides.told.asked sides.told.answers now
  pub ends : (before after : ℕ) → OnlyFault before after sides.gave → EndsWith sides.cut sides.refused now before after end
  pub stalls : IsClosing end → StallsOnly shown now
