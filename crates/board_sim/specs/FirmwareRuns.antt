-- What the history of a schedule says of the firmware's run.
use Rattle.std.specs.Prelude.{◌≡◌, ◌⊎◌, ◌<◌, ℕ, true, false, List, ◌++◌, Some}
use Rattle.board_bus.specs.declared.event.BusAnswer.{BusAnswer}
use Rattle.board_bus.specs.declared.event.BusEvent.{BusEvent}
use Rattle.chip_sheet.specs.Streams.{Starts}
use Rattle.chip_sheet.specs.Stops.{stop}
use Rattle.link_script.specs.Scripts.{Script}
use Rattle.avr_mcu.specs.Run.{run, after}
use Rattle.avr_mcu.specs.State.{McuState, reset_state}
use Rattle.avr_mcu.specs.declared.run.RunEnd as firmware
use Rattle.avr_mcu.specs.declared.run.RunEnd.TheVariants as firmwares
use Rattle.board_sim.specs.Boards.{fresh, is_full_at}
use Rattle.board_sim.specs.Exchanges.{asked_of, answers_of}
use Rattle.board_sim.specs.Schedule.{Outcome, sched}
use Rattle.board_sim.specs.declared.end.RunEnd.{RunEnd}
use Rattle.board_sim.specs.declared.end.RunEnd.TheVariants as ends

-- On the answers of the history the firmware asks the history's events, prints these bytes, and ends so, after these cycles and with
-- these last addresses.
abbrev pub Ends : ℕ → McuState → Outcome → firmware.RunEnd → Type 0
Ends cycles start o end =
    run cycles start (answers_of o.past) ≡ record { asked = asked_of o.past; serial = o.serial; cycles = o.cycles; trail = o.trail; end = end }

-- It has not ended there: on further answers it goes on from a state below the limit.
pub record GoesOn (cycles : ℕ) (start : McuState) (o : Outcome) : Type 0 where
  pub state : McuState
  pub below : state.devices.cycles < cycles
  pub cycles_are : o.cycles ≡ state.devices.cycles
  pub trail_is : o.trail ≡ state.trail
  pub goes : (more : List BusAnswer) → run cycles start (answers_of o.past ++ more) ≡ after (asked_of o.past) o.serial (run cycles state more)

-- By the schedule's end. Where an event got no answer, the firmware wants one: the chip stops at that event, or the history is full. A
-- history can be full at a link step too. A schedule has no other end.
abbrev pub EndsBy : Starts → ℕ → ℕ → McuState → Outcome → RunEnd → Type 0
EndsBy starts events cycles start o ends.Break = Ends cycles start o firmwares.Break
EndsBy starts events cycles start o ends.Sleep = Ends cycles start o firmwares.Sleep
EndsBy starts events cycles start o ends.CycleLimit = Ends cycles start o firmwares.CycleLimit
EndsBy starts events cycles start o (ends.Avr why) = Ends cycles start o (firmwares.Stop why)
EndsBy starts events cycles start o (ends.Chip why) =
    (c : BusEvent) × (Ends cycles start o (firmwares.Wants c) × ((stop starts o.past c ≡ Some why) × (is_full_at events o.past ≡ false)))
EndsBy starts events cycles start o ends.TraceFull =
    (is_full_at events o.past ≡ true) × (((c : BusEvent) × Ends cycles start o (firmwares.Wants c)) ⊎ GoesOn cycles start o)
EndsBy starts events cycles start o ends.PollFault = ⊥
EndsBy starts events cycles start o ends.WriteFault = ⊥
EndsBy starts events cycles start o ends.NoMemory = ⊥

-- So ends the run of every image on every board.
abbrev pub FirmwareRuns : Type 0
FirmwareRuns = (cycles : ℕ) (image : List ℕ) (starts : Starts) (events : ℕ) (peers : List Script) →
    let o = sched cycles image (fresh starts events peers) in EndsBy starts events cycles (reset_state image) o o.end
