-- The schedule of a scripted run, whole: steps of the microcontroller, each with the board's answers to what it asks, and sweeps between
-- them. It is a function of the image, the board's numbers and its scripts.
use Rattle.std.specs.Prelude.{◌≡◌, ℕ, zero, suc, ◌+◌, false, List, [], ◌++◌, Option, Some, None, if◌then◌else◌}
use Rattle.chip_sheet.specs.Past.{Past}
use Rattle.chip_sheet.specs.Stops.{stop}
use Rattle.chip_sheet.specs.declared.stop.ChipStop.{ChipStop}
use Rattle.board_bus.specs.declared.event.BusEvent.{BusEvent}
use Rattle.link_script.specs.Play.{Played}
use Rattle.avr_mcu.specs.Run.{byte_of, end_of}
use Rattle.avr_mcu.specs.State.{McuState, reset_state, printed, taken}
use Rattle.avr_mcu.specs.Step.{Gone, stepped}
use Rattle.avr_mcu.specs.declared.run.RunEnd as firmware
use Rattle.avr_mcu.specs.declared.run.RunEnd.TheVariants as firmwares
use Rattle.avr_run.specs.Steps.{Played as PlayedTo, played, instructions_of}
use Rattle.board_sim.specs.Boards.{Board, is_full_at, answers, next}
use Rattle.board_sim.specs.Sweeps.{rested}
use Rattle.board_sim.specs.Closes.{closed}
use Rattle.board_sim.specs.declared.end.RunEnd.{RunEnd}
use Rattle.board_sim.specs.declared.end.RunEnd.TheVariants as ends

-- One step of the microcontroller: the part after it, a printed byte still waiting, the board after the events that it asked, with the
-- instruction counted, and the end of the run, if the step is the last.
pub record Turn : Type 0 where
  pub state : McuState
  pub board : Board
  pub end : Option firmware.RunEnd

abbrev pub turned : ℕ → PlayedTo Board Gone → Turn
turned cycles p = record {
  state = p.result.state;
  board = record p.bus { steps = p.bus.steps + instructions_of p.result.went };
  end = end_of p.bus.wanted p.result.went cycles p.result.state.devices.cycles;
}

unfoldable pub turn : ℕ → McuState → Board → Turn
turn cycles s b = turned cycles (played answers next (stepped s) b)

-- What a run comes to: the history, the peers, the bytes that the firmware printed, its cycles and its last addresses, and the end.
pub record Outcome : Type 0 where
  pub past : Past
  pub links : Played
  pub serial : List ℕ
  pub cycles : ℕ
  pub trail : List ℕ
  pub end : RunEnd

abbrev pub over_at : McuState → Board → RunEnd → Outcome
over_at s b end = record {
  past = b.past;
  links = b.links;
  serial = [];
  cycles = s.devices.cycles;
  trail = s.trail;
  end = end;
}

-- Why an event got no answer: the history is full, or the chip stops.
abbrev pub stopped_by : Option ChipStop → RunEnd
stopped_by None = ends.TraceFull
stopped_by (Some s) = ends.Chip s

abbrev pub unanswered : Board → BusEvent → RunEnd
unanswered b c = if is_full_at b.events b.past then ends.TraceFull else stopped_by (stop b.starts b.past c)

-- The run's last step was this one. After a `break`, a `sleep` from which nothing wakes, and the limit of cycles, closing is made.
unfoldable pub finished : McuState → Board → firmware.RunEnd → Outcome
finished s b firmwares.Break = over_at s (closed b) ends.Break
finished s b firmwares.Sleep = over_at s (closed b) ends.Sleep
finished s b firmwares.CycleLimit = over_at s (closed b) ends.CycleLimit
finished s b (firmwares.Stop stop) = over_at s b (ends.Avr stop)
finished s b (firmwares.Wants c) = over_at s b (unanswered b c)

abbrev pub behind : List ℕ → Outcome → Outcome
behind serial o = record o { serial = serial ++ o.serial }

-- At most so many steps. After each: its printed byte, its end, the limit of cycles, and the sweep where one is due.
unfoldable pub turns : ℕ → ℕ → McuState → Board → Outcome
turns zero cycles s b = over_at s b ends.CycleLimit
turns (suc more) cycles s b =
    let t = turn cycles s b in
    behind (byte_of (printed t.state)) (elim t.end [
      | Some end ↦ finished t.state t.board end
      | None ↦
          let r = rested t.board in
          if r.cut then over_at t.state r.board ends.TraceFull else turns more cycles (taken t.state) r.board
    ])

-- The whole run. Each step that does not end it costs a cycle, so there are no more steps than cycles.
unfoldable pub sched : ℕ → List ℕ → Board → Outcome
sched cycles image b = turns (cycles + 1) cycles (reset_state image) b

-- Where the run stands between two steps, and what it has printed.
pub record Standing : Type 0 where
  pub state : McuState
  pub board : Board
  pub serial : List ℕ

-- So many steps lead from one standing to another, and none of them ends the run.
abbrev pub GoesTo : ℕ → ℕ → Standing → Standing → Type 0
GoesTo zero cycles a z = z ≡ a
GoesTo (suc more) cycles a z =
    let t = turn cycles a.state a.board in
    (t.end ≡ None) × (((rested t.board).cut ≡ false)
    × GoesTo more cycles (record { state = taken t.state; board = (rested t.board).board; serial = a.serial ++ byte_of (printed t.state) }) z)
