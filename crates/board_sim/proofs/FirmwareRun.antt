-- The firmware's run stands in the history of a schedule.
use Rattle.std.proofs.Common.{◌≡◌, ℕ, zero, suc, ◌+◌, ◌≤◌, ◌<◌, inl, inr, Bool, true, false, ◌||◌, if◌then◌else◌, List, [], ◌++◌, Option, None, Some, refl, sym, ap, ◌∙◌, subst, append-nil, arith}
use Rattle.std.proofs.lemmas.Bool.{false≢true}
use Rattle.board_bus.specs.declared.event.BusAnswer.{BusAnswer}
use Rattle.board_bus.specs.declared.event.BusEvent.{BusEvent}
use Rattle.chip_sheet.specs.declared.stop.ChipStop.{ChipStop}
use Rattle.chip_sheet.specs.Streams.{Starts}
use Rattle.chip_sheet.specs.Stops.{stop}
use Rattle.avr_mcu.specs.Run.{run, after, byte_of}
use Rattle.avr_mcu.specs.Settled.{Times}
use Rattle.avr_mcu.specs.State.{McuState, reset_state, printed, taken}
use Rattle.avr_mcu.specs.Step.{Gone, stepped}
use Rattle.avr_mcu.specs.declared.run.RunEnd as firmware
use Rattle.avr_mcu.specs.declared.run.RunEnd.TheVariants as firmwares
use Rattle.avr_mcu.proofs.Fuel.{goes-on}
use Rattle.avr_mcu.proofs.Timing.{step-times}
use Rattle.avr_run.specs.Steps.{Played, played}
use Rattle.avr_run.specs.Told.{SoFar, Ended}
use Rattle.avr_run.proofs.Runs.{turn-goes, turn-ends, run-begins}
use Rattle.board_sim.specs.Boards.{Board, answers, next, fresh, is_full_at, is_there}
use Rattle.board_sim.specs.Sweeps.{Swept, rested}
use Rattle.board_sim.specs.Closes.{closed}
use Rattle.board_sim.specs.Exchanges.{asked_of, answers_of}
use Rattle.board_sim.specs.Schedule.{Outcome, Turn, turn, turns, sched, finished, over_at, behind, stopped_by}
use Rattle.board_sim.specs.declared.end.RunEnd.{RunEnd}
use Rattle.board_sim.specs.declared.end.RunEnd.TheVariants as ends
use Rattle.board_sim.specs.FirmwareRuns.{Ends, EndsBy, FirmwareRuns}
use Rattle.board_sim.proofs.Turns.{turn_by, first_turn, behind_behind}
use Rattle.board_sim.proofs.Way.{played_all}
use Rattle.board_sim.proofs.Told.{told_of, IsDenied, played_came, played_denies}
use Rattle.board_sim.proofs.Quiet.{Same, rest_same, closing_same}
use Rattle.board_sim.proofs.Cut.{rest_full}

-- A step of the run.
record Steps (cycles : ℕ) (start : McuState) (serial : List ℕ) (s : McuState) (b : Board) (t : Turn) : Type 0 where
  pub starts : t.board.starts ≡ b.starts
  pub events : t.board.events ≡ b.events
  pub denied : IsDenied t.board.starts t.board.events t.board.past t.board.wanted
  pub rises : t.end ≡ None → (s.devices.cycles + 1 ≤ t.state.devices.cycles) × (t.state.devices.cycles < cycles)
  pub goes : t.end ≡ None → SoFar cycles start (serial ++ byte_of (printed t.state)) (taken t.state) (told_of t.board)
  pub ends : (end : firmware.RunEnd) → t.end ≡ Some end → Ended cycles start (serial ++ byte_of (printed t.state)) (taken t.state) (told_of t.board) end

step_is : (cycles : ℕ) (start : McuState) (serial : List ℕ) (s : McuState) (b : Board) → SoFar cycles start serial s (told_of b) → Steps cycles start serial s b (turn cycles s b)
unfolding turn
step_is cycles start serial s b far =
    let p : Played Board Gone = played answers next (stepped s) b in
    let t : Turn = turn cycles s b in
    let denies = played_denies (stepped s) b (subst (IsDenied b.starts b.events b.past) (sym far.none_wanted) tt) in
    record {
      starts = denies.starts;
      events = denies.events;
      denied = denies.denied;
      rises = λ on. goes-on p.bus.wanted p.result.went cycles s.devices.cycles p.result.state.devices.cycles (played_all (Times s) (stepped s) b (step-times s)) on;
      goes = λ on. turn-goes cycles s (told_of b) (told_of p.bus) p.result.went p.result.state (taken p.result.state) t.end (printed p.result.state)
          (λ none. played_came (stepped s) b none) refl refl refl on start serial far;
      ends = λ end is. turn-ends cycles s (told_of b) (told_of p.bus) p.result.went p.result.state (taken p.result.state) t.end (printed p.result.state)
          (λ none. played_came (stepped s) b none) refl refl refl end is start serial far;
    }

-- The run ended at a step, and link steps may follow.
ends_over : (cycles : ℕ) (start : McuState) (serial : List ℕ) (s : McuState) (b c : Board) (why : firmware.RunEnd) (end : RunEnd) → Same b c → Ended cycles start serial (taken s) (told_of b) why
    → Ends cycles start (behind serial (over_at s c end)) why
ends_over cycles start serial s b c why end same it =
    ap (run cycles start) same.answers ∙ it.is
    ∙ ap (λ (asked : List BusEvent). record { asked = asked; serial = serial; cycles = s.devices.cycles; trail = s.trail; end = why }) (sym same.asked)
    ∙ ap (λ (bytes : List ℕ). record { asked = asked_of c.past; serial = bytes; cycles = s.devices.cycles; trail = s.trail; end = why }) (sym (append-nil serial))

same_self : (b : Board) → Same b b
same_self b = record { asked = refl; answers = refl; wanted = refl; starts = refl; events = refl }

-- An event got no answer.
stopped_end : (starts : Starts) (events cycles : ℕ) (start : McuState) (serial : List ℕ) (s : McuState) (b : Board) (c : BusEvent) (at : Option ChipStop) → stop starts b.past c ≡ at
    → is_full_at events b.past ≡ false → (false || is_there at) ≡ true → Ended cycles start serial (taken s) (told_of b) (firmwares.Wants c)
    → EndsBy starts events cycles start (behind serial (over_at s b (stopped_by at))) (stopped_by at)
stopped_end starts events cycles start serial s b c None at room some it = absurd (false≢true some)
stopped_end starts events cycles start serial s b c (Some why) at room some it = (c, (ends_over cycles start serial s b b (firmwares.Wants c) (ends.Chip why) (same_self b) it, (at, room)))

wanting_by : (starts : Starts) (events cycles : ℕ) (start : McuState) (serial : List ℕ) (s : McuState) (b : Board) (c : BusEvent) (full : Bool) → is_full_at events b.past ≡ full
    → (full || is_there (stop starts b.past c)) ≡ true → Ended cycles start serial (taken s) (told_of b) (firmwares.Wants c)
    → let end = (if full then ends.TraceFull else stopped_by (stop starts b.past c)) in EndsBy starts events cycles start (behind serial (over_at s b end)) end
wanting_by starts events cycles start serial s b c true full some it = (full, inl (c, ends_over cycles start serial s b b (firmwares.Wants c) ends.TraceFull (same_self b) it))
wanting_by starts events cycles start serial s b c false full some it = stopped_end starts events cycles start serial s b c (stop starts b.past c) refl full some it

-- The last step.
last_step : (cycles : ℕ) (start : McuState) (serial : List ℕ) (s : McuState) (b : Board) (end : firmware.RunEnd) → IsDenied b.starts b.events b.past b.wanted → Ended cycles start serial (taken s) (told_of b) end
    → EndsBy b.starts b.events cycles start (behind serial (finished s b end)) (finished s b end).end
unfolding finished
last_step cycles start serial s b firmwares.Break denied it = ends_over cycles start serial s b (closed b) firmwares.Break ends.Break (closing_same b) it
last_step cycles start serial s b firmwares.Sleep denied it = ends_over cycles start serial s b (closed b) firmwares.Sleep ends.Sleep (closing_same b) it
last_step cycles start serial s b firmwares.CycleLimit denied it = ends_over cycles start serial s b (closed b) firmwares.CycleLimit ends.CycleLimit (closing_same b) it
last_step cycles start serial s b (firmwares.Stop why) denied it = ends_over cycles start serial s b b (firmwares.Stop why) (ends.Avr why) (same_self b) it
last_step cycles start serial s b (firmwares.Wants c) denied it =
    wanting_by b.starts b.events cycles start serial s b c (is_full_at b.events b.past) refl (subst (IsDenied b.starts b.events b.past) it.wants denied) it

-- A sweep was cut off.
cut_end : (starts : Starts) (events cycles : ℕ) (start : McuState) (serial : List ℕ) (s : McuState) (b : Board) → b.events ≡ events → is_full_at b.events b.past ≡ true → s.devices.cycles < cycles
    → SoFar cycles start serial (taken s) (told_of b) → EndsBy starts events cycles start (behind serial (over_at s b ends.TraceFull)) ends.TraceFull
cut_end starts events cycles start serial s b same full below far = (
  subst (λ (n : ℕ). is_full_at n b.past ≡ true) same full,
  inr (record {
    state = taken s;
    below = below;
    cycles_are = refl;
    trail_is = refl;
    goes = λ more. far.goes more ∙ ap (λ (bytes : List ℕ). after (asked_of b.past) bytes (run cycles (taken s) more)) (sym (append-nil serial));
  }),
)

-- What follows a step that goes on.
abbrev IsRun : Starts → ℕ → ℕ → McuState → List ℕ → Outcome → Type 0
IsRun starts events cycles start serial o = EndsBy starts events cycles start (behind serial o) o.end

same_told : (a b : Board) → Same a b → told_of b ≡ told_of a
same_told a b same =
    ap (λ (asked : List BusEvent). record { asked = asked; answers = answers_of b.past; wanted = b.wanted }) same.asked
    ∙ ap (λ (xs : List BusAnswer). record { asked = asked_of a.past; answers = xs; wanted = b.wanted }) same.answers
    ∙ ap (λ (w : Option BusEvent). record { asked = asked_of a.past; answers = answers_of a.past; wanted = w }) same.wanted

-- The rest of the run, where it is one from any standing with these counts.
abbrev Rest : Starts → ℕ → ℕ → ℕ → McuState → List ℕ → Type 0
Rest starts events more cycles start serial =
    (s : McuState) (b : Board) → b.starts ≡ starts → b.events ≡ events → s.devices.cycles ≤ cycles → cycles + 1 ≤ more + s.devices.cycles → SoFar cycles start serial s (told_of b)
    → IsRun starts events cycles start serial (turns more cycles s b)

rest_end : (starts : Starts) (events more cycles : ℕ) (start : McuState) (serial : List ℕ) (s : McuState) (r : Swept) (cut : Bool) → r.cut ≡ cut → r.board.starts ≡ starts → r.board.events ≡ events
    → (r.cut ≡ true → is_full_at r.board.events r.board.past ≡ true) → s.devices.cycles < cycles → cycles + 1 ≤ more + s.devices.cycles → SoFar cycles start serial (taken s) (told_of r.board)
    → Rest starts events more cycles start serial
    → IsRun starts events cycles start serial (if cut then over_at s r.board ends.TraceFull else turns more cycles (taken s) r.board)
rest_end starts events more cycles start serial s r true is from most full below left far rest = cut_end starts events cycles start serial s r.board most (full is) below far
rest_end starts events more cycles start serial s r false is from most full below left far rest = rest (taken s) r.board from most (omega arith) left far

turn_end : (starts : Starts) (events more cycles : ℕ) (start : McuState) (serial : List ℕ) (s : McuState) (b : Board) (t : Turn) (end : Option firmware.RunEnd) → t.end ≡ end → b.starts ≡ starts → b.events ≡ events
    → Steps cycles start serial s b t → cycles + 1 ≤ suc more + s.devices.cycles → Rest starts events more cycles start (serial ++ byte_of (printed t.state))
    → IsRun starts events cycles start (serial ++ byte_of (printed t.state)) (turn_by end more cycles t.state t.board)
turn_end starts events more cycles start serial s b t (Some end) is from most step left rest =
    let P : Starts → ℕ → Type 0 = λ x n. IsRun x n cycles start (serial ++ byte_of (printed t.state)) (finished t.state t.board end) in
    let here = last_step cycles start (serial ++ byte_of (printed t.state)) t.state t.board end step.denied (step.ends end is) in
    subst (λ (x : Starts). P x events) (step.starts ∙ from) (subst (λ (n : ℕ). P t.board.starts n) (step.events ∙ most) here)
turn_end starts events more cycles start serial s b t None is from most step left rest =
    let r : Swept = rested t.board in
    let same = rest_same t.board in
    let rises = step.rises is in
    rest_end starts events more cycles start (serial ++ byte_of (printed t.state)) t.state r r.cut refl (same.starts ∙ step.starts ∙ from) (same.events ∙ step.events ∙ most)
    (rest_full t.board) rises.1 (omega (arith, left, rises))
    (subst (SoFar cycles start (serial ++ byte_of (printed t.state)) (taken t.state)) (sym (same_told t.board r.board same)) (step.goes is))
    rest

runs_are : (starts : Starts) (events fuel cycles : ℕ) (start : McuState) (serial : List ℕ) → Rest starts events fuel cycles start serial
runs_are starts events zero cycles start serial s b from most within left far = absurd (omega arith)
runs_are starts events (suc more) cycles start serial s b from most within left far =
    let t : Turn = turn cycles s b in
    let bytes = byte_of (printed t.state) in
    let o : Outcome = turn_by t.end more cycles t.state t.board in
    let here : IsRun starts events cycles start (serial ++ bytes) o =
    turn_end starts events more cycles start serial s b t t.end refl from most (step_is cycles start serial s b far) left (runs_are starts events more cycles start (serial ++ bytes)) in
    subst (IsRun starts events cycles start serial) (sym (first_turn more cycles s b))
    (subst (λ (x : Outcome). EndsBy starts events cycles start x o.end) (behind_behind serial bytes o) here)

pub firmware_run : FirmwareRuns
unfolding sched
firmware_run cycles image starts events peers =
    runs_are starts events (cycles + 1) cycles (reset_state image) [] (reset_state image) (fresh starts events peers) refl refl (omega arith) (omega arith)
    (run-begins cycles (reset_state image) refl)
