-- Where a run stands between two steps: what is left of it comes behind what it printed.
use Rattle.std.proofs.Common.{◌≡◌, ℕ, zero, suc, ◌+◌, ◌-◌, ◌≤◌, ◌<◌, if◌then◌else◌, List, [], ◌++◌, Option, None, sym, ap, ◌∙◌, arith}
use Rattle.avr_core.specs.Ask.{Give, Call}
use Rattle.avr_core.specs.Trees.{All}
use Rattle.avr_space.specs.Peer.{OfBus}
use Rattle.avr_mcu.specs.Run.{byte_of}
use Rattle.avr_mcu.specs.Settled.{Times}
use Rattle.avr_mcu.specs.State.{McuState, reset_state, printed, taken}
use Rattle.avr_mcu.specs.Step.{Gone, stepped}
use Rattle.avr_mcu.specs.declared.run.RunEnd as firmware
use Rattle.avr_mcu.proofs.Fuel.{goes-on}
use Rattle.avr_mcu.proofs.Timing.{step-times}
use Rattle.avr_run.specs.Steps.{Played, played}
use Rattle.board_sim.specs.Boards.{Board, answers, next}
use Rattle.board_sim.specs.Sweeps.{Swept, rested}
use Rattle.board_sim.specs.Schedule.{Standing, GoesTo, turn, turns, sched, behind, over_at}
use Rattle.board_sim.specs.declared.end.RunEnd.TheVariants as ends
use Rattle.board_sim.proofs.Turns.{turn_by, first_turn, behind_behind}

-- What holds of all that a tree may give holds of what it gives.
pub played_all : {R : Type 0} (P : R → Type 0) (tree : OfBus R) (b : Board) → All P tree → P (played answers next tree b).result
played_all P (Give r) b all = all
played_all P (Call c go) b all = played_all P (go (answers b c)) (next b c) (all (answers b c))

-- A step that goes on took a cycle, and is below the limit.
turn_rises : (cycles : ℕ) (s : McuState) (b : Board) → (turn cycles s b).end ≡ None → (s.devices.cycles + 1 ≤ (turn cycles s b).state.devices.cycles) × ((turn cycles s b).state.devices.cycles < cycles)
unfolding turn
turn_rises cycles s b on =
    let p : Played Board Gone = played answers next (stepped s) b in
    goes-on p.bus.wanted p.result.went cycles s.devices.cycles p.result.state.devices.cycles (played_all (Times s) (stepped s) b (step-times s)) on

-- So there are no more steps than cycles.
pub way_short : (steps cycles : ℕ) (a z : Standing) → a.state.devices.cycles ≤ cycles → GoesTo steps cycles a z → a.state.devices.cycles + steps ≤ cycles
way_short zero cycles a z within goes = omega arith
way_short (suc more) cycles a z within goes =
    let t = turn cycles a.state a.board in
    let rises = turn_rises cycles a.state a.board goes.0 in
    let rest = way_short more cycles (record { state = taken t.state; board = (rested t.board).board; serial = a.serial ++ byte_of (printed t.state) }) z (omega (arith, rises)) goes.1.1 in
    omega (arith, rises, rest)

-- The run from a standing is the rest of the whole run.
pub way_goes : (steps rest cycles : ℕ) (a z : Standing) → GoesTo steps cycles a z → behind a.serial (turns (steps + rest) cycles a.state a.board) ≡ behind z.serial (turns rest cycles z.state z.board)
way_goes zero rest cycles a z goes =
    let none : zero + rest ≡ rest = omega arith in
    ap (λ (n : ℕ). behind a.serial (turns n cycles a.state a.board)) none ∙ ap (λ (x : Standing). behind x.serial (turns rest cycles x.state x.board)) (sym goes)
way_goes (suc more) rest cycles a z goes =
    let t = turn cycles a.state a.board in
    let r : Swept = rested t.board in
    let bytes = byte_of (printed t.state) in
    let one : suc more + rest ≡ suc (more + rest) = omega arith in
    ap (λ (n : ℕ). behind a.serial (turns n cycles a.state a.board)) one
    ∙ ap (behind a.serial) (first_turn (more + rest) cycles a.state a.board)
    ∙ ap (λ (end : Option firmware.RunEnd). behind a.serial (behind bytes (turn_by end (more + rest) cycles t.state t.board))) goes.0
    ∙ ap (λ cut. behind a.serial (behind bytes (if cut then over_at t.state r.board ends.TraceFull else turns (more + rest) cycles (taken t.state) r.board))) goes.1.0
    ∙ sym (behind_behind a.serial bytes (turns (more + rest) cycles (taken t.state) r.board))
    ∙ way_goes more rest cycles (record { state = taken t.state; board = r.board; serial = a.serial ++ bytes }) z goes.1.1

rest_of : (steps cycles : ℕ) → steps ≤ cycles → (rest : ℕ) × (cycles + 1 ≡ steps + suc rest)
rest_of steps cycles few = (cycles - steps, let e : cycles + 1 ≡ steps + suc (cycles - steps) = omega arith in e)

-- What is left of the run behind a standing: at least one step more.
pub record IsLeftAt (cycles : ℕ) (image : List ℕ) (b : Board) (z : Standing) : Type 0 where
  pub rest : ℕ
  pub is : sched cycles image b ≡ behind z.serial (turns (suc rest) cycles z.state z.board)

pub way_left : (steps cycles : ℕ) (image : List ℕ) (b : Board) (z : Standing)
    → GoesTo steps cycles (record { state = reset_state image; board = b; serial = [] }) z → IsLeftAt cycles image b z
unfolding sched
way_left steps cycles image b z goes =
    let a : Standing = record { state = reset_state image; board = b; serial = [] } in
    let few : 0 + steps ≤ cycles = way_short steps cycles a z (omega arith) goes in
    let left = rest_of steps cycles (omega (arith, few)) in
    record {
      rest = left.0;
      is = ap (λ (n : ℕ). turns n cycles (reset_state image) b) left.1 ∙ way_goes steps (suc left.0) cycles a z goes;
    }
