-- Where a run stands between two steps is on the way to its end.
use Rattle.std.specs.Prelude.{◌≡◌, ℕ, List, [], ◌++◌}
use Rattle.avr_mcu.specs.Run.{byte_of}
use Rattle.avr_mcu.specs.State.{reset_state, printed}
use Rattle.board_sim.specs.Boards.{Board}
use Rattle.board_sim.specs.Schedule.{Outcome, Standing, GoesTo, turn, sched}
use Rattle.board_sim_laws.specs.Grows.{Adds}

-- Bytes that begin others.
abbrev pub Begins : List ℕ → List ℕ → Type 0
Begins front all = (more : List ℕ) × (all ≡ front ++ more)

-- What happened and what was printed until then begin what happens and what is printed in the whole run; with the next step too.
pub record IsOnTheWay (cycles : ℕ) (z : Standing) (o : Outcome) : Type 0 where
  pub past : Adds z.board.past o.past
  pub serial : Begins z.serial o.serial
  pub next_past : Adds (turn cycles z.state z.board).board.past o.past
  pub next_serial : Begins (z.serial ++ byte_of (printed (turn cycles z.state z.board).state)) o.serial

abbrev pub WayLeads : Type 0
WayLeads = (steps cycles : ℕ) (image : List ℕ) (b : Board) (z : Standing)
    → GoesTo steps cycles (record { state = reset_state image; board = b; serial = [] }) z → IsOnTheWay cycles z (sched cycles image b)
