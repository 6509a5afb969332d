-- Where a run stands between two steps is on the way to its end.
use Rattle.std.proofs.Common.{ℕ, suc, ◌++◌, refl, sym, subst, append_assoc}
use Rattle.avr_mcu.specs.Run.{byte_of}
use Rattle.avr_mcu.specs.State.{printed}
use Rattle.board_sim.specs.Schedule.{Outcome, Standing, turn, turns, behind}
use Rattle.board_sim.proofs.Turns.{turn_by, first_turn}
use Rattle.board_sim.proofs.Way.{way_left}
use Rattle.board_sim_laws.specs.Way.{IsOnTheWay, WayLeads}
use Rattle.board_sim_laws.proofs.Grows.{adds_still, turn_adds, turn_left_adds}

-- One step more of what is left, and what comes behind it.
on_the_way : (rest cycles : ℕ) (z : Standing) → IsOnTheWay cycles z (behind z.serial (turns (suc rest) cycles z.state z.board))
on_the_way rest cycles z =
    let t = turn cycles z.state z.board in
    let bytes = byte_of (printed t.state) in
    let o : Outcome = turn_by t.end rest cycles t.state t.board in
    let left = turn_left_adds t.end rest cycles t.state t.board in
    let here : IsOnTheWay cycles z (behind z.serial (behind bytes o)) = record {
      past = adds_still z.board.past t.board.past o.past (turn_adds cycles z.state z.board) left;
      serial = (bytes ++ o.serial, refl);
      next_past = left;
      next_serial = (o.serial, sym (append_assoc z.serial bytes o.serial));
    } in
    subst (λ (x : Outcome). IsOnTheWay cycles z (behind z.serial x)) (sym (first_turn rest cycles z.state z.board)) here

pub way_leads : WayLeads
way_leads steps cycles image b z goes =
    let left = way_left steps cycles image b z goes in
    subst (IsOnTheWay cycles z) (sym left.is) (on_the_way left.rest cycles z)
