-- What a schedule comes to behind its first step.
use Rattle.std.proofs.Common.{◌≡◌, ℕ, suc, if◌then◌else◌, List, ◌++◌, Option, Some, None, refl, ap, append_assoc}
use Rattle.avr_mcu.specs.Run.{byte_of}
use Rattle.avr_mcu.specs.State.{McuState, printed, taken}
use Rattle.avr_mcu.specs.declared.run.RunEnd as firmware
use Rattle.board_sim.specs.Boards.{Board}
use Rattle.board_sim.specs.Sweeps.{Swept, rested}
use Rattle.board_sim.specs.Schedule.{Outcome, turn, turns, finished, over_at, behind}
use Rattle.board_sim.specs.declared.end.RunEnd.TheVariants as ends

abbrev pub rest_by : Swept → ℕ → ℕ → McuState → Outcome
rest_by r more cycles s = if r.cut then over_at s r.board ends.TraceFull else turns more cycles (taken s) r.board

abbrev pub turn_by : Option firmware.RunEnd → ℕ → ℕ → McuState → Board → Outcome
turn_by (Some end) more cycles s b = finished s b end
turn_by None more cycles s b = rest_by (rested b) more cycles s

by_elim : (end : Option firmware.RunEnd) (more cycles : ℕ) (s : McuState) (b : Board)
    → (elim end [ Some e ↦ finished s b e | None ↦ let r = rested b in if r.cut then over_at s r.board ends.TraceFull else turns more cycles (taken s) r.board ])
    ≡ turn_by end more cycles s b
by_elim (Some end) more cycles s b = refl
by_elim None more cycles s b = refl

pub first_turn : (more cycles : ℕ) (s : McuState) (b : Board)
    → turns (suc more) cycles s b ≡ behind (byte_of (printed (turn cycles s b).state)) (turn_by (turn cycles s b).end more cycles (turn cycles s b).state (turn cycles s b).board)
unfolding turns
first_turn more cycles s b =
    let t = turn cycles s b in
    ap (behind (byte_of (printed t.state))) (by_elim t.end more cycles t.state t.board)

-- Bytes before others.
pub behind_behind : (xs ys : List ℕ) (o : Outcome) → behind (xs ++ ys) o ≡ behind xs (behind ys o)
behind_behind xs ys o = ap (λ (bytes : List ℕ). record o { serial = bytes }) (append_assoc xs ys o.serial)
