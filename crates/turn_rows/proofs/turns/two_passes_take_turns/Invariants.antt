use Rattle.std.proofs.Common.{◌≡◌}
use Rattle.turn_rows.proofs.turns.two_passes_take_turns.Given as goal

-- both passes stay of these turns
abbrev pub invariant-loop-frame : goal.invariant-loop-frame
invariant-loop-frame g l = (l.firmware.turn ≡ l.turn) × (l.links.turn ≡ l.turn)

abbrev pub invariant-loop : goal.invariant-loop
invariant-loop g l = (l.firmware.turn ≡ l.turn) × (l.links.turn ≡ l.turn)
