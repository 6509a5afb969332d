use Rattle.std.proofs.Common.{◌≡◌}
use Rattle.turn_rows.proofs.turns.converse.Given as goal

-- the pass stays one of these turns
abbrev pub invariant-loop-frame : goal.invariant-loop-frame
invariant-loop-frame g l = l.pass.turn ≡ l.turn

abbrev pub invariant-loop-frame-2 : goal.invariant-loop-frame-2
invariant-loop-frame-2 g l = l.pass.turn ≡ l.turn

abbrev pub invariant-loop : goal.invariant-loop
invariant-loop g l = l.pass.turn ≡ l.turn
