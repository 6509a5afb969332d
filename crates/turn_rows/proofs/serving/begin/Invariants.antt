use Rattle.std.proofs.Common.{◌≡◌}
use Rattle.turn_rows.proofs.serving.begin.Given as goal

-- The firmware's pass stays one of these turns.
abbrev pub invariant-loop-frame : goal.invariant-loop-frame
invariant-loop-frame g l = l.firmware.turn ≡ l.turn
