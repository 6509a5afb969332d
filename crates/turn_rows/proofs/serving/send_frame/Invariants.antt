use Rattle.std.proofs.Common.{◌≡◌}
use Rattle.turn_rows.proofs.serving.send_frame.Given as goal

-- The pass stays one of these turns.
abbrev pub invariant-loop-byte : goal.invariant-loop-byte
invariant-loop-byte g l = l.pass.turn ≡ l.turn
