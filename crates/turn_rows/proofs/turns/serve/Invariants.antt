use Rattle.std.proofs.Common.{◌≡◌}
use Rattle.turn_rows.proofs.turns.serve.Given as goal

-- the pass stays one of these turns
abbrev pub invariant-loop : goal.invariant-loop
invariant-loop g l = (goal.iterator-loop g).can_next l.iterator' × (goal.iterator-loop g).is_finite l.iterator' × (l.pass.turn ≡ l.turn)
