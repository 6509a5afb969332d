use Rattle.std.proofs.Common.{◌≡◌}
use Rattle.ihex.specs.Store.{rows_below}
use Rattle.ihex.proofs.rows.store.Given as goal

abbrev pub invariant-loop-k : goal.invariant-loop-k
invariant-loop-k l = l.text.items ≡ rows_below l.image l.k
