use Rattle.std.proofs.Common.{rules}
use Rattle.chip_hist.specs.Log.{weight_of}
use Rattle.chip_hist.proofs.history.History.new.Goals as goal

pub invariant_of-result : goal.invariant_of-result
unfolding weight_of
invariant_of-result c = search rules
