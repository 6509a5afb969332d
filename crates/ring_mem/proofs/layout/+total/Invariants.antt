use Rattle.std.proofs.Common.{length}
use Rattle.ring_mem.proofs.layout.+total.Given as goal

abbrev pub decreases-total : goal.decreases-total
decreases-total l = length l.ks.now
