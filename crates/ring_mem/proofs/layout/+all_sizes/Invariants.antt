use Rattle.std.proofs.Common.{length}
use Rattle.ring_mem.proofs.layout.+all_sizes.Given as goal

abbrev pub decreases-all_sizes : goal.decreases-all_sizes
decreases-all_sizes l = length l.ks.now
