use Rattle.std.proofs.Common.{◌∙◌, arith}
use Rattle.std.proofs.Math.ListN.{length-set}
use Rattle.ring_mem.specs.Parts.{sum_below}
use Rattle.ring_mem.proofs.Sums.{done_more, sum_next}
use Rattle.ring_mem.proofs.layout.starts_of.Goals as goal

pub loop-n-preserved : goal.loop-n-preserved
loop-n-preserved c = record {
  count = omega (arith, c.loop-n-test.true);
  len = length-set c.loop-n.starts c.loop-n.n _ ∙ c.loop-n.invariant.len;
  next = omega (arith, c.loop-n.invariant.next, sum_next c.args.sizes.now c.loop-n.n);
  done = done_more c.loop-n.starts c.loop-n.n c.loop-n.next (sum_below c.args.sizes.now) (omega (arith, c.loop-n-test.true, c.loop-n.invariant.len)) c.loop-n.invariant.next c.loop-n.invariant.done;
}
