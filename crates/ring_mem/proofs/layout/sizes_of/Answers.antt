use Rattle.std.proofs.Common.{◌*◌, get_or, sym, ap, ◌∙◌, arith}
use Rattle.std.proofs.Math.ListN.{length-set}
use Rattle.ring_mem.proofs.Sums.{done_more, sized_all, total_fits, kilobytes_small}
use Rattle.ring_mem.proofs.layout.sizes_of.Goals as goal

pub overflow_mul-sizes : goal.overflow_mul-sizes
overflow_mul-sizes c = let few = kilobytes_small c.args.kilobytes.now c.loop-n.n (sym c.are_valid.ensures ∙ c.if-are_valid.true) in omega (arith, few, c.from.ensures)

pub loop-n-preserved : goal.loop-n-preserved
loop-n-preserved c = record {
  count = omega (arith, c.loop-n-test.true);
  len = length-set c.loop-n.sizes c.loop-n.n _ ∙ c.loop-n.invariant.len;
  done = done_more c.loop-n.sizes c.loop-n.n _ (λ m. get_or c.args.kilobytes.now m 0 * 1024) (omega (arith, c.loop-n-test.true, c.loop-n.invariant.len)) (ap (λ k. k * 1024) c.from.ensures) c.loop-n.invariant.done;
}

pub returns-after-loop-n-clause-sized : goal.returns-after-loop-n-clause-sized
returns-after-loop-n-clause-sized c = sized_all c.loop-n.sizes c.args.kilobytes.now c.loop-n.invariant.len (sym c.are_valid.ensures ∙ c.if-are_valid.true) (λ m below. c.loop-n.invariant.done m (omega (arith, below, c.loop-n-test.false)))

pub returns-after-loop-n-clause-total : goal.returns-after-loop-n-clause-total
returns-after-loop-n-clause-total c = total_fits c.loop-n.sizes c.args.kilobytes.now (omega arith) (sym c.are_valid.ensures ∙ c.if-are_valid.true) (λ m below. c.loop-n.invariant.done m (omega (arith, below, c.loop-n-test.false)))
