use Rattle.std.proofs.Common.{◌<◌, ◌∙◌, length, arith}
use Rattle.std.proofs.Math.ListN.{length-set}
use Rattle.chip_parts.proofs.Resetting.{one_more, others_rest}
use Rattle.chip_parts.proofs.common.reset_lives.Goals as goal

pub loop-n-preserved : goal.loop-n-preserved
loop-n-preserved c =
    let n = c.loop-n.n in
    let lives = c.loop-n.lives in
    let old = c.args.lives.now in
    let within : n < length lives = omega (arith, c.loop-n-test.true, c.loop-n.invariant.len) in
    let inside : n < length old = omega (arith, c.loop-n-test.true) in
    record {
      count = omega (arith, c.loop-n-test.true);
      len = length-set lives n _ ∙ c.loop-n.invariant.len;
      done = one_more old lives n c.reset.new.self _ within inside c.reset.ensures c.loop-n.invariant.done c.loop-n.invariant.rest;
      rest = others_rest old lives n c.reset.new.self c.loop-n.invariant.rest;
    }
