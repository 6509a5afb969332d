use Rattle.std.proofs.Common.{◌<◌, false, slice_index, length, ◌∙◌, arith}
use Rattle.ring_mem.proofs.Marks.{place_is, read_old, cleared_more, passed_more, suc_is, value_at}
use Rattle.ring_mem.proofs.sends.unmark.Goals as goal

pub loop-j-preserved : goal.loop-j-preserved
loop-j-preserved c =
    let held = c.loop-j.invariant in
    let l = c.args.layout.now in
    let size = slice_index l.sizes c.args.sn in
    let start = slice_index l.starts c.args.sn in
    let known = l.sized c.args.sn in
    let below : c.loop-j.j < size = omega (arith, c.loop-j-test.true, c.requires.fits) in
    let at = place_is start size c.args.first c.loop-j.j c.place-at.result known below c.place-at.ensures.value in
    let long : c.place-at.result < length c.loop-j.marks.items = omega (arith, c.place-at.ensures.within, held.len, c.loop-j.marks.ok.0) in
    record {
      count = omega (arith, c.loop-j-test.true);
      len = held.len;
      cleared = cleared_more _ _ start size c.args.first c.loop-j.j c.place-at.result _ held.cleared at long (suc_is c.loop-j.j);
      passed = passed_more _ start size c.args.first c.loop-j.j _ c.loop-j.passed c.index-was.result.now held.passed
          (value_at _ _ _ false long c.index-was.ensures ∙ read_old _ _ start size c.args.first c.loop-j.j _ known below at held.cleared) (suc_is c.loop-j.j);
    }
