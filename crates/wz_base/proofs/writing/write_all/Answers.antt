use Rattle.std.proofs.Common.{arith, ◌∙◌}
use Rattle.std.proofs.lemmas.List.{take_rest, length-drop}
use Rattle.wz_base.proofs.SoFar.{Appends-more}
use Rattle.wz_base.proofs.writing.write_all.Goals as goal

pub loop-done-preserved : goal.loop-done-preserved
loop-done-preserved g c =
    let held = c.loop-done.invariant in
    let wrote = rw take_rest at c.in-Ok.ensures.bytes in
    record {
      within = omega (arith, length-drop c.loop-done.done c.args.bytes.now, wrote.bound, c.loop-done-test.true);
      written = Appends-more (g.K.Sink.written c.args.sink.now) _ _ c.args.bytes.now c.loop-done.done c.in-Ok.count held.written wrote.bytes;
      faults = c.in-Ok.ensures.faults.still (λ e. cc) ∙ held.faults;
    }
