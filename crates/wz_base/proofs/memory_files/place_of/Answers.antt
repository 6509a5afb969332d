use Rattle.std.proofs.Common.{sym}
use Rattle.wz_base.proofs.Named.{found_here}
use Rattle.wz_base.proofs.memory_files.place_of.Goals as goal

pub returns-then-eq : goal.returns-then-eq
returns-then-eq c =
    found_here c.args.name.now c.args.files.now c.loop-i.i c.index-files-i.result c.loop-i-test.true c.index-files-i.is (sym (rw c.as_str.ensures.value at c.if-eq.ensures)) c.loop-i.invariant
