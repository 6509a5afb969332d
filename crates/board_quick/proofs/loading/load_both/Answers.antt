use Rattle.std.proofs.Common.{Err, inl, refl, ap}
use Rattle.board_quick.specs.Reads.{counts}
use Rattle.board_quick.proofs.loading.load_both.Goals as goal

pub returns-clause-loads : goal.returns-clause-loads
returns-clause-loads g c = record {
  first = Err c.in-Err.error;
  second = Err c.in-Err.error;
  reads = record {
    between = counts (g.F.Source.misses c.read_operand.new.files) (g.F.Source.faults c.read_operand.new.files);
    read_first = c.in-Err.ensures.read;
    read_second = refl;
  };
  gives = inl (ap Err c.unread-in-Err.ensures);
}
