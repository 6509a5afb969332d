use Rattle.std.proofs.Common.{◌≡◌, ◌-◌}
use Rattle.board_list.proofs.Listed.{ListedSoFar}
use Rattle.board_list.proofs.listing.list.Given as goal

abbrev pub invariant-loop-at : goal.invariant-loop-at
invariant-loop-at g l = record {
  so_far : ListedSoFar l.image l.at l.lines (g.K.Sink.written l.fn.out) (g.K.Sink.written l.out);
  faults : g.K.Sink.faults l.out ≡ g.K.Sink.faults l.fn.out;
}

abbrev pub decreases-loop-at : goal.decreases-loop-at
decreases-loop-at g l = l.used - l.at
