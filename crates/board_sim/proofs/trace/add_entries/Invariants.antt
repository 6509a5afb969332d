use Rattle.std.proofs.Common.{◌≡◌, take, reverse}
use Rattle.std.specs.List.{flat_map}
use Rattle.wz_base.specs.Lines.{Gathers}
use Rattle.board_text.specs.Entries.{entry_line}
use Rattle.board_sim.proofs.trace.add_entries.Given as goal

abbrev pub invariant-loop-place : goal.invariant-loop-place
invariant-loop-place g l = record {
  so_far : Gathers l.fn.lines (flat_map entry_line (take l.place (reverse l.history.past))) l.lines (g.K.Sink.written l.fn.out) (g.K.Sink.written l.out);
  faults : g.K.Sink.faults l.out ≡ g.K.Sink.faults l.fn.out;
}
