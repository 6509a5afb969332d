use Rattle.std.proofs.Common.{◌≡◌, length, take, ◌-◌, ◌≤◌}
use Rattle.wz_base.specs.Whole.{Appends}
use Rattle.wz_base.proofs.writing.write_all.Given as goal

abbrev pub invariant-loop-done : goal.invariant-loop-done
invariant-loop-done g l =
    let sink = g.K.Sink in
    record {
      within : l.done ≤ length l.bytes;
      written : Appends (sink.written l.fn.sink) (take l.done l.bytes) (sink.written l.sink);
      faults : sink.faults l.sink ≡ sink.faults l.fn.sink;
    }

abbrev pub decreases-loop-done : goal.decreases-loop-done
decreases-loop-done g l = length l.bytes - l.done
