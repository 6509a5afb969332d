use Rattle.std.proofs.Common.{◌≡◌, ◌-◌, ◌≤◌, vec_len}
use Rattle.wz_base.proofs.SoFar.{ReadSoFar}
use Rattle.wz_base.proofs.reading.read_rest.Given as goal

abbrev pub invariant-loop-count : goal.invariant-loop-count
invariant-loop-count g l =
    let source = g.F.Source in
    record {
      within : vec_len l.bytes ≤ l.limit;
      so_far : ReadSoFar (source.left l.fn.files) l.bytes.items (source.left l.files);
      faults : source.faults l.files ≡ source.faults l.fn.files;
      misses : source.misses l.files ≡ source.misses l.fn.files;
      held : source.held l.files ≡ source.held l.fn.files;
    }

abbrev pub decreases-loop-count : goal.decreases-loop-count
decreases-loop-count g l = l.limit - vec_len l.bytes
