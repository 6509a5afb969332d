use Rattle.std.proofs.Common.{◌≡◌, ◌≤◌, vec_len, slice_index}
use Rattle.ring_mem.specs.Marks.{Cleared, any_marked}
use Rattle.ring_mem.proofs.sends.unmark.Given as goal

abbrev pub invariant-loop-j : goal.invariant-loop-j
invariant-loop-j l =
    record {
      count : l.j ≤ l.k;
      len : vec_len l.marks ≡ 16384;
      cleared : Cleared l.fn.marks.items l.marks.items (slice_index l.layout.starts l.sn) (slice_index l.layout.sizes l.sn) l.first l.j;
      passed : l.passed ≡ any_marked l.fn.marks.items (slice_index l.layout.starts l.sn) (slice_index l.layout.sizes l.sn) l.first l.j;
    }
