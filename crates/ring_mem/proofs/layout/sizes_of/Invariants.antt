use Rattle.std.proofs.Common.{◌≡◌, ◌≤◌, ◌<◌, ◌*◌, ℕ, length, get_or}
use Rattle.ring_mem.proofs.layout.sizes_of.Given as goal

abbrev pub invariant-loop-n : goal.invariant-loop-n
invariant-loop-n l =
    record {
      count : l.n ≤ 8;
      len : length l.sizes ≡ 8;
      done : (m : ℕ) → m < l.n → get_or l.sizes m 0 ≡ get_or l.kilobytes m 0 * 1024;
    }
