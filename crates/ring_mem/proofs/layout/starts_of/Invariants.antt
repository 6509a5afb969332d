use Rattle.std.proofs.Common.{◌≡◌, ◌≤◌, ◌<◌, ℕ, length, get_or}
use Rattle.ring_mem.specs.Parts.{sum_below}
use Rattle.ring_mem.proofs.layout.starts_of.Given as goal

abbrev pub invariant-loop-n : goal.invariant-loop-n
invariant-loop-n l =
    record {
      count : l.n ≤ 8;
      len : length l.starts ≡ 8;
      next : l.next ≡ sum_below l.sizes l.n;
      done : (m : ℕ) → m < l.n → get_or l.starts m 0 ≡ sum_below l.sizes m;
    }
