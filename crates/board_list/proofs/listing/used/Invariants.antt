use Rattle.std.proofs.Common.{◌≡◌, ◌≤◌}
use Rattle.board_list.specs.Listing.{used, used_below}
use Rattle.board_list.proofs.listing.used.Given as goal

abbrev pub invariant-loop-used : goal.invariant-loop-used
invariant-loop-used l = record {
  within : l.used ≤ 16384;
  so_far : used_below l.image l.used ≡ used l.image;
}

abbrev pub decreases-loop-used : goal.decreases-loop-used
decreases-loop-used l = l.used
