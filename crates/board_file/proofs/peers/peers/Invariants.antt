use Rattle.std.proofs.Common.{◌≡◌, drop, length}
use Rattle.board_file.specs.Judged.{each_from}
use Rattle.board_file.specs.Peers.{peer}
use Rattle.board_file.specs.Views.{tables}
use Rattle.board_file.proofs.Front.{with_done}
use Rattle.board_file.proofs.peers.peers.Given as goal

abbrev pub invariant-loop-i : goal.invariant-loop-i
invariant-loop-i l = record {
  so_far : with_done l.peers.items (each_from peer l.i (tables (drop l.i l.tables.items))) ≡ each_from peer 0 (tables l.tables.items);
  many : length l.peers.items ≡ l.i;
}
