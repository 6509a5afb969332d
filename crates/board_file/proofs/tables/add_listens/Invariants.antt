use Rattle.std.proofs.Common.{◌≡◌, drop}
use Rattle.board_file.specs.Judged.{each_from}
use Rattle.board_file.specs.Boards.{listen}
use Rattle.board_file.specs.Views.{tables}
use Rattle.board_file.proofs.Front.{with_done}
use Rattle.board_file.proofs.tables.add_listens.Given as goal

abbrev pub invariant-loop-i : goal.invariant-loop-i
invariant-loop-i l = record {
  so_far : with_done l.routes.listens (each_from listen l.i (tables (drop l.i l.tables.items))) ≡ each_from listen 0 (tables l.tables.items);
  others : l.routes.routes ≡ l.fn.routes.routes;
}
