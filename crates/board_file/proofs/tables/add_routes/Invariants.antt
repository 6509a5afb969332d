use Rattle.std.proofs.Common.{◌≡◌, drop}
use Rattle.board_file.specs.Judged.{each_from}
use Rattle.board_file.specs.Boards.{route}
use Rattle.board_file.specs.Views.{tables}
use Rattle.board_file.proofs.Front.{with_done}
use Rattle.board_file.proofs.tables.add_routes.Given as goal

abbrev pub invariant-loop-i : goal.invariant-loop-i
invariant-loop-i l = record {
  so_far : with_done l.routes.routes (each_from route l.i (tables (drop l.i l.tables.items))) ≡ each_from route 0 (tables l.tables.items);
  others : l.routes.listens ≡ l.fn.routes.listens;
}
