use Rattle.std.proofs.Common.{◌≡◌, map, drop}
use Rattle.toml.specs.View.{view}
use Rattle.board_file.specs.Judged.{each_from}
use Rattle.board_file.specs.Tables.{table_at}
use Rattle.board_file.specs.Views.{tables}
use Rattle.board_file.proofs.Front.{with_done}
use Rattle.board_file.proofs.tables.table_list.Given as goal

abbrev pub invariant-loop-i : goal.invariant-loop-i
invariant-loop-i l =
    with_done (tables l.tables.items) (each_from (table_at l.key) l.i (map view (drop l.i l.items))) ≡ each_from (table_at l.key) 0 (map view l.items)
