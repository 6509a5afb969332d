use Rattle.std.proofs.Common.{◌≡◌, map, drop}
use Rattle.toml.specs.Data.{as_integer}
use Rattle.toml.specs.View.{view}
use Rattle.board_read.specs.Lists.{each}
use Rattle.board_file.proofs.Each.{with_front}
use Rattle.board_file.specs.Values.{ranged}
use Rattle.board_file.specs.Views.{both}
use Rattle.board_file.proofs.values.numbers.Given as goal

abbrev pub invariant-loop-item : goal.invariant-loop-item
invariant-loop-item l =
    with_front l.numbers.items (each (both (ranged 0 l.most) as_integer) (map view (drop l.item-index l.items))) ≡ each (both (ranged 0 l.most) as_integer) (map view l.items)
