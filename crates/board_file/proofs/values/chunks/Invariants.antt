use Rattle.std.proofs.Common.{◌≡◌, map, drop}
use Rattle.toml.specs.Data.{as_str}
use Rattle.toml.specs.View.{view}
use Rattle.board_read.specs.Lists.{each}
use Rattle.board_file.proofs.Each.{with_front}
use Rattle.board_file.specs.Values.{chunk}
use Rattle.board_file.specs.Views.{both, bytes_of}
use Rattle.board_file.proofs.values.chunks.Given as goal

abbrev pub invariant-loop-item : goal.invariant-loop-item
invariant-loop-item l =
    with_front (bytes_of l.chunks.items) (each (both (chunk l.most) as_str) (map view (drop l.item-index l.items))) ≡ each (both (chunk l.most) as_str) (map view l.items)
