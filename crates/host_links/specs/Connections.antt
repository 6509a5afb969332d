-- Which connections are made and not dropped.
use Rattle.std.specs.Prelude.{Bool, false, not, ◌&&◌, ◌||◌}
use Rattle.chip_sheet.specs.declared.event.ConnId.{ConnId}
use Rattle.link_trait.specs.Calls.{same}
use Rattle.host_links.specs.declared.connections.Made.{Made, Nothing, With', Without'}

abbrev pub is_made : Made → ConnId → Bool
is_made Nothing d = false
is_made (With' c mark before) d = same c d || is_made before d
is_made (Without' c mark before) d = not (same c d) && is_made before d
