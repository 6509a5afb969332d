use Rattle.toml.specs.View.{table_view}
use Rattle.board_file.proofs.Sayings.{sayings_are}
use Rattle.board_file.proofs.peers.sayings.Goals as goal

pub returns : goal.returns
returns c =
    sayings_are c.args.entry (table_view c.args.table.now) c.in_ok-chunks.chunks.items c.in_ok-afters.afters.items c.in_ok-said.field-0.items c.in_ok-chunks.ensures
    (rw (c.len.ensures, c.in_ok-chunks.chunks.ok.0) at c.in_ok-afters.ensures) (rw c.deref.ensures.value at c.in_ok-said.ensures)
