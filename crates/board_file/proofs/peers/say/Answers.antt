use Rattle.std.proofs.Common.{[], map, Some, None, Ok, Err}
use Rattle.std.proofs.lemmas.List.{length-map}
use Rattle.toml.specs.Data.{as_str}
use Rattle.toml.specs.View.{view, table_view}
use Rattle.board_file.specs.declared.fault.Key.TheVariants as key
use Rattle.board_file.specs.declared.fault.KeyKind.TheVariants.{OutOfRange, BadText}
use Rattle.board_file.specs.Values.{chunk, chunks}
use Rattle.board_file.specs.Views.{bytes_of}
use Rattle.board_file.proofs.Judging.{said_by, listed_long, listed_read}
use Rattle.board_file.proofs.peers.say.Goals as goal

pub returns-then-items-gt256 : goal.returns-then-items-gt256
returns-then-items-gt256 c =
    let value = view c.in-Some.value.now in
    rw c.fault-then-items-gt256.ensures
    (said_by key.Say c.args.entry [] (chunks 256 65536) (table_view c.args.table.now) value (Err OutOfRange) c.in-Some.ensures
    (listed_long as_str (chunk 65536) BadText 256 (map view c.in-Some-texts.items.now) value c.in-Some-texts.ensures (rw length-map c.if-items-gt256.true)))

pub returns-in-Some-2 : goal.returns-in-Some-2
returns-in-Some-2 c =
    let value = view c.in-Some.value.now in
    said_by key.Say c.args.entry [] (chunks 256 65536) (table_view c.args.table.now) value (Ok (bytes_of c.in-Some-2.chunks.items)) c.in-Some.ensures
    (listed_read as_str (chunk 65536) BadText 256 (map view c.in-Some-texts.items.now) value (Some (bytes_of c.in-Some-2.chunks.items)) c.in-Some-texts.ensures (rw length-map c.if-items-gt256.false) (rw c.in-Some-2.is at c.in_ok-chunks.ensures))

pub returns-in-None : goal.returns-in-None
returns-in-None c =
    let value = view c.in-Some.value.now in
    rw c.fault-in-None.ensures
    (said_by key.Say c.args.entry [] (chunks 256 65536) (table_view c.args.table.now) value (Err BadText) c.in-Some.ensures
    (listed_read as_str (chunk 65536) BadText 256 (map view c.in-Some-texts.items.now) value None c.in-Some-texts.ensures (rw length-map c.if-items-gt256.false) (rw c.in-None.is at c.in_ok-chunks.ensures)))
