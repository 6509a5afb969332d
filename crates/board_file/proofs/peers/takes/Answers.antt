use Rattle.std.proofs.Common.{[], map, Some, None, Ok, Err}
use Rattle.std.proofs.lemmas.List.{length-map}
use Rattle.toml.specs.Data.{as_integer}
use Rattle.toml.specs.View.{view, table_view}
use Rattle.board_file.specs.declared.fault.Key.TheVariants as key
use Rattle.board_file.specs.declared.fault.KeyKind.TheVariants.{OutOfRange}
use Rattle.board_file.specs.Values.{numbers, ranged}
use Rattle.board_file.proofs.Judging.{said_by, listed_long, listed_read}
use Rattle.board_file.proofs.peers.takes.Goals as goal

pub returns-then-items-gt4096 : goal.returns-then-items-gt4096
returns-then-items-gt4096 c =
    let value = view c.in-Some.value.now in
    rw c.fault-then-items-gt4096.ensures
    (said_by key.Takes c.args.entry [] (numbers 4096 0 65536) (table_view c.args.table.now) value (Err OutOfRange) c.in-Some.ensures
    (listed_long as_integer (ranged 0 65536) OutOfRange 4096 (map view c.in-Some-integers.items.now) value c.in-Some-integers.ensures (rw length-map c.if-items-gt4096.true)))

pub returns-in-Some-2 : goal.returns-in-Some-2
returns-in-Some-2 c =
    let value = view c.in-Some.value.now in
    said_by key.Takes c.args.entry [] (numbers 4096 0 65536) (table_view c.args.table.now) value (Ok (c.in-Some-2.takes.items)) c.in-Some.ensures
    (listed_read as_integer (ranged 0 65536) OutOfRange 4096 (map view c.in-Some-integers.items.now) value (Some (c.in-Some-2.takes.items)) c.in-Some-integers.ensures (rw length-map c.if-items-gt4096.false) (rw c.in-Some-2.is at c.in_ok-takes.ensures))

pub returns-in-None : goal.returns-in-None
returns-in-None c =
    let value = view c.in-Some.value.now in
    rw c.fault-in-None.ensures
    (said_by key.Takes c.args.entry [] (numbers 4096 0 65536) (table_view c.args.table.now) value (Err OutOfRange) c.in-Some.ensures
    (listed_read as_integer (ranged 0 65536) OutOfRange 4096 (map view c.in-Some-integers.items.now) value None c.in-Some-integers.ensures (rw length-map c.if-items-gt4096.false) (rw c.in-None.is at c.in_ok-takes.ensures)))
