use Rattle.std.proofs.Common.{map, Ok, Err, sym}
use Rattle.std.specs.Prelude.{replicate}
use Rattle.std.proofs.lemmas.List.{length-map}
use Rattle.toml.specs.View.{view, table_view}
use Rattle.board_file.specs.declared.fault.Key.TheVariants as key
use Rattle.board_file.specs.declared.fault.KeyKind.TheVariants.{OutOfRange, BadText}
use Rattle.board_file.specs.Values.{numbers_beside}
use Rattle.board_file.proofs.Judging.{said_by, beside_far, beside_none, beside_read, beside_uneven}
use Rattle.board_file.proofs.peers.after.Goals as goal

pub returns-then-not-are_within : goal.returns-then-not-are_within
returns-then-not-are_within c =
    let value = view c.in-Some.value.now in
    let many = c.args.many in
    rw c.fault-then-not-are_within.ensures
    (said_by key.After c.args.entry (replicate many 0) (numbers_beside many 0 16777216) (table_view c.args.table.now) value (Err OutOfRange) c.in-Some.ensures
    (beside_far many 0 16777216 c.in-Some-integers.items.now value c.in-Some-integers.ensures (sym c.if-not-are_within.ensures)))

pub returns-then-items-many : goal.returns-then-items-many
returns-then-items-many c =
    let value = view c.in-Some.value.now in
    let many = c.args.many in
    rw c.fault-then-items-many.ensures
    (said_by key.After c.args.entry (replicate many 0) (numbers_beside many 0 16777216) (table_view c.args.table.now) value (Err BadText) c.in-Some.ensures
    (beside_uneven many 0 16777216 c.in-Some-integers.items.now value c.in-Some-integers.ensures (sym c.if-not-are_within.ensures) c.if-items-many.true))

pub returns-in-Some-2 : goal.returns-in-Some-2
returns-in-Some-2 c =
    let value = view c.in-Some.value.now in
    let many = c.args.many in
    said_by key.After c.args.entry (replicate many 0) (numbers_beside many 0 16777216) (table_view c.args.table.now) value (Ok c.in-Some-2.afters.items) c.in-Some.ensures
    (beside_read many 0 16777216 (map view c.in-Some-integers.items.now) value c.in-Some-2.afters.items c.in-Some-integers.ensures (rw c.in-Some-2.is at c.in_ok-afters.ensures) (rw length-map c.if-items-many.false))

pub returns-in-None : goal.returns-in-None
returns-in-None c =
    let value = view c.in-Some.value.now in
    let many = c.args.many in
    rw c.fault-in-None.ensures
    (said_by key.After c.args.entry (replicate many 0) (numbers_beside many 0 16777216) (table_view c.args.table.now) value (Err OutOfRange) c.in-Some.ensures
    (beside_none many 0 16777216 (map view c.in-Some-integers.items.now) value c.in-Some-integers.ensures (sym (rw c.in-None.is at c.in_ok-afters.ensures))))
