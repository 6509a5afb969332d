use Rattle.std.proofs.Common.{sym, ap, ◌∙◌}
use Rattle.toml.specs.View.{view}
use Rattle.board_file.specs.Tables.{tables_of}
use Rattle.board_file.proofs.Judging.{tables_long}
use Rattle.board_file.proofs.tables.tables_at.Goals as goal

pub returns-then-are_tables-clause-gives : goal.returns-then-are_tables-clause-gives
returns-then-are_tables-clause-gives c =
    rw c.fault-then-are_tables.ensures
    (ap (tables_of c.args.key) (sym c.in-Some.ensures)
    ∙ tables_long c.args.key (view c.in-Some.value.now) c.in-Some-items.entries.now (sym c.in-Some-items.ensures) (sym c.if-are_tables.ensures) c.if-entries-gt64.true)
