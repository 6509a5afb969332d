use Rattle.std.proofs.Common.{sym}
use Rattle.board_read.proofs.Others.{five_parts}
use Rattle.board_read.proofs.numbers.with_last.Goals as goal

pub returns-in-Some : goal.returns-in-Some
returns-in-Some c =
    sym (five_parts c.args.a.now c.args.b.now c.args.c.now c.in-Some.field-0.0.now c.args.rest.now c.in-Some.field-0.1.now c.in-Some.ensures.parts)
