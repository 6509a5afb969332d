use Rattle.board_gen.proofs.Others.{too_many}
use Rattle.board_gen.proofs.links.what_of_more.Goals as goal

pub returns-in-Some : goal.returns-in-Some
returns-in-Some c =
    too_many c.args.word.now c.args.addr.now c.args.number.now c.in-Some.field-0.0.now c.args.text.now c.in-Some.field-0.1.now c.in-Some.ensures.parts
