use Rattle.board_judge.proofs.Others.{three_numbers}
use Rattle.board_judge.proofs.head.two_numbers.Goals as goal

pub returns-in-Some : goal.returns-in-Some
returns-in-Some c = three_numbers c.args.tx.now c.args.rest.now c.in-Some.field-0.0.now c.in-Some.field-0.1.now c.in-Some.ensures.parts
