use Rattle.board_judge.proofs.FirstLine.{line_cut}
use Rattle.board_judge.proofs.lines.first_line.Goals as goal

pub returns-in-Some-clause-lines : goal.returns-in-Some-clause-lines
returns-in-Some-clause-lines c =
    rw c.without_return.ensures.is (line_cut c.args.text.now c.in-Some.part.now c.in-Some.rest.now c.in-Some.ensures.parts)
