use Rattle.board_gen.proofs.Parts.{line_cut}
use Rattle.board_gen.proofs.cuts.first_line.Goals as goal

pub returns-in-Some-clause-lines : goal.returns-in-Some-clause-lines
returns-in-Some-clause-lines c =
    rw (c.without_return.ensures.is, c.uncommented.ensures.is) (line_cut c.args.text.now c.in-Some.part.now c.in-Some.rest.now c.in-Some.ensures.parts)
