use Rattle.ihex.proofs.Cut.{first_cut, last_cut}
use Rattle.ihex.proofs.text.first_line.Goals as goal

pub returns-in-Some-clause-lines : goal.returns-in-Some-clause-lines
returns-in-Some-clause-lines c =
    first_cut c.args.text.now c.without_return.result.now c.in-Some.i c.in-Some.ensures c.without_return.ensures

pub returns-in-None-clause-lines : goal.returns-in-None-clause-lines
returns-in-None-clause-lines c = last_cut c.args.text.now c.requires c.in-None.ensures
