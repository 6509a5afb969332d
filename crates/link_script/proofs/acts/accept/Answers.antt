use Rattle.std.proofs.Common.{ap}
use Rattle.chip_sheet.specs.LinkAnswers.{DoneFrom, NotYet}
use Rattle.link_trait.specs.Calls.{Accept}
use Rattle.link_script.proofs.Changes.{answer_at}
use Rattle.link_script.proofs.acts.accept.Goals as goal

pub returns-in-Some-clause-answer : goal.returns-in-Some-clause-answer
returns-in-Some-clause-answer c =
    answer_at NotYet c.args.actors.now c.args.c (Accept c.args.c c.args.port) c.in-Some.i c.index-actors-i.result _
    c.in-Some.ensures (ap (λ from. DoneFrom from) c.addr-from.ensures)
