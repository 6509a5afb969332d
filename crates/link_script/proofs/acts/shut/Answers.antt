use Rattle.chip_sheet.specs.LinkAnswers.{Done}
use Rattle.link_trait.specs.Calls.{Shut}
use Rattle.link_script.proofs.Changes.{answer_at}
use Rattle.link_script.proofs.acts.shut.Goals as goal

pub returns-in-Some-clause-answer : goal.returns-in-Some-clause-answer
returns-in-Some-clause-answer c =
    answer_at Done c.args.actors.now c.args.c (Shut c.args.c) c.in-Some.i c.index-actors-i.result _
    c.in-Some.ensures c.shut.ensures.answer
