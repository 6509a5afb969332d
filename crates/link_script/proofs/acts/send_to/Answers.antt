use Rattle.std.proofs.Common.{◌++◌}
use Rattle.chip_sheet.specs.LinkAnswers.{Done}
use Rattle.link_trait.specs.Calls.{SendTo}
use Rattle.link_script.proofs.Changes.{answer_at}
use Rattle.link_script.proofs.acts.send_to.Goals as goal

pub returns-in-Some-clause-answer : goal.returns-in-Some-clause-answer
returns-in-Some-clause-answer c =
    answer_at Done c.args.actors.now c.args.c (SendTo c.args.c c.args.port c.args.to (c.args.head.now ++ c.args.tail.now)) c.in-Some.i c.index-actors-i.result _
    c.in-Some.ensures c.send_to.ensures.answer
