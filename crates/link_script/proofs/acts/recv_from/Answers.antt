use Rattle.std.proofs.Common.{length}
use Rattle.chip_sheet.specs.LinkAnswers.{NotYet}
use Rattle.link_trait.specs.Calls.{RecvFrom}
use Rattle.link_script.proofs.Changes.{answer_at}
use Rattle.link_script.proofs.acts.recv_from.Goals as goal

pub returns-in-Some-clause-answer : goal.returns-in-Some-clause-answer
returns-in-Some-clause-answer c =
    answer_at NotYet c.args.actors.now c.args.c (RecvFrom c.args.c c.args.port (length c.args.buf.now)) c.in-Some.i c.index-actors-i.result _
    c.in-Some.ensures c.recv_from.ensures.answer
