use Rattle.std.proofs.Common.{length}
use Rattle.chip_sheet.specs.LinkAnswers.{NotYet}
use Rattle.link_trait.specs.Calls.{Read}
use Rattle.link_script.proofs.Changes.{answer_at}
use Rattle.link_script.proofs.acts.read.Goals as goal

pub returns-in-Some-clause-answer : goal.returns-in-Some-clause-answer
returns-in-Some-clause-answer c =
    answer_at NotYet c.args.actors.now c.args.c (Read c.args.c (length c.args.buf.now)) c.in-Some.i c.index-actors-i.result _
    c.in-Some.ensures c.read.ensures.answer
