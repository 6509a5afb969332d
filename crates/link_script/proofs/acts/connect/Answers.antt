use Rattle.std.proofs.Common.{refl}
use Rattle.link_trait.specs.Calls.{Connect, linking}
use Rattle.link_script.proofs.Changes.{answer_there}
use Rattle.link_script.proofs.acts.connect.Goals as goal

pub returns-in-Some-clause-answer : goal.returns-in-Some-clause-answer
returns-in-Some-clause-answer c =
    answer_there (linking c.args.otherwise) c.args.actors.now c.args.c (Connect c.args.c c.args.to) c.in-Some.i c.index-actors-i.result _
    c.in-Some.ensures c.index-actors-i.is refl
