use Rattle.link_script.specs.declared.wanted.Wanted.TheVariants.{ServerAt}
use Rattle.link_script.proofs.Changes.{refused_there}
use Rattle.link_script.proofs.acts.refusal.Goals as goal

pub returns-in-Some : goal.returns-in-Some
returns-in-Some c =
    refused_there c.args.actors.now (ServerAt c.args.to) c.in-Some.i c.index-actors-i.result _
    c.in-Some.ensures c.index-actors-i.is c.refusal_of.ensures
