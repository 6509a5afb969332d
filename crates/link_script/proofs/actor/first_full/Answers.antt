use Rattle.std.proofs.Common.{◌∙◌, ap}
use Rattle.link_script.specs.Scripts.{Script}
use Rattle.link_script.proofs.Hearing.{front_is}
use Rattle.link_script.proofs.actor.first_full.Goals as goal

pub returns : goal.returns
returns c =
    front_is c.passed_over.result c.peer.inside.kind c.args.peer.now.kind c.deref-chunks.result.now c.args.peer.now.say c.args.next
    c.passed_over.ensures (ap (λ (s : Script). s.kind) c.peer.view_is)
    (c.deref-chunks.ensures.value ∙ ap (λ (s : Script). s.say) c.peer.view_is)
