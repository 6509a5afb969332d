use Rattle.std.proofs.Common.{◌∙◌, ap, ◌++◌}
use Rattle.std.specs.List.{position}
use Rattle.link_trait.specs.Calls.{SendTo}
use Rattle.link_script.specs.Acting.{is_serving}
use Rattle.link_script.specs.Links.{played_of}
use Rattle.link_script.proofs.Changes.{acted_there, acted_none}
use Rattle.link_script.proofs.script_links.ScriptLinks.send_on.Goals as goal

pub returns-in-Some-clause-left : goal.returns-in-Some-clause-left
returns-in-Some-clause-left c =
    let call = SendTo c.args.c c.args.port c.args.to (c.args.head.now ++ c.args.tail.now) in
    acted_there (played_of c.args.self.now) c.args.c call c.in-Some.field-0 _
    (c.in-Some.ensures ∙ ap (λ l. position (is_serving c.args.c) l) c.deref.ensures.value) c.send_there.ensures.left

pub returns-in-None-clause-left : goal.returns-in-None-clause-left
returns-in-None-clause-left c =
    let call = SendTo c.args.c c.args.port c.args.to (c.args.head.now ++ c.args.tail.now) in
    acted_none (played_of c.args.self.now) c.args.c call _
    (c.in-None.ensures ∙ ap (λ l. position (is_serving c.args.c) l) c.deref.ensures.value) c.lose.ensures
