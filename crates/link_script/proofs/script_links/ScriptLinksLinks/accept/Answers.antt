use Rattle.link_trait.specs.Calls.{Accept}
use Rattle.link_script.specs.Links.{played_of}
use Rattle.link_script.proofs.Shows.{keeps}
use Rattle.link_script.proofs.script_links.ScriptLinksLinks.accept.Goals as goal

pub returns-clause-makes : goal.returns-clause-makes
returns-clause-makes c =
    (keeps (played_of c.args.self.now) (played_of c.play_accept.new.self) (Accept c.args.c c.args.port) _ tt tt c.play_accept.ensures.plays).1

pub returns-clause-lists : goal.returns-clause-lists
returns-clause-lists c =
    (keeps (played_of c.args.self.now) (played_of c.play_accept.new.self) (Accept c.args.c c.args.port) _ tt tt c.play_accept.ensures.plays).2
