use Rattle.link_trait.specs.Calls.{Connect}
use Rattle.link_script.specs.Links.{played_of}
use Rattle.link_script.proofs.Shows.{keeps}
use Rattle.link_script.proofs.script_links.ScriptLinksLinks.connect.Goals as goal

pub returns-clause-makes : goal.returns-clause-makes
returns-clause-makes c =
    (keeps (played_of c.args.self.now) (played_of c.play_connect.new.self) (Connect c.args.c c.args.to) _ tt tt c.play_connect.ensures.plays).1

pub returns-clause-lists : goal.returns-clause-lists
returns-clause-lists c =
    (keeps (played_of c.args.self.now) (played_of c.play_connect.new.self) (Connect c.args.c c.args.to) _ tt tt c.play_connect.ensures.plays).2
