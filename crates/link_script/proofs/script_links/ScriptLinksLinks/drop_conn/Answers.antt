use Rattle.link_trait.specs.Calls.{DropConn}
use Rattle.link_script.specs.Links.{played_of}
use Rattle.link_script.proofs.Shows.{keeps}
use Rattle.link_script.proofs.script_links.ScriptLinksLinks.drop_conn.Goals as goal

pub returns-clause-makes : goal.returns-clause-makes
returns-clause-makes c =
    (keeps (played_of c.args.self.now) (played_of c.play_drop.new.self) (DropConn c.args.c) _ tt tt c.play_drop.ensures.plays).1

pub returns-clause-lists : goal.returns-clause-lists
returns-clause-lists c =
    (keeps (played_of c.args.self.now) (played_of c.play_drop.new.self) (DropConn c.args.c) _ tt tt c.play_drop.ensures.plays).2
