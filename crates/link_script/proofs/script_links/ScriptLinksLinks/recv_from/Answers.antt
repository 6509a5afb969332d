use Rattle.std.proofs.Common.{length}
use Rattle.link_trait.specs.Calls.{RecvFrom}
use Rattle.link_script.specs.Links.{played_of}
use Rattle.link_script.proofs.Shows.{keeps}
use Rattle.link_script.proofs.script_links.ScriptLinksLinks.recv_from.Goals as goal

pub returns-clause-makes : goal.returns-clause-makes
returns-clause-makes c =
    (keeps (played_of c.args.self.now) (played_of c.play_recv.new.self) (RecvFrom c.args.c c.args.port (length c.args.buf.now)) _ tt tt c.play_recv.ensures.plays).1

pub returns-clause-lists : goal.returns-clause-lists
returns-clause-lists c =
    (keeps (played_of c.args.self.now) (played_of c.play_recv.new.self) (RecvFrom c.args.c c.args.port (length c.args.buf.now)) _ tt tt c.play_recv.ensures.plays).2
