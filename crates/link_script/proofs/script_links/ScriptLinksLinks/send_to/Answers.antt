use Rattle.std.proofs.Common.{◌++◌, arith}
use Rattle.link_trait.specs.Calls.{SendTo}
use Rattle.link_script.specs.Links.{played_of}
use Rattle.link_script.proofs.Shows.{keeps}
use Rattle.link_script.proofs.script_links.ScriptLinksLinks.send_to.Goals as goal

pub returns-clause-makes : goal.returns-clause-makes
returns-clause-makes c =
    (keeps (played_of c.args.self.now) (played_of c.play_send.new.self) (SendTo c.args.c c.args.port c.args.to (c.args.head.now ++ c.args.tail.now)) _ (omega (arith, c.requires, c.play_send.ensures.eight.1)) (omega (arith, c.requires, c.play_send.ensures.eight.0)) c.play_send.ensures.plays).1

pub returns-clause-lists : goal.returns-clause-lists
returns-clause-lists c =
    (keeps (played_of c.args.self.now) (played_of c.play_send.new.self) (SendTo c.args.c c.args.port c.args.to (c.args.head.now ++ c.args.tail.now)) _ (omega (arith, c.requires, c.play_send.ensures.eight.1)) (omega (arith, c.requires, c.play_send.ensures.eight.0)) c.play_send.ensures.plays).2
