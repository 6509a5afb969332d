use Rattle.std.proofs.Common.{arith}
use Rattle.link_trait.specs.Calls.{Write}
use Rattle.link_script.specs.Links.{played_of}
use Rattle.link_script.proofs.Shows.{keeps}
use Rattle.link_script.proofs.script_links.ScriptLinksLinks.write.Goals as goal

pub returns-clause-makes : goal.returns-clause-makes
returns-clause-makes c =
    (keeps (played_of c.args.self.now) (played_of c.play_write.new.self) (Write c.args.c c.args.piece.now) _ (omega (arith, c.requires.socket, c.play_write.ensures.eight.1)) (omega (arith, c.requires.socket, c.play_write.ensures.eight.0)) c.play_write.ensures.plays).1

pub returns-clause-lists : goal.returns-clause-lists
returns-clause-lists c =
    (keeps (played_of c.args.self.now) (played_of c.play_write.new.self) (Write c.args.c c.args.piece.now) _ (omega (arith, c.requires.socket, c.play_write.ensures.eight.1)) (omega (arith, c.requires.socket, c.play_write.ensures.eight.0)) c.play_write.ensures.plays).2
