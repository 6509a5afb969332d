use Rattle.board_gen.proofs.Others.{no_parts}
use Rattle.board_gen.proofs.links.link.Goals as goal

pub returns-in-None : goal.returns-in-None
returns-in-None c = no_parts c.args.text.now c.in-None.ensures.parts
