use Rattle.std.proofs.Common.{refl}
use Rattle.script_rows.proofs.peers.read_made.Goals as goal

pub returns : goal.returns
returns c = c.read.ensures.makes.stays c.args.c c.requires.made refl
