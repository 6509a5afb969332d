use Rattle.std.proofs.Common.{refl}
use Rattle.script_rows.proofs.peers.write_made.Goals as goal

pub returns : goal.returns
returns c = c.write.ensures.makes.stays c.args.c c.requires.made refl
