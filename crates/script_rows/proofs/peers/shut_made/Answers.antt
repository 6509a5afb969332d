use Rattle.std.proofs.Common.{refl}
use Rattle.script_rows.proofs.peers.shut_made.Goals as goal

pub returns : goal.returns
returns c = c.shut.ensures.makes.stays c.args.c c.requires.made refl
