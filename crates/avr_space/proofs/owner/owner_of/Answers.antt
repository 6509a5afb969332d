use Rattle.std.proofs.Common.{◌∙◌}
use Rattle.avr_space.proofs.Owners.{same_owner}
use Rattle.avr_space.proofs.owner.owner_of.Goals as goal

pub returns : goal.returns
returns c = c.owner_by_ranges.ensures ∙ same_owner c.args.addr c.requires
