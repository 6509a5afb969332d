use Rattle.chip_shared.proofs.Needs.{sound_fresh}
use Rattle.chip_shared.proofs.shared.Shared.new.Goals as goal

pub invariant_of-result : goal.invariant_of-result
invariant_of-result g c =
    sound_fresh g.L.Links.shown c.args.chip c.args.history c.args.links c.requires.chip.0 c.requires.chip.1 (c.starts_are.ensures c.requires.chip.0 c.args.chip _ c.requires.chip.1) c.requires.history c.requires.links
