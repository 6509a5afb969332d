use Rattle.chip_core.specs.Chip.{starts_of}
use Rattle.chip_shared.proofs.Opens.{sound_rest}
use Rattle.chip_shared.proofs.shared.Shared.rest.Goals as goal

pub invariant_of-self : goal.invariant_of-self
invariant_of-self g c =
    let it = c.self.inside in
    sound_rest g.L.Links.shown it.chip it.history c.push.new.self it.links it.calls c.self.invariant (c.rest_stands.ensures (starts_of it.chip) it.chip it.history.past c.self.invariant.stands) c.push.ensures.past
