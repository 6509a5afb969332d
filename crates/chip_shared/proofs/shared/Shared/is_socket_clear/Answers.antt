use Rattle.chip_core.specs.Chip.{starts_of}
use Rattle.chip_shared.proofs.Needs.{clear_told}
use Rattle.chip_shared.proofs.shared.Shared.is_socket_clear.Goals as goal

pub returns : goal.returns
returns g c =
    let it = c.self.inside in
    clear_told c.args.self.now it.chip it.history it.links it.calls c.args.sn c.offer.result.0.now c.offer.result.1.now c.self.view_is (c.offer.ensures.bytes (starts_of it.chip) it.history.past c.self.invariant.stands)
