use Rattle.std.proofs.Common.{◌≡◌, subst}
use Rattle.chip_sheet.specs.LinkCalls.{due_at}
use Rattle.chip_core.specs.Chip.{starts_of}
use Rattle.chip_shared.specs.State.{State}
use Rattle.chip_shared.proofs.shared.Shared.due.Goals as goal

pub returns : goal.returns
returns g c =
    let it = c.self.inside in
    subst (λ (s : State g.row.L.Denot). c.due.result ≡ due_at s.starts s.log.past c.args.place) c.self.view_is (c.due.ensures (starts_of it.chip) it.history.past c.self.invariant.stands)
