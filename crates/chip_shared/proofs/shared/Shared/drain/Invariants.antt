use Rattle.std.proofs.Common.{◌≡◌, None}
use Rattle.chip_shared.specs.Causes.{Does}
use Rattle.chip_shared.proofs.Nearer.{calls_left}
use Rattle.chip_shared.proofs.OutSteps.{DrainsOn}
use Rattle.chip_shared.proofs.shared.Shared.drain.Given as goal

abbrev pub invariant-loop-self : goal.invariant-loop-self
invariant-loop-self g l = record {
  on : DrainsOn (Does g.L.Links.effect g.L.Links.shown) l.sn l.fn.self l.self;
  unstopped : l.self.stopped ≡ None;
}

abbrev pub decreases-loop-self : goal.decreases-loop-self
decreases-loop-self g l = calls_left l.self.starts l.self.log.past l.sn
