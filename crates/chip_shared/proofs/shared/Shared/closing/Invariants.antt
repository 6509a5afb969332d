use Rattle.std.proofs.Common.{◌≡◌, None}
use Rattle.chip_shared.specs.Causes.{Does}
use Rattle.chip_shared.proofs.Closes.{ClosesOn}
use Rattle.chip_shared.proofs.shared.Shared.closing.Given as goal

abbrev pub invariant-loop-sn : goal.invariant-loop-sn
invariant-loop-sn g l = record {
  on : ClosesOn (Does g.L.Links.effect g.L.Links.shown) l.sn l.faulted l.fn.self l.self;
  unstopped : l.self.stopped ≡ None;
}
