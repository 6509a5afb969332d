use Rattle.chip_shared.specs.Causes.{Does, Later}
use Rattle.chip_shared.proofs.Sweeps.{SweepsOn, left}
use Rattle.chip_shared.proofs.shared.Shared.sweep.Given as goal

abbrev pub invariant-loop-next : goal.invariant-loop-next
invariant-loop-next g l = record {
  on : SweepsOn (Does g.L.Links.effect g.L.Links.shown) l.fn.self l.self l.next;
  later : Later (g.L.Links.shown l.fn.self.links) (g.L.Links.shown l.self.links);
}

abbrev pub decreases-loop-next : goal.decreases-loop-next
decreases-loop-next g l = left l.next
