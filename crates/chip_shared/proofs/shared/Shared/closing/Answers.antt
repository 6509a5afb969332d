use Rattle.std.proofs.Common.{◌≡◌, ◌<◌, ℕ, subst, arith}
use Rattle.chip_shared.specs.Causes.{Does}
use Rattle.chip_shared.proofs.Closes.{ClosesOn, closes_step, closes_end, closes_refused, closes_says}
use Rattle.chip_shared.proofs.shared.Shared.closing.Goals as goal

pub loop-sn-preserved : goal.loop-sn-preserved
loop-sn-preserved g c = record {
  on = closes_step (Does g.L.Links.effect g.L.Links.shown) c.loop-sn.sn c.loop-sn.faulted c.in-Ok.failed c.args.self.now c.loop-sn.self c.drain.new.self c.loop-sn.invariant.on c.in-Ok.ensures.steps;
  unstopped = c.drain.ensures.unstopped;
}

pub returns-in-Err-clause-steps : goal.returns-in-Err-clause-steps
returns-in-Err-clause-steps g c =
    let few : c.loop-sn.sn < 8 = omega arith in
    closes_refused (Does g.L.Links.effect g.L.Links.shown) c.loop-sn.sn c.loop-sn.faulted c.args.self.now c.loop-sn.self c.drain.new.self c.in-Err.end c.refused.result few c.loop-sn.invariant.on c.in-Err.ensures.steps c.refused.ensures

pub returns-in-Err-clause-leaves : goal.returns-in-Err-clause-leaves
returns-in-Err-clause-leaves g c = (closes_says g.L.Links.effect g.L.Links.shown c.args.self.now c.refused.result c.drain.new.self (returns-in-Err-clause-steps g c)).leaves

pub returns-in-Err-clause-counts : goal.returns-in-Err-clause-counts
returns-in-Err-clause-counts g c = (closes_says g.L.Links.effect g.L.Links.shown c.args.self.now c.refused.result c.drain.new.self (returns-in-Err-clause-steps g c)).later

pub returns-clause-steps : goal.returns-clause-steps
returns-clause-steps g c =
    let e : c.loop-sn.sn ≡ 8 = omega arith in
    closes_end (Does g.L.Links.effect g.L.Links.shown) c.loop-sn.faulted c.args.self.now c.loop-sn.self c.ended.result
    (subst (λ (k : ℕ). ClosesOn (Does g.L.Links.effect g.L.Links.shown) k c.loop-sn.faulted c.args.self.now c.loop-sn.self) e c.loop-sn.invariant.on) c.ended.ensures

pub returns-clause-leaves : goal.returns-clause-leaves
returns-clause-leaves g c = (closes_says g.L.Links.effect g.L.Links.shown c.args.self.now c.ended.result c.loop-sn.self (returns-clause-steps g c)).leaves

pub returns-clause-counts : goal.returns-clause-counts
returns-clause-counts g c = (closes_says g.L.Links.effect g.L.Links.shown c.args.self.now c.ended.result c.loop-sn.self (returns-clause-steps g c)).later
