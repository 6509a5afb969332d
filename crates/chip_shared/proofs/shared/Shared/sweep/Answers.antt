use Rattle.std.proofs.Common.{refl, Ok}
use Rattle.chip_shared.specs.Causes.{Does}
use Rattle.chip_shared.proofs.Sweeps.{sweeps_start, sweep_smaller, sweeps_next, sweeps_over, sweeps_err, later_same, later_still, step_later}
use Rattle.chip_shared.proofs.shared.Shared.sweep.Goals as goal

pub loop-next-init : goal.loop-next-init
loop-next-init g c = record { on = sweeps_start (Does g.L.Links.effect g.L.Links.shown) _; later = later_same _ _ refl }

pub loop-next-smaller : goal.loop-next-smaller
loop-next-smaller g c = sweep_smaller (Does g.L.Links.effect g.L.Links.shown) _ _ _ _ _ _ _ c.loop-next.invariant.on c.in-Some.is c.in-Ok.ensures.step c.after_step-next.ensures

pub loop-next-preserved : goal.loop-next-preserved
loop-next-preserved g c = record {
  on = sweeps_next (Does g.L.Links.effect g.L.Links.shown) _ _ _ _ _ _ _ c.loop-next.invariant.on c.in-Some.is c.in-Ok.ensures.step c.after_step-next.ensures;
  later = later_still _ _ _ c.loop-next.invariant.later (step_later g.L.Links.effect g.L.Links.shown c.loop-next.self c.link_step.new.self c.in-Some.from (Ok c.in-Ok.did) c.in-Ok.ensures.step);
}

pub returns-in-Err-clause-steps : goal.returns-in-Err-clause-steps
returns-in-Err-clause-steps g c = sweeps_err (Does g.L.Links.effect g.L.Links.shown) _ _ _ _ _ _ c.loop-next.invariant.on c.in-Some.is c.in-Err.ensures.step

pub returns-clause-steps : goal.returns-clause-steps
returns-clause-steps g c = sweeps_over (Does g.L.Links.effect g.L.Links.shown) _ _ _ c.loop-next.invariant.on c.in_default.is
