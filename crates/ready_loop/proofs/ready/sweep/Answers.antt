use Rattle.std.proofs.Common.{◌<◌, ◌-◌, ℕ, Option, Some, sym, ap, ◌∙◌, subst}
use Rattle.chip_shared.proofs.Sweeps.{Behind, IsPlace, left}
use Rattle.ready_loop.proofs.Quiet.{link_behind, link_quiet, serves_on, none_some}
use Rattle.ready_loop.proofs.ready.sweep.Given as given
use Rattle.ready_loop.proofs.ready.sweep.Goals as goal

behind : (g : given.Over) (c : goal.After-after_step-next g) → Behind c.in-Some.from c.after_step-next.result
behind g c =
    subst (Behind c.in-Some.from) (sym c.after_step-next.ensures)
    (link_behind c.loop-next.pass c.link.new.pass c.in-Some.from c.in-Ok.did (subst IsPlace c.in-Some.is c.loop-next.invariant.0) c.in-Ok.ensures.taken)

pub loop-next-smaller : goal.loop-next-smaller
loop-next-smaller g c = subst (λ (n : Option ℕ). left c.after_step-next.result < left n) (sym c.in-Some.is) (behind g c).1

pub loop-next-preserved : goal.loop-next-preserved
loop-next-preserved g c =
    let i = c.loop-next.invariant in
    let taken = c.in-Ok.ensures.taken in (
      (behind g c).0,
      serves_on _ c.loop-next.pass _ i.1 c.link.ensures.stays (link_quiet c.loop-next.pass c.link.new.pass c.in-Some.from c.in-Ok.did taken) c.link.ensures.found,
      c.link.ensures.gave ∙ i.2,
      (λ cause is. none_some (sym taken.before ∙ (ap (λ p. p.ended) (i.3 cause is) ∙ is))),
      (λ e. taken.ended),
    )
