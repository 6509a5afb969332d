use Rattle.std.proofs.Common.{sym, ap, ◌∙◌, subst, arith}
use Rattle.chip_shared.specs.State.{State, Keeps}
use Rattle.chip_shared.specs.Calling.{is_due}
use Rattle.chip_shared.specs.Causes.{Does}
use Rattle.chip_shared.proofs.Seeking.{called_keeps, finds, first_keeps, seeks_on}
use Rattle.chip_shared.proofs.shared.Shared.link_step.Goals as goal

pub loop-place-preserved : goal.loop-place-preserved
loop-place-preserved g c =
    let now = c.loop-place.self in
    let below = c.loop-place-test.true in
    let none = sym (ap is_due c.due-due.ensures) ∙ sym c.is_due.ensures ∙ c.if-is_due.false in
    record {
      last = omega (arith, below);
      same = c.loop-place.invariant.same;
      none = sym (seeks_on now.starts now.log.past c.loop-place.place below none) ∙ c.loop-place.invariant.none;
    }

pub returns-then-is_due : goal.returns-then-is_due
returns-then-is_due g c =
    let old = c.args.self.now in
    let now = c.loop-place.self in
    let at = c.loop-place.place in
    let some = sym (ap is_due c.due-due.ensures) ∙ sym c.is_due.ensures ∙ c.if-is_due.true in
    let first = sym c.loop-place.invariant.none ∙ finds now.starts now.log.past at c.loop-place-test.true some in
    let keeps = subst (λ (s : State g.row.L.Denot). Keeps old s) (sym c.loop-place.invariant.same) c.ready.ensures.keeps in
    record {
      step = (
        c.in_default.ensures.before,
        rw (first_keeps old now c.args.from at keeps first) (called_keeps (Does g.L.Links.effect g.L.Links.shown) old now c.call.new.self at c.call.result keeps c.call.ensures),
      );
    }
