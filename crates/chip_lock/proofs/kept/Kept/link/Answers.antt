use Rattle.std.proofs.Common.{◌≡◌, ◌<◌, ◌∙◌, None, sym, subst}
use Rattle.chip_shared.specs.Causes.{Does}
use Rattle.chip_lock.specs.Standing.{KeptState, IsKept}
use Rattle.chip_lock.specs.Turns.{called}
use Rattle.chip_lock.proofs.Keeping.{kept_added, link_added, link_made, takes_added}
use Rattle.chip_lock.proofs.kept.Kept.link.Goals as goal

pub invariant_of-self : goal.invariant_of-self
invariant_of-self g c =
    let it = c.deref_mut-held.result.now in
    let same = sym c.deref_mut-held.ensures.value in
    let view = subst (λ (h : _). record { state = h.shared; cause = h.cause; live = h.live; last = h.last } ≡ c.args.self.now) same c.self.view_is in
    let clear = subst (λ (h : _). h.cause ≡ None) (c.deref.ensures ∙ same) c.in_default.is in
    let renewed = c.renew-held in
    let made = link_added (Does g.L.Links.effect g.L.Links.shown) it.shared c.link_step.new.self renewed.new.shared c.args.from c.in-Ok.did c.in-Ok.ensures.step renewed.ensures.keeps renewed.ensures.stopped in
    let kept = subst (λ (h : _). IsKept h.shared h.cause h.live) same c.self.invariant in
    kept_added it.shared renewed.new.shared it.cause renewed.result it.live (called c.in-Ok.did) made.entry clear kept (subst (λ (k : KeptState _). 0 < k.live) (sym view) c.requires.live) made.adds
    renewed.ensures.dry renewed.ensures.room renewed.ensures.data_room

pub returns-in-Ok-clause-turn : goal.returns-in-Ok-clause-turn
returns-in-Ok-clause-turn g c =
    let it = c.deref_mut-held.result.now in
    let same = sym c.deref_mut-held.ensures.value in
    let view = subst (λ (h : _). record { state = h.shared; cause = h.cause; live = h.live; last = h.last } ≡ c.args.self.now) same c.self.view_is in
    let clear = subst (λ (h : _). h.cause ≡ None) (c.deref.ensures ∙ same) c.in_default.is in
    let renewed = c.renew-held in
    let made = link_added (Does g.L.Links.effect g.L.Links.shown) it.shared c.link_step.new.self renewed.new.shared c.args.from c.in-Ok.did c.in-Ok.ensures.step renewed.ensures.keeps renewed.ensures.stopped in
    link_made it.shared renewed.new.shared it.cause renewed.result it.live c.args.from it.last c.in-Ok.did made.entry c.args.self.now view clear made.adds made.is

pub returns-in-Ok-clause-takes : goal.returns-in-Ok-clause-takes
returns-in-Ok-clause-takes g c =
    let it = c.deref_mut-held.result.now in
    let same = sym c.deref_mut-held.ensures.value in
    let view = subst (λ (h : _). record { state = h.shared; cause = h.cause; live = h.live; last = h.last } ≡ c.args.self.now) same c.self.view_is in
    let clear = subst (λ (h : _). h.cause ≡ None) (c.deref.ensures ∙ same) c.in_default.is in
    let renewed = c.renew-held in
    let made = link_added (Does g.L.Links.effect g.L.Links.shown) it.shared c.link_step.new.self renewed.new.shared c.args.from c.in-Ok.did c.in-Ok.ensures.step renewed.ensures.keeps renewed.ensures.stopped in (
      made.entry,
      takes_added it.shared renewed.new.shared it.cause renewed.result it.live (called c.in-Ok.did) it.last it.last made.entry c.args.self.now view clear made.adds renewed.ensures.dry,
    )
