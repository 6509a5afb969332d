use Rattle.std.proofs.Common.{◌≡◌, ◌∙◌, None, sym, subst}
use Rattle.chip_sheet.specs.declared.event.Entry.TheVariants.{Bus}
use Rattle.chip_lock.proofs.Keeping.{bus_added, takes_added}
use Rattle.chip_lock.proofs.kept.Kept.bus.Goals as goal

pub returns-in-Ok-clause-takes : goal.returns-in-Ok-clause-takes
returns-in-Ok-clause-takes g c =
    let it = c.deref_mut-held.result.now in
    let same = sym c.deref_mut-held.ensures.value in
    let view = subst (λ (h : _). record { state = h.shared; cause = h.cause; live = h.live; last = h.last } ≡ c.args.self.now) same c.self.view_is in
    let clear = subst (λ (h : _). h.cause ≡ None) (c.deref.ensures ∙ same) c.in_default.is in
    let renewed = c.renew-held in
    let entry = Bus c.args.e c.in-Ok.a in
    let adds = bus_added it.shared c.bus_step.new.self renewed.new.shared c.args.e c.in-Ok.a c.in-Ok.ensures.asks renewed.ensures.keeps renewed.ensures.stopped in
    (entry, takes_added it.shared renewed.new.shared it.cause renewed.result it.live 0 it.last c.args.e entry c.args.self.now view clear adds renewed.ensures.dry)
