use Rattle.std.proofs.Common.{◌-◌, refl, sym, ◌∙◌, arith, subst}
use Rattle.std.proofs.lemmas.List.{get_or-set_same, get_or-set_other}
use Rattle.chip_sheet.specs.Sending.{after_taken}
use Rattle.ring_mem.specs.TxHolds.{part, Stands}
use Rattle.ring_mem.proofs.Frame.{others_stand, same_part, cleared_outside}
use Rattle.ring_mem.proofs.Steps.{passes, takes}
use Rattle.ring_mem.proofs.sends.Sends.taken.Goals as goal

pub returns-clause-passed : goal.returns-clause-passed
returns-clause-passed c = λ s h.
    let r = c.args.self.now in
    c.unmark-passed.ensures.passed ∙ passes (part r c.args.sn) r.memory.items r.marks.items s c.args.k (r.layout.sized c.args.sn) (r.fits c.args.sn) c.requires.few h

pub returns-clause-stands : goal.returns-clause-stands
returns-clause-stands c = λ s h.
    let r = c.args.self.now in
    let p = part r c.args.sn in
    subst (λ q. Stands q r.memory.items c.unmark-passed.new.marks.items (after_taken s c.args.k))
    (sym (same_part _ (record p { flight = p.flight - c.args.k }) refl refl (get_or-set_same r.flights c.args.sn _ 0 (omega arith)) refl refl))
    (takes p r.memory.items r.marks.items c.unmark-passed.new.marks.items s c.args.k (r.layout.sized c.args.sn) (r.fits c.args.sn) c.requires.few c.unmark-passed.ensures.cleared h)

pub returns-clause-others : goal.returns-clause-others
returns-clause-others c = λ n s below other h.
    let r = c.args.self.now in
    let p = part r c.args.sn in
    others_stand r.layout c.args.sn n (part r n) _ r.memory.items r.memory.items r.marks.items c.unmark-passed.new.marks.items s c.requires.sn below other refl refl
    (same_part _ _ refl refl (get_or-set_other r.flights c.args.sn n _ 0 other) refl refl)
    (λ at out. refl) (cleared_outside _ _ p.start p.size _ c.args.k (omega (arith, c.requires.few, r.fits c.args.sn)) c.unmark-passed.ensures.cleared) h
