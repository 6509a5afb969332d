use Rattle.std.proofs.Common.{◌≤◌, ◌+◌, ◌-◌, ◌%◌, refl, sym, arith, subst}
use Rattle.std.proofs.lemmas.List.{get_or-set_same, get_or-set_other}
use Rattle.chip_sheet.specs.Sending.{after_commit}
use Rattle.ring_mem.specs.TxHolds.{part, Stands}
use Rattle.ring_mem.proofs.Frame.{others_stand, same_part, marked_outside}
use Rattle.ring_mem.proofs.Steps.{range_is, commits}
use Rattle.ring_mem.proofs.sends.Sends.commit.Goals as goal

pub returns-clause-ok : goal.returns-clause-ok
returns-clause-ok c = λ s h.
    let r = c.args.self.now in
    let p = part r c.args.sn in
    let n = (p.wr + (65536 - p.end)) % 65536 in
    let is = range_is p r.memory.items r.marks.items s h in
    let few : n ≤ p.size - p.flight = c.if-len-free.false in (
      is,
      omega (arith, is, few, h.size, h.flight),
      subst (λ q. Stands q r.memory.items c.mark.new.marks.items (after_commit s))
          (sym (same_part _ (record p { flight = p.flight + n; end = p.wr }) refl refl (get_or-set_same r.flights c.args.sn _ 0 (omega arith)) (get_or-set_same r.ends c.args.sn _ 0 (omega arith)) refl))
          (commits p r.memory.items r.marks.items c.mark.new.marks.items s n (r.layout.sized c.args.sn) (r.fits c.args.sn) few is c.mark.ensures.marked h),
    )

pub returns-clause-others : goal.returns-clause-others
returns-clause-others c = λ n s below other h.
    let r = c.args.self.now in
    let p = part r c.args.sn in
    others_stand r.layout c.args.sn n (part r n) _ r.memory.items r.memory.items r.marks.items c.mark.new.marks.items s c.requires below other refl refl
    (same_part _ _ refl refl (get_or-set_other r.flights c.args.sn n _ 0 other) (get_or-set_other r.ends c.args.sn n _ 0 other) refl)
    (λ at out. refl) (marked_outside _ _ p.start p.size _ _ (omega (arith, c.if-len-free.false)) c.mark.ensures.marked) h
