use Rattle.std.proofs.Common.{refl, sym, arith, subst}
use Rattle.std.proofs.lemmas.List.{get_or-set_same, get_or-set_other}
use Rattle.chip_sheet.specs.Sending.{after_begin, after_empty}
use Rattle.ring_mem.specs.TxHolds.{part, Stands}
use Rattle.ring_mem.proofs.Frame.{same_part}
use Rattle.ring_mem.proofs.Idle.{begins}
use Rattle.ring_mem.proofs.sends.Sends.begin.Goals as goal

pub returns-clause-stands : goal.returns-clause-stands
returns-clause-stands c = λ s h.
    let r = c.empty.new.self in
    let p = part r c.args.sn in
    let n = c.args.sn in
    let base = c.args.base in
    subst (λ q. Stands q r.memory.items r.marks.items (after_begin s base))
    (sym (same_part _ (record p { end = base; wr = base }) refl refl refl (get_or-set_same r.ends n base 0 (omega arith)) (get_or-set_same r.written n base 0 (omega arith))))
    (begins p r.memory.items r.marks.items (after_empty s) base (r.layout.sized n) (omega arith) refl (c.empty.ensures.stands s h))

pub returns-clause-others : goal.returns-clause-others
returns-clause-others c = λ n s below other h.
    let r = c.empty.new.self in
    subst (λ q. Stands q r.memory.items r.marks.items s)
    (sym (same_part _ (part r n) refl refl refl (get_or-set_other r.ends c.args.sn n c.args.base 0 other) (get_or-set_other r.written c.args.sn n c.args.base 0 other)))
    (c.empty.ensures.others n s below other h)
