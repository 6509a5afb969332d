use Rattle.std.proofs.Common.{◌+◌, ◌%◌, [], ◌∷◌, set, refl, sym, arith, subst}
use Rattle.std.proofs.lemmas.List.{get_or-set_same, get_or-set_other}
use Rattle.chip_sheet.specs.Receiving.{after_got}
use Rattle.ring_mem.specs.RxHolds.{rx_part, Keeps}
use Rattle.ring_mem.proofs.Keeping.{same_rx_part, puts, others_keep}
use Rattle.ring_mem.proofs.Frame.{set_outside}
use Rattle.ring_mem.proofs.Rooms.{rx_in_memory}
use Rattle.ring_mem.proofs.receives.Receives.put_byte.Goals as goal

pub returns-clause-stands : goal.returns-clause-stands
returns-clause-stands c = λ g h.
    let r = c.args.self.now in
    let p = rx_part r c.args.sn in
    subst (λ q. Keeps q (set r.memory.items c.place-at.result c.args.b) (after_got g (c.args.b ∷ [])))
    (sym (same_rx_part _ (record p { unread = p.unread + 1; end = (p.end + 1) % 65536 }) refl refl (get_or-set_same r.unread c.args.sn _ 0 (omega (arith, c.requires.sn))) (get_or-set_same r.ends c.args.sn _ 0 (omega (arith, c.requires.sn))) refl))
    (subst (λ i. Keeps (record p { unread = p.unread + 1; end = (p.end + 1) % 65536 }) (set r.memory.items i c.args.b) (after_got g (c.args.b ∷ []))) (sym c.place-at.ensures.value)
    (puts p r.memory.items g c.args.b (r.layout.sized c.args.sn) c.requires.fits (rx_in_memory r c.args.sn c.requires.sn) h))

pub returns-clause-outside : goal.returns-clause-outside
returns-clause-outside c = let p = rx_part c.args.self.now c.args.sn in rw c.place-at.ensures.value (set_outside c.args.self.now.memory.items p.start p.size p.end c.args.b (omega (arith, c.requires.fits)))

pub returns-clause-others : goal.returns-clause-others
returns-clause-others c = λ n g below other h.
    let r = c.args.self.now in
    let p = rx_part r c.args.sn in
    others_keep r.layout c.args.sn n (rx_part r n) _ r.memory.items _ g c.requires.sn below other refl refl (r.fits n)
    (same_rx_part _ _ refl refl (get_or-set_other r.unread c.args.sn n _ 0 other) (get_or-set_other r.ends c.args.sn n _ 0 other) refl)
    (rw c.place-at.ensures.value (set_outside r.memory.items p.start p.size p.end c.args.b (omega (arith, c.requires.fits)))) h
