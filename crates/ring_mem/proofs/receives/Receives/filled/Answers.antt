use Rattle.std.proofs.Common.{◌+◌, ◌%◌, take, refl, sym, arith, subst}
use Rattle.std.proofs.lemmas.List.{get_or-set_same}
use Rattle.chip_sheet.specs.Receiving.{after_got}
use Rattle.ring_mem.specs.RxHolds.{rx_part, Keeps, room_bytes}
use Rattle.ring_mem.proofs.Keeping.{same_rx_part, below_set, fills}
use Rattle.ring_mem.proofs.Rooms.{rx_in_memory, room_free}
use Rattle.ring_mem.proofs.receives.Receives.filled.Goals as goal

pub invariant_of-self : goal.invariant_of-self
invariant_of-self c = let r = c.args.self.now in record {
  memory_len = r.memory_len;
  fits = below_set r.unread r.layout.sizes c.args.sn _ r.fits (omega (arith, c.requires.sn)) (omega (arith, c.requires.few, room_free (rx_part r c.args.sn), r.fits c.args.sn));
}

pub returns-clause-stands : goal.returns-clause-stands
returns-clause-stands c = λ g h.
    let r = c.args.self.now in
    let p = rx_part r c.args.sn in
    subst (λ q. Keeps q r.memory.items (after_got g (take c.args.k (room_bytes r c.args.sn))))
    (sym (same_rx_part _ (record p { unread = p.unread + c.args.k; end = (p.end + c.args.k) % 65536 }) refl refl (get_or-set_same r.unread c.args.sn _ 0 (omega (arith, c.requires.sn))) (get_or-set_same r.ends c.args.sn _ 0 (omega (arith, c.requires.sn))) refl))
    (fills p r.memory.items g c.args.k (r.layout.sized c.args.sn) (r.fits c.args.sn) (rx_in_memory r c.args.sn c.requires.sn) c.requires.few h)
