use Rattle.std.proofs.Common.{◌+◌, ◌-◌, ◌%◌, refl, sym, arith, subst}
use Rattle.std.proofs.lemmas.List.{get_or-set_same}
use Rattle.chip_sheet.specs.Receiving.{after_release}
use Rattle.ring_mem.specs.RxHolds.{rx_part, Keeps}
use Rattle.ring_mem.proofs.Keeping.{same_rx_part, releases}
use Rattle.ring_mem.proofs.Rooms.{asked_is}
use Rattle.ring_mem.proofs.receives.Receives.release.Goals as goal

pub returns-clause-ok : goal.returns-clause-ok
returns-clause-ok c = λ g h.
    let r = c.args.self.now in
    let p = rx_part r c.args.sn in
    let is = asked_is p r.memory.items g (r.layout.sized c.args.sn) (r.fits c.args.sn) h in (
      omega (arith, is, c.if-asked-unread.false, h.unread),
      omega (arith, is, h.unread),
      subst (λ q. Keeps q r.memory.items (after_release g))
          (sym (same_rx_part _ (record p { unread = p.unread - (p.rd + (65536 - (p.end + (65536 - p.unread)) % 65536)) % 65536 }) refl refl (get_or-set_same r.unread c.args.sn _ 0 (omega (arith, c.requires))) refl refl))
          (releases p r.memory.items g _ is c.if-asked-unread.false h),
    )
