use Rattle.std.proofs.Common.{◌≤◌, ◌<◌, ◌+◌, ◌-◌, ◌%◌, set, refl, sym, ap, arith, subst}
use Rattle.chip_sheet.specs.Sending.{after_write}
use Rattle.chip_sheet.specs.declared.stop.ChipStop.TheVariants as stops
use Rattle.ring_mem.specs.TxHolds.{part, Stands}
use Rattle.ring_mem.proofs.Founds.{over_some, over_none, over_nowhere}
use Rattle.ring_mem.proofs.Places.{place_below}
use Rattle.ring_mem.proofs.Frame.{others_stand, set_outside, part_in_memory}
use Rattle.ring_mem.proofs.Writes.{not_over, own_byte, takes_none}
use Rattle.ring_mem.proofs.sends.Sends.tx_write.Goals as goal

pub returns-clause-ok : goal.returns-clause-ok
returns-clause-ok c = λ s h.
    let r = c.args.self.now in
    let p = part r c.args.sn in
    let some : 0 < p.size = omega (arith, c.if-size-eq0.false) in
    let far : p.flight ≤ (c.args.addr % p.size + p.size - (p.end + (65536 - p.flight)) % 65536 % p.size) % p.size = omega (arith, c.if-distance-flight.false, c.distance.ensures) in
    let short : c.distance.result < p.size = rw c.distance.ensures (place_below p.size _ some) in
    let free = not_over p r.memory.items r.marks.items s c.args.addr (r.layout.sized c.args.sn) some (r.fits c.args.sn) far h in (
      over_none p r.memory.items r.marks.items s c.args.addr c.distance.result (r.layout.sized c.args.sn) some (r.fits c.args.sn) short c.distance.ensures c.if-distance-flight.false h,
      subst (λ i. Stands p (set r.memory.items i c.args.b) r.marks.items (after_write s c.args.addr c.args.b)) (sym c.place-at.ensures.value)
          (own_byte p r.memory.items r.marks.items s c.args.addr c.args.b some (part_in_memory r c.args.sn c.requires) free h),
    )

pub returns-clause-others : goal.returns-clause-others
returns-clause-others c = λ n s below other h.
    let r = c.args.self.now in
    let p = part r c.args.sn in
    others_stand r.layout c.args.sn n (part r n) _ r.memory.items _ r.marks.items r.marks.items s c.requires below other refl refl refl
    (rw c.place-at.ensures.value (set_outside r.memory.items p.start p.size c.args.addr c.args.b (omega (arith, c.if-size-eq0.false)))) (λ at out. refl) h

pub returns-then-distance-flight-clause-err : goal.returns-then-distance-flight-clause-err
returns-then-distance-flight-clause-err c = (
  refl,
  λ s h.
      let r = c.args.self.now in
      let p = part r c.args.sn in (
        (c.distance.result, over_some p r.memory.items r.marks.items s c.args.addr c.distance.result (r.layout.sized c.args.sn) (omega (arith, c.if-size-eq0.false)) (r.fits c.args.sn) c.distance.ensures c.if-distance-flight.true h),
        ap (λ n. stops.OverwriteInFlight c.args.sn (c.args.addr % n)) (sym h.size),
      ),
)

pub returns-then-size-eq0-clause-ok : goal.returns-then-size-eq0-clause-ok
returns-then-size-eq0-clause-ok c = λ s h.
    let r = c.args.self.now in
    let p = part r c.args.sn in (
      over_nowhere p r.memory.items r.marks.items s c.args.addr c.if-size-eq0.true h,
      takes_none p r.memory.items r.marks.items s c.args.addr c.args.b c.if-size-eq0.true h,
    )
