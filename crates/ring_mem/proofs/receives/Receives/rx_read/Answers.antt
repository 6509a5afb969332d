use Rattle.std.proofs.Common.{◌<◌, length, get_or, ap, ◌∙◌, arith}
use Rattle.ring_mem.specs.RxHolds.{rx_part}
use Rattle.ring_mem.proofs.Founds.{reads_none, reads_some, reads_nowhere}
use Rattle.ring_mem.proofs.Marks.{value_at}
use Rattle.ring_mem.proofs.Places.{place_below}
use Rattle.ring_mem.proofs.receives.Receives.rx_read.Goals as goal

pub returns-then-size-eq0 : goal.returns-then-size-eq0
returns-then-size-eq0 c = λ g h. reads_nowhere (rx_part c.args.self.now c.args.sn) c.args.self.now.memory.items g c.args.addr c.if-size-eq0.true h

pub returns-then-distance-unread : goal.returns-then-distance-unread
returns-then-distance-unread c = λ g h.
    let r = c.args.self.now in
    let p = rx_part r c.args.sn in
    let some : 0 < p.size = omega (arith, c.if-size-eq0.false) in
    let short : c.distance.result < p.size = rw c.distance.ensures (place_below p.size _ some) in
    reads_none p r.memory.items g c.args.addr c.distance.result (r.layout.sized c.args.sn) some (r.fits c.args.sn) short c.distance.ensures c.if-distance-unread.true h

pub returns : goal.returns
returns c = λ g h.
    let r = c.args.self.now in
    let p = rx_part r c.args.sn in
    let some : 0 < p.size = omega (arith, c.if-size-eq0.false) in
    let long : c.place-at.result < length r.memory.items = omega (arith, c.place-at.ensures.within, r.memory_len, r.memory.ok.0) in
    value_at r.memory.items c.place-at.result c.index.result.now 0 long c.index.ensures ∙ ap (λ i. get_or r.memory.items i 0) c.place-at.ensures.value
    ∙ reads_some p r.memory.items g c.args.addr c.distance.result (r.layout.sized c.args.sn) some (r.fits c.args.sn) c.distance.ensures c.if-distance-unread.false h
