use Rattle.std.proofs.Common.{◌≡◌, ◌<◌, ◌+◌, ◌-◌, ◌%◌, ℕ, List, length, length-drop, drop, append-nil, sym, ap, ◌∙◌, arith}
use Rattle.std.proofs.lemmas.List.{length-take-le}
use Rattle.chip_sheet.specs.Sending.{Sending, taken_count, first_in_flight, next_to_send}
use Rattle.ring_mem.specs.declared.sends.Sends.{Sends}
use Rattle.ring_mem.specs.TxHolds.{part, Stands}
use Rattle.ring_mem.proofs.Frame.{part_in_memory}
use Rattle.ring_mem.proofs.Apart.{part_within}
use Rattle.ring_mem.proofs.Places.{place_below, from_place, one_part, two_parts, InMemory}
use Rattle.ring_mem.proofs.sends.Sends.offer.Goals as goal

from_is : (r : Sends) (n from : ℕ) (s : Sending) → Stands (part r n) r.memory.items r.marks.items s → 0 < (part r n).size
    → from ≡ (part r n).start + ((part r n).end + (65536 - (part r n).flight)) % 65536 % (part r n).size → from ≡ (part r n).start + first_in_flight s % (part r n).size
from_is r n from s h some is = let p = part r n in
    is ∙ ap (λ k. p.start + k) (from_place p.size p.end p.flight (next_to_send s) (first_in_flight s) (r.layout.sized n) some (r.fits n) (omega (arith, h.flight, h.within)) h.end)

there : (r : Sends) (n : ℕ) (s : Sending) (memory : List ℕ) → Stands (part r n) r.memory.items r.marks.items s → 0 < (part r n).size → memory ≡ r.memory.items
    → InMemory memory s.sent (part r n).start (part r n).size (first_in_flight s) (taken_count s) (part r n).flight
there r n s memory h some is k below = rw is (h.bytes (first_in_flight s + k) some ∙ h.kept k (omega (arith, h.flight, below)))

pub returns-then-flight-room-clause-bytes : goal.returns-then-flight-room-clause-bytes
returns-then-flight-room-clause-bytes c = λ s h.
    let r = c.args.self.now in
    let p = part r c.args.sn in
    let some : 0 < p.size = omega (arith, c.if-size-eq0.false) in
    let from = from_is r c.args.sn c.place-from.result s h some c.place-from.ensures.value in
    append-nil _ ∙ one_part c.deref.result.now s.sent p.start p.size (first_in_flight s) p.flight (taken_count s) c.place-from.result _ (r.layout.sized c.args.sn) some
    (omega (arith, ap length c.deref.ensures.value, part_in_memory r c.args.sn c.requires)) (omega (arith, h.within, h.flight)) from
    (omega (arith, c.if-flight-room.true, from, place_below p.size (first_in_flight s) some)) (omega arith) (there r c.args.sn s c.deref.result.now h some c.deref.ensures.value)

pub returns-clause-first : goal.returns-clause-first
returns-clause-first c = λ s h.
    let r = c.args.self.now in
    let p = part r c.args.sn in
    let memory = c.deref-2.result.now in
    let some : 0 < p.size = omega (arith, c.if-size-eq0.false) in
    let from = from_is r c.args.sn c.place-from.result s h some c.place-from.ensures.value in
    let short = place_below p.size (first_in_flight s) some in
    length-take-le (p.start + p.size - c.place-from.result) (drop c.place-from.result memory)
    (omega (arith, length-drop c.place-from.result memory, ap length c.deref-2.ensures.value, part_in_memory r c.args.sn c.requires))
    ∙ rw h.size (omega (arith, from, short, h.flight, c.if-flight-room.false))

pub slice_bounds-result-end-2 : goal.slice_bounds-result-end-2
slice_bounds-result-end-2 c = omega (arith, c.args.self.now.fits c.args.sn, part_within c.args.self.now.layout c.args.sn c.requires, c.if-flight-room.false, c.args.self.now.memory_len, c.place-from.ensures.value)

pub returns-clause-bytes : goal.returns-clause-bytes
returns-clause-bytes c = λ s h.
    let r = c.args.self.now in
    let p = part r c.args.sn in
    let some : 0 < p.size = omega (arith, c.if-size-eq0.false) in
    let from = from_is r c.args.sn c.place-from.result s h some c.place-from.ensures.value in
    let one = c.deref-3.ensures.value ∙ sym c.deref-2.ensures.value in
    rw one (two_parts c.deref-2.result.now s.sent p.start p.size (first_in_flight s) p.flight (taken_count s) c.place-from.result _ _ (r.layout.sized c.args.sn) some
    (omega (arith, ap length c.deref-2.ensures.value, part_in_memory r c.args.sn c.requires)) (omega (arith, h.within, h.flight)) from (omega arith) (omega (arith, c.if-flight-room.false, from)) (r.fits c.args.sn) (omega arith) (there r c.args.sn s c.deref-2.result.now h some c.deref-2.ensures.value))

pub slice_bounds-result-end-then-flight-room : goal.slice_bounds-result-end-then-flight-room
slice_bounds-result-end-then-flight-room c = omega (arith, part_within c.args.self.now.layout c.args.sn c.requires, c.if-flight-room.true, c.args.self.now.memory_len, c.place-from.ensures.value)
