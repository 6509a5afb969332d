use Rattle.std.proofs.Common.{sym, ap, ◌∙◌, arith, rules}
use Rattle.chip_lock.proofs.Joining.{joins}
use Rattle.chip_lock.proofs.Closing.{closes_as, closes_at}
use Rattle.chip_lock.proofs.turn.Turn.gather.Goals as goal

pub join_seat-requires : goal.join_seat-requires
join_seat-requires g c =
    let a = c.requires.first in
    let b = c.requires.second in
    (a.0 ∙ sym c.self.view_is, b.0 ∙ sym c.self.view_is, b.1.empty, omega (arith, c.self.invariant.0), joins _ _ _ _ a.1.idle b.1.idle a.1.one b.1.one)

pub take-requires : goal.take-requires
take-requires g c =
    let e = c.close_with-closed.ensures in
    let full = e.values.1 0 (omega arith) (omega (arith, e.counts.1, c.self.invariant.1)) in
    (omega (arith, e.counts.1, c.self.invariant.1), search rules)

pub unwrap-kept-requires : goal.unwrap-kept-requires
unwrap-kept-requires g c =
    let k = closes_as _ _ c.args.seat.me.0 c.args.other.me.0 (ap (λ m. m.0) c.join_seat.ensures.2) c.requires.first.1.one c.requires.second.1.one _ _ c.close_with-closed.ensures.values.2 c.take.result c.take.ensures.value in
    let is = k.1 in
    search rules

pub returns : goal.returns
returns g c =
    let k = closes_as _ _ c.args.seat.me.0 c.args.other.me.0 (ap (λ m. m.0) c.join_seat.ensures.2) c.requires.first.1.one c.requires.second.1.one _ _ c.close_with-closed.ensures.values.2 c.take.result c.take.ensures.value in
    closes_at c.args.seat.me.0 c.args.other.me.0 c.take.result c.unwrap-kept.result c.unwrap-kept.ensures k
