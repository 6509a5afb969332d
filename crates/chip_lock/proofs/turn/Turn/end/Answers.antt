use Rattle.chip_lock.proofs.Making.{end_leaves}
use Rattle.chip_lock.proofs.turn.Turn.end.Goals as goal

pub leave-requires-clause-may : goal.leave-requires-clause-may
leave-requires-clause-may g c =
    end_leaves c.pass.inside.seat.me c.enter-kept.new.seat.me c.enter-kept.result c.end-cause.new.self c.enter-kept.ensures.inside c.args.why c.end-cause.result
    (c.pass.invariant.runs c.in_default.is) c.end-cause.ensures.turn c.end-cause.ensures.takes
