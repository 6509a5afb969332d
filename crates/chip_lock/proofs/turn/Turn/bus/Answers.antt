use Rattle.std.proofs.Common.{inr, sym, ap, ◌∙◌}
use Rattle.chip_lock.specs.Passes.{PassView}
use Rattle.chip_lock.proofs.Making.{bus_ends, bus_leaves, bus_taken, gives_none}
use Rattle.chip_lock.proofs.turn.Turn.bus.Goals as goal

pub leave-requires-clause-may : goal.leave-requires-clause-may
leave-requires-clause-may g c =
    bus_leaves c.pass.inside.seat.me c.enter-kept.new.seat.me c.enter-kept.result c.bus-answer.new.self c.enter-kept.ensures.inside c.args.e c.bus-answer.result
    (c.pass.invariant.runs c.in_default.is) c.bus-answer.ensures.turn c.bus-answer.ensures.takes

pub returns-in-Ok-clause-taken : goal.returns-in-Ok-clause-taken
returns-in-Ok-clause-taken g c =
    bus_taken c.pass.inside.seat.table_id c.leave.new.seat.table_id c.pass.inside.seat.me c.enter-kept.new.seat.me c.leave.new.seat.me c.enter-kept.result c.bus-answer.new.self c.args.pass.now c.pass.view_is
    c.enter-kept.ensures.inside c.leave.ensures.left c.args.e c.in-Ok.a
    (ap (λ (p : PassView). p.ended) (sym c.pass.view_is) ∙ c.pass.invariant.same_end ∙ c.in_default.is) c.in-Ok.ensures.turn c.in-Ok.ensures.takes

pub returns-in-Ok-clause-gave : goal.returns-in-Ok-clause-gave
returns-in-Ok-clause-gave g c =
    gives_none c.pass.inside.seat.table_id c.leave.new.seat.table_id c.pass.inside.seat.me c.enter-kept.new.seat.me c.leave.new.seat.me c.enter-kept.result c.bus-answer.new.self c.args.pass.now c.pass.view_is
    c.enter-kept.ensures.inside c.leave.ensures.left c.bus-answer.ensures.gives

pub returns-in-Err-clause-refused : goal.returns-in-Err-clause-refused
returns-in-Err-clause-refused g c =
    inr (bus_ends c.pass.inside.seat.table_id c.leave.new.seat.table_id c.pass.inside.seat.me c.enter-kept.new.seat.me c.leave.new.seat.me c.enter-kept.result c.bus-answer.new.self c.args.pass.now c.pass.view_is
    c.enter-kept.ensures.inside c.leave.ensures.left c.args.e c.in-Err.why
    (ap (λ (p : PassView). p.ended) (sym c.pass.view_is) ∙ c.pass.invariant.same_end ∙ c.in_default.is) c.in-Err.ensures.turn c.in-Err.ensures.takes c.in-Err.ensures.finds)

pub returns-in-Err-clause-gave : goal.returns-in-Err-clause-gave
returns-in-Err-clause-gave g c =
    gives_none c.pass.inside.seat.table_id c.leave.new.seat.table_id c.pass.inside.seat.me c.enter-kept.new.seat.me c.leave.new.seat.me c.enter-kept.result c.bus-answer.new.self c.args.pass.now c.pass.view_is
    c.enter-kept.ensures.inside c.leave.ensures.left c.bus-answer.ensures.gives
