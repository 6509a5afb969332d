use Rattle.std.proofs.Common.{sym, ap, ◌∙◌}
use Rattle.chip_lock.specs.Passes.{PassView}
use Rattle.chip_lock.proofs.Making.{finds_none, gives_none, link_leaves, link_taken}
use Rattle.chip_lock.proofs.turn.Turn.link.Goals as goal

pub leave-requires-clause-may : goal.leave-requires-clause-may
leave-requires-clause-may g c =
    link_leaves c.pass.inside.seat.me c.enter-kept.new.seat.me c.enter-kept.result c.link-did.new.self c.enter-kept.ensures.inside c.args.from c.link-did.result
    (c.pass.invariant.runs c.in_default.is) c.link-did.ensures.turn c.link-did.ensures.takes

pub returns-in-Ok-clause-taken : goal.returns-in-Ok-clause-taken
returns-in-Ok-clause-taken g c =
    link_taken c.pass.inside.seat.table_id c.leave.new.seat.table_id c.pass.inside.seat.me c.enter-kept.new.seat.me c.leave.new.seat.me c.enter-kept.result c.link-did.new.self c.args.pass.now c.pass.view_is
    c.enter-kept.ensures.inside c.leave.ensures.left c.args.from c.in-Ok.did
    (ap (λ (p : PassView). p.ended) (sym c.pass.view_is) ∙ c.pass.invariant.same_end ∙ c.in_default.is) c.in-Ok.ensures.turn

pub returns-in-Ok-clause-gave : goal.returns-in-Ok-clause-gave
returns-in-Ok-clause-gave g c =
    gives_none c.pass.inside.seat.table_id c.leave.new.seat.table_id c.pass.inside.seat.me c.enter-kept.new.seat.me c.leave.new.seat.me c.enter-kept.result c.link-did.new.self c.args.pass.now c.pass.view_is
    c.enter-kept.ensures.inside c.leave.ensures.left c.link-did.ensures.gives

pub returns-in-Err-clause-gave : goal.returns-in-Err-clause-gave
returns-in-Err-clause-gave g c =
    gives_none c.pass.inside.seat.table_id c.leave.new.seat.table_id c.pass.inside.seat.me c.enter-kept.new.seat.me c.leave.new.seat.me c.enter-kept.result c.link-did.new.self c.args.pass.now c.pass.view_is
    c.enter-kept.ensures.inside c.leave.ensures.left c.link-did.ensures.gives

pub returns-in-Ok-clause-found : goal.returns-in-Ok-clause-found
returns-in-Ok-clause-found g c =
    finds_none c.pass.inside.seat.table_id c.leave.new.seat.table_id c.pass.inside.seat.me c.enter-kept.new.seat.me c.leave.new.seat.me c.enter-kept.result c.link-did.new.self c.args.pass.now c.pass.view_is
    c.enter-kept.ensures.inside c.leave.ensures.left c.link-did.ensures.finds

pub returns-in-Err-clause-found : goal.returns-in-Err-clause-found
returns-in-Err-clause-found g c =
    finds_none c.pass.inside.seat.table_id c.leave.new.seat.table_id c.pass.inside.seat.me c.enter-kept.new.seat.me c.leave.new.seat.me c.enter-kept.result c.link-did.new.self c.args.pass.now c.pass.view_is
    c.enter-kept.ensures.inside c.leave.ensures.left c.link-did.ensures.finds
