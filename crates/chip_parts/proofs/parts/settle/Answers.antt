use Rattle.std.proofs.Common.{sym, subst}
use Rattle.sock_cmd.specs.declared.command.Effect.{Effect}
use Rattle.ring_mem.specs.Buffers.{TxHolds, RxHolds}
use Rattle.chip_parts.specs.Settling.{settled, got_settled}
use Rattle.chip_parts.proofs.parts.settle.Goals as goal

pub returns-in-Opened-clause-tx : goal.returns-in-Opened-clause-tx
returns-in-Opened-clause-tx c = λ s h. subst (λ (e : Effect). TxHolds c.begin.new.self c.args.sn (settled e s)) (sym c.in-Opened.is) (c.begin.ensures.tx s h)

pub returns-in-Opened-clause-rx : goal.returns-in-Opened-clause-rx
returns-in-Opened-clause-rx c = λ g h. subst (λ (e : Effect). RxHolds c.begin.new.self c.args.sn (got_settled e g)) (sym c.in-Opened.is) (c.begin.ensures.rx g h)

pub returns-in-Closed-clause-tx : goal.returns-in-Closed-clause-tx
returns-in-Closed-clause-tx c = λ s h. subst (λ (e : Effect). TxHolds c.empty.new.self c.args.sn (settled e s)) (sym c.in-Closed.is) (c.empty.ensures.tx s h)

pub returns-in-Closed-clause-rx : goal.returns-in-Closed-clause-rx
returns-in-Closed-clause-rx c = λ g h. subst (λ (e : Effect). RxHolds c.empty.new.self c.args.sn (got_settled e g)) (sym c.in-Closed.is) (c.empty.ensures.rx g h)
