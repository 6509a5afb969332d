use Rattle.std.proofs.Common.{Bool, sym, subst}
use Rattle.ring_mem.specs.Buffers.{TxHolds, RxHolds}
use Rattle.chip_links.specs.Noting.{sent_kept, got_kept}
use Rattle.chip_links.proofs.events.keep.Goals as goal

pub returns-then-not-live-clause-tx : goal.returns-then-not-live-clause-tx
returns-then-not-live-clause-tx c = λ s h. subst (λ (b : Bool). TxHolds c.empty.new.self c.args.sn (sent_kept b s)) (sym c.if-not-live.true) (c.empty.ensures.tx s h)

pub returns-then-not-live-clause-rx : goal.returns-then-not-live-clause-rx
returns-then-not-live-clause-rx c = λ g h. subst (λ (b : Bool). RxHolds c.empty.new.self c.args.sn (got_kept b g)) (sym c.if-not-live.true) (c.empty.ensures.rx g h)
