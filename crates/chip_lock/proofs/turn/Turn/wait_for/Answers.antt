use Rattle.std.proofs.Common.{sym, ap, ◌∙◌, arith, subst}
use Rattle.chip_lock.specs.Plays.{Enters}
use Rattle.chip_lock.proofs.Looking.{looks}
use Rattle.chip_lock.proofs.turn.Turn.wait_for.Goals as goal

pub load-served-requires : goal.load-served-requires
load-served-requires g c =
    let i = c.loop.invariant in
    let w = c.requires.waits in
    (i.2 ∙ c.requires.table ∙ sym c.self.view_is, omega (arith, c.self.invariant.0), looks _ _ _ c.args.ticket (ap (λ m. m.0.stage) i.4 ∙ w.waits) (ap (λ m. m.0.parts) i.4 ∙ w.one))

pub returns-then-served-ticket-clause-entered : goal.returns-then-served-ticket-clause-entered
returns-then-served-ticket-clause-entered g c =
    let i = c.loop.invariant in
    let w = c.requires.waits in
    let told = c.load-served.ensures.2 c.args.ticket (ap (λ m. m.0.stage) i.4 ∙ w.waits) in
    subst (λ m. Enters c.args.ticket m c.load-served.new.seat.me) i.4 (told.0 c.if-served-ticket.true)

pub loop-preserved : goal.loop-preserved
loop-preserved g c =
    let i = c.loop.invariant in
    let w = c.requires.waits in
    let load = c.load-served.ensures in
    let told = load.2 c.args.ticket (ap (λ m. m.0.stage) i.4 ∙ w.waits) in
    (tt, tt, load.0 ∙ i.2, load.1 ∙ i.3, told.1 c.if-served-ticket.false ∙ i.4)
