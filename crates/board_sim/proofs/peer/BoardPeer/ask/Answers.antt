use Rattle.std.proofs.Common.{sym, ap, ◌∙◌}
use Rattle.board_sim.specs.Seats.{Seat}
use Rattle.board_sim.proofs.Asked.{kept_is, answered_is, refused_is}
use Rattle.board_sim.proofs.peer.BoardPeer.ask.Goals as goal

pub returns-then-is_some-clause-functional : goal.returns-then-is_some-clause-functional
returns-then-is_some-clause-functional c =
    let it = c.self.inside in
    kept_is it.shared it.refused it.bytes it.steps c.args.event c.args.self.now c.self.view_is (sym c.is_some.ensures ∙ c.if-is_some.true)

pub returns-in-Ok-clause-functional : goal.returns-in-Ok-clause-functional
returns-in-Ok-clause-functional c =
    let it = c.self.inside in
    answered_is it.shared c.bus_step.new.self it.refused it.bytes c.counted.result it.steps c.args.event c.in-Ok.answer c.args.self.now c.self.view_is (sym c.is_some.ensures ∙ c.if-is_some.false)
    c.in-Ok.ensures.asks c.counted.ensures.value

pub returns-in-Err-clause-functional : goal.returns-in-Err-clause-functional
returns-in-Err-clause-functional c =
    let it = c.self.inside in
    refused_is it.shared c.bus_step.new.self it.refused it.bytes it.steps c.args.event c.in-Err.end c.args.self.now c.self.view_is (sym c.is_some.ensures ∙ c.if-is_some.false)
    c.self.invariant.cause c.in-Err.ensures.asks

pub returns-in-Ok-clause-starts : goal.returns-in-Ok-clause-starts
returns-in-Ok-clause-starts c = c.in-Ok.ensures.asks.starts ∙ ap (λ (s : Seat). s.now.starts) c.self.view_is

pub returns-in-Err-clause-starts : goal.returns-in-Err-clause-starts
returns-in-Err-clause-starts c = c.in-Err.ensures.asks.0.starts ∙ ap (λ (s : Seat). s.now.starts) c.self.view_is
