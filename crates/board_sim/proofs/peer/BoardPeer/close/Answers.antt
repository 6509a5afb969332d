use Rattle.std.proofs.Common.{false, ap, ◌∙◌}
use Rattle.board_sim.specs.Seats.{Seat}
use Rattle.board_sim.proofs.LinkSteps.{ByScript}
use Rattle.board_sim.proofs.Rested.{closes_so, close_sits}
use Rattle.board_sim.proofs.Starts.{closes_starts}
use Rattle.board_sim.proofs.peer.BoardPeer.close.Goals as goal

pub invariant_of-self : goal.invariant_of-self
invariant_of-self c =
    let it = c.self.inside in
    close_sits it.shared it.refused it.bytes it.steps c.args.self.now c.closing.result c.closing.new.self c.self.view_is c.requires c.self.invariant c.closing.ensures.unstopped c.closing.ensures.steps

pub returns-clause-closes : goal.returns-clause-closes
returns-clause-closes c =
    let it = c.self.inside in
    closes_so it.shared it.refused it.bytes it.steps c.args.self.now c.closing.result c.closing.new.self c.self.view_is c.requires c.self.invariant.cause c.closing.ensures.steps

pub returns-clause-starts : goal.returns-clause-starts
returns-clause-starts c =
    closes_starts ByScript 8 0 false c.self.inside.shared c.closing.result c.closing.new.self c.closing.ensures.steps ∙ ap (λ (s : Seat). s.now.starts) c.self.view_is
