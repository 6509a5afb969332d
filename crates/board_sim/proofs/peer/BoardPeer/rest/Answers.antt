use Rattle.std.proofs.Common.{Some, ap, ◌∙◌}
use Rattle.board_sim.specs.Seats.{Seat, wanted_of}
use Rattle.board_sim.specs.Views.{board_of}
use Rattle.board_sim.proofs.LinkSteps.{ByScript}
use Rattle.board_sim.proofs.Rested.{due_by_bytes, due_by_steps, rests_not, rests_so, rest_sits}
use Rattle.board_sim.proofs.Starts.{sweeps_starts}
use Rattle.board_sim.proofs.peer.BoardPeer.rest.Goals as goal
use Rattle.board_sim.proofs.peer.BoardPeer.rest.Goals.{else-self-lt-SWEEP_BYTES-via-then-self-lt-SWEEP_BYTES+else-self-lt-SWEEP_STEPS, else-self-lt-SWEEP_BYTES-via-else-self-lt-SWEEP_BYTES}

pub returns-then-self-lt-SWEEP_STEPS-clause-rests : goal.returns-then-self-lt-SWEEP_STEPS-clause-rests
returns-then-self-lt-SWEEP_STEPS-clause-rests c =
    let it = c.self.inside in
    rests_not it.shared it.refused it.bytes it.steps c.args.self.now c.self.view_is c.if-self-lt-SWEEP_BYTES.true c.if-self-lt-SWEEP_STEPS.true

pub invariant_of-self : goal.invariant_of-self
invariant_of-self c =
    let it = c.self.inside in
    rest_sits it.shared it.refused it.bytes it.steps c.args.self.now c.sweep.result c.sweep.new.self c.self.view_is c.requires c.self.invariant.cause c.sweep.ensures.steps

pub returns-clause-rests : goal.returns-clause-rests
returns-clause-rests c =
    let it = c.self.inside in
    let b = board_of it.shared (wanted_of it.refused) it.bytes it.steps in
    rests_so it.shared it.refused it.bytes it.steps c.args.self.now c.sweep.result c.sweep.new.self c.self.view_is c.requires c.self.invariant.cause
    (elim c.else-self-lt-SWEEP_BYTES.branch [
      | else-self-lt-SWEEP_BYTES-via-then-self-lt-SWEEP_BYTES+else-self-lt-SWEEP_STEPS w ↦ due_by_steps b w.if-self-lt-SWEEP_BYTES.true w.if-self-lt-SWEEP_STEPS.false
      | else-self-lt-SWEEP_BYTES-via-else-self-lt-SWEEP_BYTES w ↦ due_by_bytes b w.if-self-lt-SWEEP_BYTES.false
    ])
    c.sweep.ensures.steps

pub returns-clause-starts : goal.returns-clause-starts
returns-clause-starts c =
    sweeps_starts ByScript 16 c.self.inside.shared (Some 0) c.sweep.result c.sweep.new.self c.sweep.ensures.steps ∙ ap (λ (s : Seat). s.now.starts) c.self.view_is
