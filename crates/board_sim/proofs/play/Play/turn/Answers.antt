use Rattle.std.proofs.Common.{◌≤◌, arith, subst, sym, ◌∙◌}
use Rattle.board_sim.specs.Playing.{printing, Settles}
use Rattle.board_sim.specs.Seats.{seen}
use Rattle.avr_mcu.specs.Step.{gone, stepped}
use Rattle.board_sim.proofs.Starts.{plays_keeps}
use Rattle.board_sim.proofs.Going.{turn_goes, turn_counts, one_at_most}
use Rattle.board_sim.proofs.play.Play.turn.Goals as goal

pub returns-clause-goes : goal.returns-clause-goes
returns-clause-goes g c =
    let turn = c.take_turn-turn in
    let old = printing (g.K.Sink.written c.args.out.now) c.args.self.now.last in
    let new = printing (g.K.Sink.written c.settle.new.out) c.settle.new.self.last in
    turn_goes _ c.settle.result c.args.self.now.cycles c.args.self.now.mcu turn.new.mcu c.settle.new.self.mcu c.args.self.now.board turn.new.peer (seen c.settle.new.self.board)
    turn.result.went turn.result.byte turn.result.end old new (λ p c a q it. it.1) turn.ensures.step c.settle.ensures.mcu c.settle.ensures.well
    (subst (λ n. Settles (seen turn.new.peer) n turn.result.byte turn.result.end c.settle.result (seen c.settle.new.self.board) old new) c.instructions.ensures c.settle.ensures.settles)

pub settle-requires-clause-steps : goal.settle-requires-clause-steps
settle-requires-clause-steps g c = λ well.
    let turn = c.take_turn-turn in
    let same = turn_counts _ c.args.self.now.cycles c.args.self.now.mcu turn.new.mcu c.args.self.now.board turn.new.peer turn.result.went turn.result.byte turn.result.end
    (λ p c a q it. it.1) turn.ensures.step well in
    let few : c.instructions.result ≤ 1 = subst (λ n. n ≤ 1) (sym c.instructions.ensures) (one_at_most turn.result.went) in
    omega (arith, same, few, c.requires.ready.steps)

pub returns-clause-starts : goal.returns-clause-starts
returns-clause-starts g c =
    let turn = c.take_turn-turn in
    let step = turn.ensures.step in
    c.settle.ensures.starts
    ∙ plays_keeps _ (λ b. b.now.starts) (λ p c a q it. it.2) (stepped c.args.self.now.mcu) c.args.self.now.board (gone turn.result.went step.left) turn.new.peer step.plays
