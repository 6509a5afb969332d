use Rattle.avr_mcu.specs.Step.{gone, stepped}
use Rattle.board_sim.specs.Playing.{printing}
use Rattle.board_run.specs.Wires.{told_of}
use Rattle.board_run.proofs.Printing.{turn_prints}
use Rattle.board_run.proofs.Staying.{keeps_is, plays_keep}
use Rattle.board_run.proofs.Walking.{settled_goes}
use Rattle.board_run.proofs.firmware.Firmware.turn.Goals as goal

pub returns-clause-goes : goal.returns-clause-goes
returns-clause-goes g c =
    let turn = c.take_turn-turn in
    let old = printing (g.K.Sink.written c.args.out.now) c.args.self.now.last in
    let new = printing (g.K.Sink.written c.settle.new.out) c.settle.new.self.last in
    settled_goes c.settle.result turn.result.byte turn.result.end c.args.self.now.cycles c.args.self.now.mcu turn.new.mcu c.settle.new.self.mcu (told_of c.args.self.now.wire) turn.new.peer c.settle.new.self.wire old new
    turn.ensures.goes turn.ensures.ends
    (turn_prints _ (λ p c a q it. it.0) c.args.self.now.cycles c.args.self.now.mcu turn.new.mcu c.args.self.now.wire turn.new.peer (told_of turn.new.peer).wanted turn.result.went turn.result.byte turn.result.end turn.ensures.step)
    c.settle.ensures.mcu c.settle.ensures.wire c.settle.ensures.settles

pub returns-clause-keeps : goal.returns-clause-keeps
returns-clause-keeps g c =
    let turn = c.take_turn-turn in
    let step = turn.ensures.step in
    keeps_is c.args.self.now.wire turn.new.peer c.settle.new.self.wire
    (plays_keep _ (λ p c a q it. it.1) (stepped c.args.self.now.mcu) c.args.self.now.wire (gone turn.result.went step.left) turn.new.peer step.plays)
    c.settle.ensures.wire
