use Rattle.board_sim.specs.Playing.{printing}
use Rattle.board_run.specs.Wires.{told_of}
use Rattle.board_run.proofs.Printing.{stretch_prints}
use Rattle.board_run.proofs.Walking.{settled_goes}
use Rattle.board_run.proofs.firmware.Firmware.hurry.Goals as goal

pub returns-clause-goes : goal.returns-clause-goes
returns-clause-goes g c =
    let made = c.take_stretch-stretch in
    let old = printing (g.K.Sink.written c.args.out.now) c.args.self.now.last in
    let new = printing (g.K.Sink.written c.settle.new.out) c.settle.new.self.last in
    let wire = c.args.self.now.wire in
    settled_goes c.settle.result made.result.byte made.result.end c.args.self.now.cycles c.args.self.now.mcu made.new.mcu c.settle.new.self.mcu (told_of wire) wire c.settle.new.self.wire old new
    (λ on start serial so. made.ensures.goes on start serial (told_of wire) so) (λ e is start serial so. made.ensures.ends e is start serial (told_of wire) so)
    (stretch_prints c.args.self.now.cycles c.args.self.now.mcu made.new.mcu made.result.steps made.result.byte made.result.end (told_of wire) c.requires.ready.below made.ensures.stretch)
    c.settle.ensures.mcu c.settle.ensures.wire c.settle.ensures.settles
