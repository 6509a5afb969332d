use Rattle.std.proofs.Common.{◌≤◌, ◌+◌, arith}
use Rattle.board_sim.specs.Playing.{printing}
use Rattle.board_sim.specs.Seats.{seen}
use Rattle.board_sim.proofs.Going.{stretch_goes}
use Rattle.board_sim.proofs.play.Play.hurry.Goals as goal

pub returns-clause-goes : goal.returns-clause-goes
returns-clause-goes g c =
    let made = c.take_stretch-stretch in
    let old = printing (g.K.Sink.written c.args.out.now) c.args.self.now.last in
    let new = printing (g.K.Sink.written c.settle.new.out) c.settle.new.self.last in
    let some : 1 ≤ made.result.steps = omega (arith, c.if-stretch-eq0.false) in
    let most : c.args.self.now.board.steps + made.result.steps ≤ 1024 = omega (arith, made.ensures.most, c.steps-most.ensures, c.requires.ready.steps) in
    stretch_goes c.settle.result c.args.self.now.cycles made.result.steps c.args.self.now.mcu made.new.mcu c.settle.new.self.mcu (seen c.args.self.now.board) (seen c.settle.new.self.board)
    made.result.byte made.result.end old new c.requires.ready some most made.ensures.stretch c.settle.ensures.mcu c.settle.ensures.settles
