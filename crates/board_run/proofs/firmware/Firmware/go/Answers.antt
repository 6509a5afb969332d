use Rattle.std.proofs.Common.{None, Some, ◌∙◌}
use Rattle.board_sim.specs.Playing.{printing}
use Rattle.board_run.specs.Wires.{told_of}
use Rattle.board_run.proofs.Staying.{keeps_then}
use Rattle.board_run.proofs.Walking.{then_goes}
use Rattle.board_run.proofs.firmware.Firmware.go.Goals as goal

pub returns-in-Some-clause-goes : goal.returns-in-Some-clause-goes
returns-in-Some-clause-goes g c =
    let advance = c.advance.new.self in
    then_goes (Some c.in-Some.cut) c.args.self.now.cycles c.steps.self.cycles c.args.self.now.mcu c.steps.self.mcu advance.mcu (told_of c.args.self.now.wire) (told_of c.steps.self.wire) (told_of advance.wire)
    (printing (g.K.Sink.written c.args.out.now) c.args.self.now.last) (printing (g.K.Sink.written c.steps.out) c.steps.self.last) (printing (g.K.Sink.written c.advance.new.out) advance.last)
    c.steps.invariant.cycles c.steps.invariant.way c.in-Some.ensures.goes

pub steps-preserved : goal.steps-preserved
steps-preserved g c =
    let advance = c.advance.new.self in
    record {
      way = then_goes None c.args.self.now.cycles c.steps.self.cycles c.args.self.now.mcu c.steps.self.mcu advance.mcu (told_of c.args.self.now.wire) (told_of c.steps.self.wire) (told_of advance.wire)
          (printing (g.K.Sink.written c.args.out.now) c.args.self.now.last) (printing (g.K.Sink.written c.steps.out) c.steps.self.last) (printing (g.K.Sink.written c.advance.new.out) advance.last)
          c.steps.invariant.cycles c.steps.invariant.way c.in-None.ensures.goes;
      ready = c.advance.ensures.ready c.in-None.is;
      cycles = c.advance.ensures.cycles ∙ c.steps.invariant.cycles;
      keeps = keeps_then c.args.self.now.wire c.steps.self.wire advance.wire c.steps.invariant.keeps c.advance.ensures.keeps;
      faults = c.in-None.ensures.faults.still (λ e. absurd (cc)) ∙ c.steps.invariant.faults;
    }
