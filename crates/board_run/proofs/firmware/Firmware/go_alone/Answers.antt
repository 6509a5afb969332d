use Rattle.std.proofs.Common.{None, Some, sym, ◌∙◌, subst}
use Rattle.board_sim.specs.Playing.{printing}
use Rattle.board_run.specs.Wires.{told_of, WireView}
use Rattle.board_run.specs.Going.{Walked}
use Rattle.board_run.proofs.Staying.{keeps_is, keeps_then, quiet_then}
use Rattle.board_run.proofs.Walking.{then_goes}
use Rattle.board_run.proofs.firmware.Firmware.go_alone.Goals as goal

pub returns-in-Some-clause-goes : goal.returns-in-Some-clause-goes
returns-in-Some-clause-goes g c =
    let advance = c.advance.new.self in
    then_goes (Some c.in-Some.cut) c.args.self.now.cycles c.steps.self.cycles c.args.self.now.mcu c.steps.self.mcu advance.mcu (told_of c.args.self.now.wire) (told_of c.steps.self.wire) (told_of advance.wire)
    (printing (g.K.Sink.written c.args.out.now) c.args.self.now.last) (printing (g.K.Sink.written c.steps.out) c.steps.self.last) (printing (g.K.Sink.written c.advance.new.out) advance.last)
    c.steps.invariant.cycles c.steps.invariant.way c.in-Some.ensures.goes

pub steps-preserved : goal.steps-preserved
steps-preserved g c =
    let first = c.args.self.now.wire in
    let old = printing (g.K.Sink.written c.args.out.now) c.args.self.now.last in
    let advance = c.advance.new.self in
    let new = printing (g.K.Sink.written c.advance.new.out) advance.last in
    let way : Walked c.args.self.now.cycles c.args.self.now.mcu (told_of first) advance.mcu (told_of advance.wire) old new =
    then_goes None c.args.self.now.cycles c.steps.self.cycles c.args.self.now.mcu c.steps.self.mcu advance.mcu (told_of first) (told_of c.steps.self.wire) (told_of advance.wire)
    old (printing (g.K.Sink.written c.steps.out) c.steps.self.last) new
    c.steps.invariant.cycles c.steps.invariant.way c.in-None.ensures.goes in
    record {
      way = subst (λ (w : WireView). Walked c.args.self.now.cycles c.args.self.now.mcu (told_of first) advance.mcu (told_of w) old new) (sym c.sweep.ensures.same) way;
      ready = c.advance.ensures.ready c.in-None.is;
      cycles = c.advance.ensures.cycles ∙ c.steps.invariant.cycles;
      keeps = keeps_is first advance.wire c.sweep.new.self (keeps_then first c.steps.self.wire advance.wire c.steps.invariant.keeps c.advance.ensures.keeps) c.sweep.ensures.same;
      quiet = quiet_then c.args.links.now c.steps.links c.sweep.new.links c.steps.invariant.quiet c.sweep.ensures.quiet;
      faults = c.in-None.ensures.faults.still (λ e. absurd (cc)) ∙ c.steps.invariant.faults;
    }
