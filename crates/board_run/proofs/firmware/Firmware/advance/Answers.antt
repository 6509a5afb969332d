use Rattle.std.proofs.Common.{Option, None, Some, sym, ◌∙◌, subst, arith}
use Rattle.board_sim.specs.Playing.{printing}
use Rattle.board_run.specs.Wires.{told_of}
use Rattle.board_run.specs.Going.{Goes, Walked}
use Rattle.board_run.specs.declared.firmware.Cut.{Cut}
use Rattle.board_run.proofs.Staying.{keeps_is, keeps_then}
use Rattle.board_run.proofs.Walking.{then_goes}
use Rattle.board_run.proofs.firmware.Firmware.advance.Goals as goal

pub returns-in-Some-clause-goes : goal.returns-in-Some-clause-goes
returns-in-Some-clause-goes g c =
    let before = printing (g.K.Sink.written c.steps.out) c.steps.self.last in
    let turn = c.turn.new.self in
    let mid = printing (g.K.Sink.written c.turn.new.out) turn.last in
    then_goes (Some c.in-Some.cut) c.args.self.now.cycles c.steps.self.cycles c.args.self.now.mcu c.steps.self.mcu turn.mcu (told_of c.args.self.now.wire) (told_of c.steps.self.wire) (told_of turn.wire)
    (printing (g.K.Sink.written c.args.out.now) c.args.self.now.last) before mid c.steps.invariant.cycles c.steps.invariant.way c.in-Some.ensures.goes

pub returns-in-Some-cut-clause-goes : goal.returns-in-Some-cut-clause-goes
returns-in-Some-cut-clause-goes g c =
    let cycles = c.args.self.now.cycles in
    let start = c.args.self.now.mcu in
    let first = told_of c.args.self.now.wire in
    let old = printing (g.K.Sink.written c.args.out.now) c.args.self.now.last in
    let before = printing (g.K.Sink.written c.steps.out) c.steps.self.last in
    let turn = c.turn.new.self in
    let mid = printing (g.K.Sink.written c.turn.new.out) turn.last in
    let hurry = c.hurry-steps.new.self in
    let new = printing (g.K.Sink.written c.hurry-steps.new.out) hurry.last in
    let one : Walked cycles start first turn.mcu (told_of turn.wire) old mid =
    then_goes None cycles c.steps.self.cycles start c.steps.self.mcu turn.mcu first (told_of c.steps.self.wire) (told_of turn.wire) old before mid c.steps.invariant.cycles c.steps.invariant.way c.in-None.ensures.goes in
    then_goes (Some c.in-Some-cut.cut) cycles turn.cycles start turn.mcu hurry.mcu first (told_of turn.wire) (told_of hurry.wire) old mid new (c.turn.ensures.cycles ∙ c.steps.invariant.cycles) one
    (subst (λ (cut : Option Cut). Goes cut turn.cycles turn.mcu (told_of turn.wire) hurry.mcu (told_of hurry.wire) mid new) c.in-Some-cut.is c.hurry-steps.ensures.goes)

pub returns-in-None-cut-clause-goes : goal.returns-in-None-cut-clause-goes
returns-in-None-cut-clause-goes g c =
    let cycles = c.args.self.now.cycles in
    let start = c.args.self.now.mcu in
    let first = told_of c.args.self.now.wire in
    let old = printing (g.K.Sink.written c.args.out.now) c.args.self.now.last in
    let before = printing (g.K.Sink.written c.steps.out) c.steps.self.last in
    let turn = c.turn.new.self in
    let mid = printing (g.K.Sink.written c.turn.new.out) turn.last in
    let hurry = c.hurry-steps.new.self in
    let new = printing (g.K.Sink.written c.hurry-steps.new.out) hurry.last in
    let one : Walked cycles start first turn.mcu (told_of turn.wire) old mid =
    then_goes None cycles c.steps.self.cycles start c.steps.self.mcu turn.mcu first (told_of c.steps.self.wire) (told_of turn.wire) old before mid c.steps.invariant.cycles c.steps.invariant.way c.in-None.ensures.goes in
    then_goes None cycles turn.cycles start turn.mcu hurry.mcu first (told_of turn.wire) (told_of hurry.wire) old mid new (c.turn.ensures.cycles ∙ c.steps.invariant.cycles) one
    (subst (λ (cut : Option Cut). Goes cut turn.cycles turn.mcu (told_of turn.wire) hurry.mcu (told_of hurry.wire) mid new) c.in-None-cut.is c.hurry-steps.ensures.goes)

pub steps-preserved : goal.steps-preserved
steps-preserved g c =
    let cycles = c.args.self.now.cycles in
    let start = c.args.self.now.mcu in
    let first = c.args.self.now.wire in
    let old = printing (g.K.Sink.written c.args.out.now) c.args.self.now.last in
    let before = printing (g.K.Sink.written c.steps.out) c.steps.self.last in
    let turn = c.turn.new.self in
    let mid = printing (g.K.Sink.written c.turn.new.out) turn.last in
    let hurry = c.hurry-steps.new.self in
    let new = printing (g.K.Sink.written c.hurry-steps.new.out) hurry.last in
    let same = c.turn.ensures.cycles ∙ c.steps.invariant.cycles in
    let one : Walked cycles start (told_of first) turn.mcu (told_of turn.wire) old mid =
    then_goes None cycles c.steps.self.cycles start c.steps.self.mcu turn.mcu (told_of first) (told_of c.steps.self.wire) (told_of turn.wire) old before mid c.steps.invariant.cycles c.steps.invariant.way c.in-None.ensures.goes in
    record {
      way = then_goes None cycles turn.cycles start turn.mcu hurry.mcu (told_of first) (told_of turn.wire) (told_of hurry.wire) old mid new same one
          (subst (λ (cut : Option Cut). Goes cut turn.cycles turn.mcu (told_of turn.wire) hurry.mcu (told_of hurry.wire) mid new) c.in-None-cut.is c.hurry-steps.ensures.goes);
      ready = c.hurry-steps.ensures.ready c.in-None-cut.is;
      cycles = c.hurry-steps.ensures.cycles ∙ same;
      keeps = keeps_is first turn.wire hurry.wire (keeps_then first c.steps.self.wire turn.wire c.steps.invariant.keeps c.turn.ensures.keeps) c.hurry-steps.ensures.wire;
      some = omega (arith, c.if-left-eq0.false);
      few = omega (arith, c.steps.invariant.few);
      later = omega (arith, c.steps.invariant.later, c.turn.ensures.rises c.in-None.is, c.hurry-steps.ensures.rises);
      faults = c.hurry-steps.ensures.faults.still (λ e. let no = sym c.in-None-cut.is ∙ e in absurd (cc)) ∙ (c.in-None.ensures.faults.still (λ e. absurd (cc)) ∙ c.steps.invariant.faults);
    }
