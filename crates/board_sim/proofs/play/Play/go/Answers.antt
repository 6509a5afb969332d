use Rattle.std.proofs.Common.{Some, None, subst, ◌∙◌}
use Rattle.board_sim.specs.Playing.{printing, Goes, Walked}
use Rattle.board_sim.specs.Seats.{seen}
use Rattle.board_sim.proofs.Going.{walked_goes}
use Rattle.board_sim.proofs.play.Play.go.Goals as goal

pub steps-preserved : goal.steps-preserved
steps-preserved g c =
    let cycles = c.args.self.now.cycles in
    let start = c.args.self.now.mcu in
    let first = seen c.args.self.now.board in
    let old = printing (g.K.Sink.written c.args.out.now) c.args.self.now.last in
    let before = printing (g.K.Sink.written c.steps.out) c.steps.self.last in
    let turn = c.turn.new.self in
    let mid = printing (g.K.Sink.written c.turn.new.out) turn.last in
    let hurry = c.hurry.new.self in
    let new = printing (g.K.Sink.written c.hurry.new.out) hurry.last in
    let same = c.turn.ensures.cycles ∙ c.steps.invariant.cycles in
    let one : Walked cycles start first turn.mcu (seen turn.board) old mid =
    walked_goes None cycles start c.steps.self.mcu turn.mcu first (seen c.steps.self.board) (seen turn.board) old before mid c.steps.invariant.way
    (subst (λ n. Walked n c.steps.self.mcu (seen c.steps.self.board) turn.mcu (seen turn.board) before mid) c.steps.invariant.cycles c.in-None.ensures.goes) in
    record {
      way = walked_goes None cycles start turn.mcu hurry.mcu first (seen turn.board) (seen hurry.board) old mid new one
          (subst (λ n. Walked n turn.mcu (seen turn.board) hurry.mcu (seen hurry.board) mid new) same c.in-None-hurry.ensures.goes);
      ready = c.hurry.ensures.ready c.in-None-hurry.is;
      cycles = c.hurry.ensures.cycles ∙ same;
      starts = c.hurry.ensures.starts ∙ (c.turn.ensures.starts ∙ c.steps.invariant.starts);
      faults = c.in-None-hurry.ensures.faults.still (λ e. absurd (cc)) ∙ (c.in-None.ensures.faults.still (λ e. absurd (cc)) ∙ c.steps.invariant.faults);
    }

pub returns-in-Some-clause-goes : goal.returns-in-Some-clause-goes
returns-in-Some-clause-goes g c =
    let before = printing (g.K.Sink.written c.steps.out) c.steps.self.last in
    let turn = c.turn.new.self in
    let mid = printing (g.K.Sink.written c.turn.new.out) turn.last in
    walked_goes (Some c.in-Some.cut) c.args.self.now.cycles c.args.self.now.mcu c.steps.self.mcu turn.mcu (seen c.args.self.now.board) (seen c.steps.self.board) (seen turn.board)
    (printing (g.K.Sink.written c.args.out.now) c.args.self.now.last) before mid c.steps.invariant.way
    (subst (λ n. Goes (Some c.in-Some.cut) n c.steps.self.mcu (seen c.steps.self.board) turn.mcu (seen turn.board) before mid) c.steps.invariant.cycles c.in-Some.ensures.goes)

pub returns-in-Some-hurry-clause-goes : goal.returns-in-Some-hurry-clause-goes
returns-in-Some-hurry-clause-goes g c =
    let cycles = c.args.self.now.cycles in
    let start = c.args.self.now.mcu in
    let first = seen c.args.self.now.board in
    let old = printing (g.K.Sink.written c.args.out.now) c.args.self.now.last in
    let before = printing (g.K.Sink.written c.steps.out) c.steps.self.last in
    let turn = c.turn.new.self in
    let mid = printing (g.K.Sink.written c.turn.new.out) turn.last in
    let hurry = c.hurry.new.self in
    let new = printing (g.K.Sink.written c.hurry.new.out) hurry.last in
    let cut = c.in-Some-hurry.cut in
    let same = c.turn.ensures.cycles ∙ c.steps.invariant.cycles in
    let one : Walked cycles start first turn.mcu (seen turn.board) old mid =
    walked_goes None cycles start c.steps.self.mcu turn.mcu first (seen c.steps.self.board) (seen turn.board) old before mid c.steps.invariant.way
    (subst (λ n. Walked n c.steps.self.mcu (seen c.steps.self.board) turn.mcu (seen turn.board) before mid) c.steps.invariant.cycles c.in-None.ensures.goes) in
    walked_goes (Some cut) cycles start turn.mcu hurry.mcu first (seen turn.board) (seen hurry.board) old mid new one
    (subst (λ n. Goes (Some cut) n turn.mcu (seen turn.board) hurry.mcu (seen hurry.board) mid new) same c.in-Some-hurry.ensures.goes)
