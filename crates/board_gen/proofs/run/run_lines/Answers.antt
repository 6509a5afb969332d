use Rattle.std.proofs.Common.{arith, length, map, refl, ap, ◌∙◌}
use Rattle.board_gen.specs.Run.{lines_in, steps_in}
use Rattle.board_gen.proofs.ToldLines.{far_on, lines_more, lines_halt}
use Rattle.board_gen.proofs.Weights.{text_less}
use Rattle.board_gen.proofs.run.run_lines.Goals as goal

pub returns-in_default-run_and_print-clause-keeps : goal.returns-in_default-run_and_print-clause-keeps
returns-in_default-run_and_print-clause-keeps g c =
    let far = far_on _ c.loop-line.session.starts c.loop-line.session.past c.loop-line.number (lines_in c.loop-line.rest.now) (steps_in c.in-Some.line.now) (lines_in c.in-Some.after.now) _ _ _
    (ap (map steps_in) c.in-Some.ensures.lines) c.loop-line.invariant.so_far in
    lines_halt _ c.loop-line.session.starts c.loop-line.session.past _ c.loop-line.number (steps_in c.in-Some.line.now) (lines_in c.in-Some.after.now) c.run_and_print.result c.loop-line.lines _ _ _ _
    c.in_default-run_and_print.not-Done c.run_and_print.ensures.keeps far

pub loop-line-preserved : goal.loop-line-preserved
loop-line-preserved g c =
    let far = far_on _ c.loop-line.session.starts c.loop-line.session.past c.loop-line.number (lines_in c.loop-line.rest.now) (steps_in c.in-Some.line.now) (lines_in c.in-Some.after.now) _ _ _
    (ap (map steps_in) c.in-Some.ensures.lines) c.loop-line.invariant.so_far in
    let spent = c.in-Done.ensures.spent refl in
    let shorter = c.in-Some.ensures.shorter in
    let between = c.in-Some.ensures.between in
    let light = c.loop-line.invariant.light in
    record {
      read = (rw c.in-Some.ensures.lines at c.loop-line.invariant.read).1;
      running = c.in-Done.ensures.running refl;
      starts = c.in-Done.ensures.starts ∙ c.loop-line.invariant.starts;
      so_far = rw c.in-Done.ensures.starts (lines_more _ c.loop-line.session.starts c.loop-line.session.past _ c.loop-line.number (steps_in c.in-Some.line.now) (lines_in c.in-Some.after.now) c.loop-line.lines _ _ _ _
          c.in-Done.ensures.keeps far);
      faults = c.in-Done.ensures.faults.still (λ e. cc) ∙ c.loop-line.invariant.faults;
      few = omega (arith, c.loop-line.invariant.few, shorter);
      light = λ more. let fits = between more in spent (length c.in-Some.after.now) (text_less c.loop-line.session.past (length c.loop-line.rest.now) _ (light (omega (arith, shorter))) (omega (arith, fits)));
    }
