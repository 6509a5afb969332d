use Rattle.std.proofs.Common.{arith}
use Rattle.board_gen.proofs.EachLine.{all_read, fault_behind}
use Rattle.board_gen.proofs.formats.check_lines.Goals as goal

pub loop-line-preserved : goal.loop-line-preserved
loop-line-preserved g c =
    let there = rw c.if-not-branch.false at c.in_ok-is_read.ensures in
    let lines = g.F.LineFormat.lines c.loop-line.rest.now in
    record {
      good = λ good. c.loop-line.invariant.good (all_read g.F.LineFormat.read lines c.in-Some.line.now _ c.in-Some.ensures.lines there good);
      bad = λ fault bad. c.loop-line.invariant.bad fault (fault_behind g.F.LineFormat.read c.loop-line.line_number lines c.in-Some.line.now _ fault c.in-Some.ensures.lines there bad);
      few = omega (arith, c.loop-line.invariant.few, c.in-Some.ensures.shorter);
    }
