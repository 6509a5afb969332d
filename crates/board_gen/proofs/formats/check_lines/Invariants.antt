use Rattle.std.proofs.Common.{◌≡◌, ◌≤◌, ◌+◌, Err, length}
use Rattle.board_gen.specs.declared.fault.ScriptFault.{ScriptFault}
use Rattle.board_gen.specs.EachLine.{read_from, EachRead}
use Rattle.board_gen.proofs.formats.check_lines.Given as goal

abbrev pub invariant-loop-line : goal.invariant-loop-line
invariant-loop-line g l = record {
  good : EachRead g.F.LineFormat.read (g.F.LineFormat.lines l.rest) → EachRead g.F.LineFormat.read (g.F.LineFormat.lines l.fn.text);
  bad : (fault : ScriptFault) → read_from g.F.LineFormat.read l.line_number (g.F.LineFormat.lines l.rest) ≡ Err fault
      → read_from g.F.LineFormat.read l.number (g.F.LineFormat.lines l.fn.text) ≡ Err fault;
  few : l.line_number + length l.rest ≤ l.number + length l.fn.text;
}

abbrev pub decreases-loop-line : goal.decreases-loop-line
decreases-loop-line g l = length l.rest
