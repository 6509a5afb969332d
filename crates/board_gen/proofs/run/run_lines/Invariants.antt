use Rattle.std.proofs.Common.{◌≡◌, ◌≤◌, ◌<◌, ◌+◌, None, length}
use Rattle.board_gen.specs.Faults.{AllRead}
use Rattle.board_gen.specs.Run.{lines_in}
use Rattle.board_gen.specs.Script.{script_lines}
use Rattle.board_gen.specs.SessionState.{HasTextRoom}
use Rattle.board_gen.specs.Shown.{shown_from}
use Rattle.board_gen.proofs.ToldLines.{LinesSoFar}
use Rattle.board_gen.proofs.run.run_lines.Given as goal

abbrev pub invariant-loop-line : goal.invariant-loop-line
invariant-loop-line g l = record {
  read : AllRead (script_lines l.rest);
  running : l.session.stopped ≡ None;
  starts : l.session.starts ≡ l.fn.session.starts;
  so_far : LinesSoFar (shown_from l.fn.session.starts l.fn.session.past l.first (lines_in l.fn.script)) (shown_from l.session.starts l.session.past l.number (lines_in l.rest)) l.lines (g.K.Sink.written l.fn.out) (g.K.Sink.written l.out);
  faults : g.K.Sink.faults l.out ≡ g.K.Sink.faults l.fn.out;
  few : l.number + length l.rest ≤ l.first + length l.fn.script;
  light : 0 < length l.rest → HasTextRoom l.session.past (length l.rest);
}

abbrev pub decreases-loop-line : goal.decreases-loop-line
decreases-loop-line g l = length l.rest
