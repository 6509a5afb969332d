use Rattle.std.proofs.Common.{◌≡◌, ◌<◌, [], length}
use Rattle.chip_core.specs.Chip.{starts_of}
use Rattle.board_gen.specs.SessionState.{HasTextRoom}
use Rattle.board_judge.specs.Trace.{trace_lines}
use Rattle.board_judge.specs.Judged.{judged}
use Rattle.board_judge.specs.Run.{AllRead, Together, entries_in}
use Rattle.board_judge.proofs.run.judge_lines.Given as goal

abbrev pub invariant-loop-line : goal.invariant-loop-line
invariant-loop-line l = record {
  read : AllRead (trace_lines l.rest);
  together : Together (starts_of l.fn.chip) l.chip l.history;
  starts : starts_of l.chip ≡ starts_of l.fn.chip;
  so_far : judged (starts_of l.fn.chip) l.history.past (entries_in l.rest) ≡ judged (starts_of l.fn.chip) [] (entries_in l.fn.text);
  room : 0 < length l.rest → HasTextRoom l.history.past (length l.rest);
}

abbrev pub decreases-loop-line : goal.decreases-loop-line
decreases-loop-line l = length l.rest
