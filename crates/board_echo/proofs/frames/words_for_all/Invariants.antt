use Rattle.std.proofs.Common.{◌≡◌, ◌+◌, ◌≤◌, length, drop}
use Rattle.board_echo.specs.Frames.{steps_for}
use Rattle.board_echo.proofs.frames.words_for_all.Given as goal

abbrev pub invariant-loop-event : goal.invariant-loop-event
invariant-loop-event l = record {
  all : l.words + length (steps_for (drop l.event-index l.events)) ≡ length (steps_for l.events);
  few : l.words ≤ 2034;
}
