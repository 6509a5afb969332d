use Rattle.std.proofs.Common.{◌≡◌, ◌+◌, ◌++◌, length, drop}
use Rattle.board_echo.specs.Frames.{steps_for}
use Rattle.board_echo.specs.declared.frames.TheConstants.{START}
use Rattle.board_echo.proofs.Firmware.{events_left}
use Rattle.board_echo.proofs.frames.words_of.Given as goal

abbrev pub invariant-loop-event : goal.invariant-loop-event
invariant-loop-event l = record {
  so_far : l.words.items ++ events_left (l.many + 8) (length l.words.items) (drop l.event-index l.events) ≡ START ++ events_left (l.many + 8) 7 l.events;
  room : length l.words.items + length (steps_for (drop l.event-index l.events)) ≡ 7 + l.many;
}
