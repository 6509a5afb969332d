use Rattle.std.proofs.Common.{◌≡◌, ◌+◌, ◌/◌, ◌++◌}
use Rattle.board_echo.specs.Generator.{bytes_behind, in_chunks, sayings}
use Rattle.board_echo.proofs.generator.sayings.Given as goal

abbrev pub invariant-loop-left : goal.invariant-loop-left
invariant-loop-left l = l.say.items ++ in_chunks 1000 (bytes_behind l.generator.state l.left) ((l.left + 999) / 1000) ≡ sayings l.n

abbrev pub decreases-loop-left : goal.decreases-loop-left
decreases-loop-left l = l.left
