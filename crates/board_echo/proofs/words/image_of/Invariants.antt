use Rattle.std.proofs.Common.{◌≡◌}
use Rattle.board_echo.proofs.Images.{so_far}
use Rattle.board_echo.proofs.words.image_of.Given as goal

abbrev pub invariant-loop-i : goal.invariant-loop-i
invariant-loop-i l = l.image ≡ so_far l.words l.i
