use Rattle.std.proofs.Common.{◌≡◌, ◌≤◌, length}
use Rattle.board_gen.specs.Tokens.{tokens}
use Rattle.board_gen.proofs.cuts.first_token.Given as goal

abbrev pub invariant-loop-token : goal.invariant-loop-token
invariant-loop-token l = record {
  same : tokens l.rest ≡ tokens l.fn.line;
  within : length l.rest ≤ length l.fn.line;
}

abbrev pub decreases-loop-token : goal.decreases-loop-token
decreases-loop-token l = length l.rest
