use Rattle.std.proofs.Common.{◌≡◌, None, length}
use Rattle.std.specs.Prelude.{IsSome}
use Rattle.board_gen.specs.Tokens.{steps, tokens}
use Rattle.board_gen.proofs.check.are_tokens.Given as goal

abbrev pub invariant-loop-word : goal.invariant-loop-word
invariant-loop-word l = record {
  good : IsSome (steps (tokens l.rest)) → IsSome (steps (tokens l.fn.line));
  bad : steps (tokens l.rest) ≡ None → steps (tokens l.fn.line) ≡ None;
}

abbrev pub decreases-loop-word : goal.decreases-loop-word
decreases-loop-word l = length l.rest
