use Rattle.board_gen.specs.Tokens.{tokens}
use Rattle.board_gen.proofs.Each.{steps_good, steps_bad}
use Rattle.board_gen.proofs.check.are_tokens.Goals as goal

pub loop-word-preserved : goal.loop-word-preserved
loop-word-preserved c =
    let there = rw c.if-not-branch.false at c.in_ok-is_token.ensures in
    record {
      good = λ good. c.loop-word.invariant.good (steps_good (tokens c.loop-word.rest.now) c.in-Some.word.now _ c.in-Some.ensures.tokens there good);
      bad = λ bad. c.loop-word.invariant.bad (steps_bad (tokens c.loop-word.rest.now) c.in-Some.word.now _ c.in-Some.ensures.tokens there bad);
    }
