use Rattle.std.proofs.Common.{None, cond, drop, ap, ◌∙◌}
use Rattle.std.proofs.lemmas.List.{take_rest}
use Rattle.board_judge.specs.Trace.{numbers}
use Rattle.board_judge.proofs.head.head.Goals as goal

pub returns-then-starts_with : goal.returns-then-starts_with
returns-then-starts_with c =
    (rw take_rest at c.numbers.ensures) ∙ ap (λ b. cond b (numbers (drop 14 c.args.line.now)) None) c.if-starts_with.ensures.value
