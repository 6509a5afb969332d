use Rattle.std.proofs.Common.{refl, ◌∙◌, arith}
use Rattle.board_echo.proofs.Sayings.{next_of_chunks}
use Rattle.board_echo.proofs.generator.sayings.Goals as goal

pub loop-left-preserved : goal.loop-left-preserved
loop-left-preserved c =
    rw c.in_ok-push.ensures.items
    (next_of_chunks c.loop-left.say.items c.bytes.new.self.state c.loop-left.generator.state c.loop-left.left c.min-many.result c.in_ok-bytes.bytes.items
    (omega (arith, c.loop-left-test.true)) c.min-many.ensures (c.in_ok-bytes.ensures.state refl) c.in_ok-bytes.ensures.bytes
    ∙ c.loop-left.invariant)
