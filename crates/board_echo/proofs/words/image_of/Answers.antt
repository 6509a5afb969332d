use Rattle.std.proofs.Common.{◌+◌, ◌*◌, ◌/◌, ◌%◌, get_or, refl, ap, ◌∙◌, arith, add-one, set}
use Rattle.board_echo.proofs.Images.{goes_on}
use Rattle.board_echo.proofs.words.image_of.Goals as goal

pub loop-i-preserved : goal.loop-i-preserved
loop-i-preserved c =
    let word = get_or c.args.words.now c.loop-i.i 0 in
    let below = c.loop-i-test.true in
    let few = c.requires in
    rw add-one (c.set-in-loop-i.ensures
    ∙ ap (λ l. set l (2 * c.loop-i.i + 1) (word / 256)) (c.set.ensures ∙ ap (λ l. set l (2 * c.loop-i.i) (word % 256)) c.loop-i.invariant)
    ∙ goes_on c.args.words.now c.loop-i.i word (omega (arith, below)) (omega (arith, few)) refl)
