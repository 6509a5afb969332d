use Rattle.std.proofs.Common.{sym, ◌∙◌}
use Rattle.board_list.proofs.Heads.{head_long, head_short}
use Rattle.board_list.proofs.listing.push_head.Goals as goal

pub returns-then-words-eq2-clause-is : goal.returns-then-words-eq2-clause-is
returns-then-words-eq2-clause-is c =
    let text = rw (c.flash_word-word.ensures, c.flash_word.ensures) at c.long_head-head.ensures in
    rw (text ∙ sym (head_long c.args.image.now c.args.at c.args.words c.if-words-eq2.true)) at c.push.ensures

pub returns-else-words-eq2-clause-is : goal.returns-else-words-eq2-clause-is
returns-else-words-eq2-clause-is c =
    let text = rw c.flash_word-word.ensures at c.short_head-head.ensures in
    rw (text ∙ sym (head_short c.args.image.now c.args.at c.args.words c.if-words-eq2.false)) at c.push-else-words-eq2.ensures
