use Rattle.board_quick.proofs.Shown.{none_ran}
use Rattle.board_quick.proofs.texts.list_text.Goals as goal

pub returns-in-Err : goal.returns-in-Err
returns-in-Err g c = none_ran _ c.nothing_ran.result _ _ c.nothing_ran.ensures.end c.nothing_ran.ensures.past c.nothing_ran.ensures.script
