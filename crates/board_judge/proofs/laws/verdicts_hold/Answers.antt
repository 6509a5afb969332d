use Rattle.board_judge.proofs.Wrongs.{legals_are_done, verdicts_hold}
use Rattle.board_judge.proofs.laws.verdicts_hold.Goals as goal

pub returns : goal.returns
returns c = record { verdicts = verdicts_hold; legal = legals_are_done }
