use Rattle.board_list.proofs.Used.{used_ends}
use Rattle.board_list.proofs.laws.listing_ends_behind_the_last_word.Goals as goal

pub returns : goal.returns
returns c = used_ends
