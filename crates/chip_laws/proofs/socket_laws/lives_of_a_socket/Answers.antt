use Rattle.chip_sheet.proofs.LivesLaws.{lives_few, old_behind, old_stays, leaves_other}
use Rattle.chip_laws.proofs.socket_laws.lives_of_a_socket.Goals as goal

pub returns : goal.returns
returns c = record { few = lives_few; old = old_behind; stays = old_stays; others = leaves_other }
