use Rattle.board_sim_laws.proofs.Way.{way_leads}
use Rattle.board_sim_laws.proofs.way_leads.Goals as goal

pub returns : goal.returns
returns c = way_leads
