use Rattle.chip_sheet.proofs.Quiet.{leaves_life, leaves_all}
use Rattle.chip_laws.proofs.socket_laws.others_stay.Goals as goal

pub returns : goal.returns
returns c = record { life = leaves_life; all = leaves_all }
