use Rattle.chip_sheet.proofs.SendLaws.{send_goes, send_adds}
use Rattle.chip_laws.proofs.socket_laws.send_that_fits.Goals as goal

pub returns : goal.returns
returns c = record { goes = send_goes; adds = send_adds }
