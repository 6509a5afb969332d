use Rattle.chip_sheet.proofs.ResetRestores.{reads_restored, line_high, sending_fresh, receiving_fresh}
use Rattle.chip_laws.proofs.socket_laws.reset_restores.Goals as goal

pub returns : goal.returns
returns c = record { reads = reads_restored; line = line_high; sending = sending_fresh; receiving = receiving_fresh }
