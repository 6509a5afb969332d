use Rattle.chip_sheet.proofs.ResetLaws.{reset_closes, reset_windows, reset_clears, reset_empties_rx, reset_keeps_lives}
use Rattle.chip_laws.proofs.socket_laws.reset_empties.Goals as goal

pub returns : goal.returns
returns c = record { closed = reset_closes; windows = reset_windows; tx = reset_clears; rx = reset_empties_rx; life = reset_keeps_lives }
