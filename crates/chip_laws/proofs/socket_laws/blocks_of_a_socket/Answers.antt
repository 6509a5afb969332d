use Rattle.chip_sheet.proofs.ResetRestores.{tx_block, rx_block}
use Rattle.chip_sheet.proofs.StopRows.{registers_block}
use Rattle.chip_laws.proofs.socket_laws.blocks_of_a_socket.Goals as goal

pub returns : goal.returns
returns c = record { registers = registers_block; tx = tx_block; rx = rx_block }
