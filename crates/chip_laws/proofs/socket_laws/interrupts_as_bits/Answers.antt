use Rattle.chip_sheet.proofs.InterruptBits.{register_bit, asks_masked, sir_bit, low_enabled}
use Rattle.chip_laws.proofs.socket_laws.interrupts_as_bits.Goals as goal

pub returns : goal.returns
returns c = record { bit = register_bit; asks = asks_masked; sir = sir_bit; low = low_enabled }
