use Rattle.chip_steps.proofs.Elsewhere.{other_registers, other_buffer, any_rx_buffer, any_common, any_read, any_idle, other_link, any_rest}
use Rattle.chip_steps.proofs.laws.others_untouched.Goals as goal

pub returns : goal.returns
returns c = record { registers = other_registers; tx = other_buffer; rx = any_rx_buffer; common = any_common; reads = any_read; idle = any_idle; link = other_link; rest = any_rest }
