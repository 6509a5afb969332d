use Rattle.avr_ports.proofs.Alone.{one_bit-alone}
use Rattle.avr_ports.proofs.laws.one_bit_alone.Goals as goal

pub returns : goal.returns
returns c = one_bit-alone
