use Rattle.avr_ports.proofs.Alone.{other_flags-stay}
use Rattle.avr_ports.proofs.laws.other_flags_stay.Goals as goal

pub returns : goal.returns
returns c = other_flags-stay
