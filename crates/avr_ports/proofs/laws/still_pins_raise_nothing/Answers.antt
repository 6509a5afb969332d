use Rattle.avr_ports.proofs.Edges.{still_pins-raise_nothing}
use Rattle.avr_ports.proofs.laws.still_pins_raise_nothing.Goals as goal

pub returns : goal.returns
returns c = still_pins-raise_nothing
