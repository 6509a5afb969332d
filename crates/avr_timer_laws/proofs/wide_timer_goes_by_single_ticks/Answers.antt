use Rattle.avr_timer_laws.proofs.Singles.{single-ticks16}
use Rattle.avr_timer_laws.proofs.wide_timer_goes_by_single_ticks.Goals as goal

pub returns : goal.returns
returns c = single-ticks16
