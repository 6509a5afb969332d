use Rattle.avr_timer_laws.proofs.Singles.{single-ticks8}
use Rattle.avr_timer_laws.proofs.narrow_timers_go_by_single_ticks.Goals as goal

pub returns : goal.returns
returns c = single-ticks8
