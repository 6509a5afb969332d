use Rattle.avr_timer.proofs.NoTime.{no_time-changes_nothing}
use Rattle.avr_timer.proofs.laws.no_time_changes_nothing.Goals as goal

pub returns : goal.returns
returns c = no_time-changes_nothing
