use Rattle.avr_timer.proofs.QuietLemmas.{cycle-at, number-small}
use Rattle.avr_timer.proofs.quiet.cycle_of.Goals as goal

pub returns-clause-at : goal.returns-clause-at
returns-clause-at c = λ order small.
    cycle-at c.args.prescale c.args.now c.args.number _ _ c.requires c.saturating_add.ensures c.saturating_mul.ensures small

pub returns-clause-small : goal.returns-clause-small
returns-clause-small c = λ small.
    number-small c.args.prescale c.args.now c.args.number _ _ c.requires c.saturating_add.ensures c.saturating_mul.ensures small
