use Rattle.std.proofs.Common.{arith}
use Rattle.avr_timer.proofs.Firsts.{some_tick-never}
use Rattle.avr_timer.proofs.QuietLemmas.{before-first, at-first}
use Rattle.avr_timer.proofs.quiet.number_of.Goals as goal

pub returns-in-Some-clause-before : goal.returns-in-Some-clause-before
returns-in-Some-clause-before c = λ test is k below. before-first test c.in-Some.number k (rw c.in-Some.is at is) below

pub returns-in-Some-clause-at : goal.returns-in-Some-clause-at
returns-in-Some-clause-at c = λ test is small. at-first test c.in-Some.number (rw c.in-Some.is at is)

pub returns-in-None-clause-before : goal.returns-in-None-clause-before
returns-in-None-clause-before c = λ test is k below. some_tick-never test k (λ i under. (rw c.in-None.is at is) i)

pub returns-in-None-clause-at : goal.returns-in-None-clause-at
returns-in-None-clause-at c = λ test is small. absurd (omega (arith, small))
