use Rattle.std.proofs.Common.{arith, subst}
use Rattle.avr_timer.specs.Timers.{TimersState}
use Rattle.avr_timer.specs.Quiet.{StaysQuiet, RequestComes}
use Rattle.avr_timer.proofs.QuietLemmas.{stay-quiet, request-comes}
use Rattle.avr_timer.proofs.timers.Timers.quiet_until.Goals as goal

pub returns-clause-before : goal.returns-clause-before
returns-clause-before c =
    let s : TimersState = record { assr = c.self.inside.assr; timer0 = c.self.inside.timer0; timer1 = c.self.inside.timer1; timer2 = c.self.inside.timer2 } in
    let it : StaysQuiet s c.args.now c.min-2.result =
    stay-quiet s c.args.now c.quiet_until-until0.result c.quiet_until-until1.result c.quiet_until-until2.result c.min-2.result
    (rw c.prescale_of.ensures.value at c.quiet_until-until0.ensures.before)
    (rw c.prescale_of-2.ensures.value at c.quiet_until-until1.ensures.before)
    (rw c.timer2_prescale_of.ensures.value at c.quiet_until-until2.ensures.before)
    (omega (arith, c.min.ensures, c.min-2.ensures)) (omega (arith, c.min.ensures, c.min-2.ensures)) (omega (arith, c.min.ensures, c.min-2.ensures)) in
    subst (λ (v : TimersState). StaysQuiet v c.args.now c.min-2.result) c.self.view_is it

pub returns-clause-at : goal.returns-clause-at
returns-clause-at c =
    let s : TimersState = record { assr = c.self.inside.assr; timer0 = c.self.inside.timer0; timer1 = c.self.inside.timer1; timer2 = c.self.inside.timer2 } in
    let it : RequestComes s c.args.now c.min-2.result =
    request-comes s c.args.now c.quiet_until-until0.result c.quiet_until-until1.result c.quiet_until-until2.result c.min.result c.min-2.result
    c.min.ensures c.min-2.ensures
    (rw c.prescale_of.ensures.value at c.quiet_until-until0.ensures.at)
    (rw c.prescale_of-2.ensures.value at c.quiet_until-until1.ensures.at)
    (rw c.timer2_prescale_of.ensures.value at c.quiet_until-until2.ensures.at) in
    subst (λ (v : TimersState). RequestComes v c.args.now c.min-2.result) c.self.view_is it
