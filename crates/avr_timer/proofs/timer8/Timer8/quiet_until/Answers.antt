use Rattle.std.proofs.Common.{ℕ, ap, sym, ◌∙◌}
use Rattle.avr_timer.specs.Modes.{course8}
use Rattle.avr_timer.proofs.QuietLemmas.{stays8, comes8}
use Rattle.avr_timer.proofs.timer8.Timer8.quiet_until.Goals as goal

pub returns-in-Some-course8-clause-before : goal.returns-in-Some-course8-clause-before
returns-in-Some-course8-clause-before c =
    stays8 c.args.prescale c.in-Some.cycles c.request_number.result c.in-Some-course8.course c.args.self.now c.args.now c.cycle_of.result
    c.in-Some.is
    (sym (ap (λ (m : ℕ). course8 m c.args.self.now.ocra) c.mode.ensures) ∙ sym c.course8.ensures.value ∙ c.in-Some-course8.is)
    c.cycle_of.ensures.before c.request_number.ensures.before

pub returns-in-Some-course8-clause-at : goal.returns-in-Some-course8-clause-at
returns-in-Some-course8-clause-at c =
    comes8 c.args.prescale c.in-Some.cycles c.request_number.result c.in-Some-course8.course c.args.self.now c.args.now c.cycle_of.result
    c.in-Some.is
    (sym (ap (λ (m : ℕ). course8 m c.args.self.now.ocra) c.mode.ensures) ∙ sym c.course8.ensures.value ∙ c.in-Some-course8.is)
    c.cycle_of.ensures.at (λ small. c.request_number.ensures.at (c.cycle_of.ensures.small small))
