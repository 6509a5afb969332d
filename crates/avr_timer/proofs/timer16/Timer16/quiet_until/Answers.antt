use Rattle.std.proofs.Common.{ℕ, ap, sym, ◌∙◌}
use Rattle.avr_timer.specs.Modes.{course16}
use Rattle.avr_timer.proofs.QuietLemmas.{stays16, comes16}
use Rattle.avr_timer.proofs.timer16.Timer16.quiet_until.Goals as goal

pub returns-in-Some-course16-clause-before : goal.returns-in-Some-course16-clause-before
returns-in-Some-course16-clause-before c =
    stays16 c.args.prescale c.in-Some.cycles c.request_number.result c.in-Some-course16.course c.args.self.now c.args.now c.cycle_of.result
    c.in-Some.is
    (sym (ap (λ (m : ℕ). course16 m c.args.self.now.ocra c.args.self.now.icr) c.mode.ensures) ∙ sym c.course16.ensures.value ∙ c.in-Some-course16.is)
    c.cycle_of.ensures.before c.request_number.ensures.before

pub returns-in-Some-course16-clause-at : goal.returns-in-Some-course16-clause-at
returns-in-Some-course16-clause-at c =
    comes16 c.args.prescale c.in-Some.cycles c.request_number.result c.in-Some-course16.course c.args.self.now c.args.now c.cycle_of.result
    c.in-Some.is
    (sym (ap (λ (m : ℕ). course16 m c.args.self.now.ocra c.args.self.now.icr) c.mode.ensures) ∙ sym c.course16.ensures.value ∙ c.in-Some-course16.is)
    c.cycle_of.ensures.at (λ small. c.request_number.ensures.at (c.cycle_of.ensures.small small))
