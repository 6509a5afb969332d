use Rattle.std.proofs.Common.{ℕ, Option, Some, ap, arith, sym, ◌∙◌}
use Rattle.avr_timer.specs.Modes.{course16}
use Rattle.avr_timer.specs.Timers.{mode16, passed16_by}
use Rattle.avr_timer.proofs.NoTime.{none-between16}
use Rattle.avr_timer.proofs.timer16.Timer16.pass.Goals as goal

pub returns-else-ticks-gt0 : goal.returns-else-ticks-gt0
returns-else-ticks-gt0 c =
    let t = c.args.self.now in
    sym (none-between16 t _ c.fits.ensures.count c.fits.ensures.compare c.fits.ensures.capture (sym c.ticks_between-ticks.ensures ∙ (omega (arith, c.if-ticks-gt0.false))))
    ∙ ap (λ (p : Option ℕ). passed16_by p (course16 (mode16 t) t.ocra t.icr) t c.args.from c.args.to) (sym c.in-Some.is)
