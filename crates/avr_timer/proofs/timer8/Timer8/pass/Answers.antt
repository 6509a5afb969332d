use Rattle.std.proofs.Common.{ℕ, Option, Some, ap, arith, sym, ◌∙◌}
use Rattle.avr_timer.specs.Modes.{course8}
use Rattle.avr_timer.specs.Timers.{mode8, passed8_by}
use Rattle.avr_timer.proofs.NoTime.{none-between8}
use Rattle.avr_timer.proofs.timer8.Timer8.pass.Goals as goal

pub returns-else-ticks-gt0 : goal.returns-else-ticks-gt0
returns-else-ticks-gt0 c =
    let t = c.args.self.now in
    sym (none-between8 t _ c.fits.ensures.count c.fits.ensures.compare (sym c.ticks_between-ticks.ensures ∙ (omega (arith, c.if-ticks-gt0.false))))
    ∙ ap (λ (p : Option ℕ). passed8_by p (course8 (mode8 t) t.ocra) t c.args.from c.args.to) (sym c.in-Some.is)
