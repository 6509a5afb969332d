use Rattle.std.proofs.Common.{sym, ap}
use Rattle.spi_frame.proofs.FramerLaws.{framer_of-select}
use Rattle.spi_frame.proofs.framer.Framer.select.Goals as goal

pub returns-then-low-self : goal.returns-then-low-self
returns-then-low-self c = λ past a h. sym (framer_of-select past c.args.low a (rw (ap (λ f. f.low) h) at c.if-low-self.true))
