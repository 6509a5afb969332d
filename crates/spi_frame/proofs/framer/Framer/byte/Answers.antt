use Rattle.std.proofs.Common.{sym, ◌∙◌, ap}
use Rattle.spi_frame.specs.declared.framer.Framer.{Framer}
use Rattle.spi_frame.proofs.FramerLaws.{framer_of-byte}
use Rattle.spi_frame.proofs.framer.Framer.byte.Goals as goal

pub returns-clause-after : goal.returns-clause-after
returns-clause-after c = λ past a h.
    let low = sym (ap (λ (f : Framer). f.low) h) ∙ c.if-not-self.false in
    let frame = ap (λ (f : Framer). f.frame) h in
    let more = framer_of-byte past c.args.byte a low in
    cc
