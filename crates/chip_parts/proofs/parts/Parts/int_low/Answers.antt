use Rattle.std.proofs.Common.{◌∙◌}
use Rattle.chip_sheet.specs.Registers.{common_register}
use Rattle.irq_lines.specs.Lines.{is_low}
use Rattle.irq_lines.proofs.Following.{line}
use Rattle.chip_parts.proofs.parts.Parts.int_low.Goals as goal

pub returns : goal.returns
returns c = λ starts past holds.
    let f = common_register past in
    c.int_low.ensures
    ∙ (λ i. is_low (c.read-ir.ensures f holds.common i) (c.read-imr.ensures f holds.common i) (holds.shows.sir i) (c.read-simr.ensures f holds.common i))
    ∙ line starts past (f 0x16)
