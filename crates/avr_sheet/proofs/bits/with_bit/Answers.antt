use Rattle.std.proofs.Common.{◌∙◌, ap, sym, arith}
use Rattle.avr_sheet.specs.Bits.{with_bit}
use Rattle.avr_sheet.proofs.BitTables.{set_by_mask, cleared_by_mask}
use Rattle.avr_sheet.proofs.bits.with_bit.Goals as goal

pub returns-then-set : goal.returns-then-set
returns-then-set c =
    set_by_mask c.args.byte c.args.bit (omega arith) (omega arith) ∙ sym (ap (with_bit c.args.byte c.args.bit) c.if-set.true)

pub returns-else-set : goal.returns-else-set
returns-else-set c =
    cleared_by_mask c.args.byte c.args.bit (omega arith) (omega arith) ∙ sym (ap (with_bit c.args.byte c.args.bit) c.if-set.false)
