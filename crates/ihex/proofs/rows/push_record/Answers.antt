use Rattle.ihex.proofs.Pieces.{record_text}
use Rattle.ihex.proofs.rows.push_record.Goals as goal

pub returns : goal.returns
returns c =
    record_text c.args.text.now.items c.extend_from_slice.new.self.items c.push_digits.new.text.items c.push_digits-2.new.text.items c.push_digits-3.new.text.items c.extend_from_slice-2.new.self.items
    c.args.row.now c.args.at c.checksum-check.result c.sum_of.result c.sum_of-2.result
    c.in_ok-extend_from_slice.ensures.items c.in_ok-push_digits.ensures c.in_ok-push_digits-2.ensures c.in_ok-push_digits-3.ensures c.in_ok-extend_from_slice-2.ensures.items
    c.sum_of.ensures.total c.sum_of-2.ensures.total c.checksum-check.ensures
