use Rattle.std.proofs.Common.{get_or, sym, ap, ◌∙◌, arith}
use Rattle.chip_sheet.specs.Sizes.{size_among}
use Rattle.ring_mem.proofs.Idle.{all_zero}
use Rattle.ring_mem.proofs.receives.Receives.set_sizes.Goals as goal

pub wipe-requires : goal.wipe-requires
wipe-requires c = all_zero c.args.self.now.unread (omega arith) c.requires

pub returns-clause-changed : goal.returns-clause-changed
returns-clause-changed c = λ differ n g below h.
    let q = c.wipe.new.self in
    let same = c.wipe.ensures.pointers in record {
      size = sym (q.layout.meant n below ∙ ap (λ ks. size_among ks n) c.wipe.ensures.kilobytes);
      unread = h.unread ∙ sym (ap (λ xs. get_or xs n 0) same.0);
      within = h.within;
      end = ap (λ xs. get_or xs n 0) same.1 ∙ h.end;
      rd = h.rd ∙ sym (ap (λ xs. get_or xs n 0) same.2);
      high = h.high;
      low = h.low;
      kept = λ j less. absurd (omega (arith, less, h.unread, c.requires n below));
    }
