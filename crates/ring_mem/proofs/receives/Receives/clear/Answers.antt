use Rattle.std.proofs.Common.{get_or, sym, ap, ◌∙◌, arith}
use Rattle.chip_sheet.specs.Sizes.{size_among}
use Rattle.ring_mem.proofs.Idle.{zeros, twos}
use Rattle.ring_mem.proofs.receives.Receives.clear.Goals as goal

pub wipe-requires : goal.wipe-requires
wipe-requires c = zeros

pub returns-clause-stands : goal.returns-clause-stands
returns-clause-stands c = λ n below.
    let q = c.wipe.new.self in
    let same = c.wipe.ensures.pointers in record {
      size = sym (q.layout.meant n below ∙ ap (λ ks. size_among ks n) c.wipe.ensures.kilobytes ∙ twos n below);
      unread = sym (ap (λ xs. get_or xs n 0) same.0 ∙ zeros n);
      within = omega arith;
      end = ap (λ xs. get_or xs n 0) same.1 ∙ zeros n;
      rd = sym (ap (λ xs. get_or xs n 0) same.2 ∙ zeros n);
      high = omega arith;
      low = omega arith;
      kept = λ j less. absurd (omega (arith, less));
    }
