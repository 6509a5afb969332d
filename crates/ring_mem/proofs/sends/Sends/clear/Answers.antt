use Rattle.std.proofs.Common.{get_or, ap, ◌∙◌}
use Rattle.chip_sheet.specs.Sizes.{size_among}
use Rattle.ring_mem.specs.TxHolds.{part}
use Rattle.ring_mem.proofs.Idle.{new_stands, zeros, twos}
use Rattle.ring_mem.proofs.sends.Sends.clear.Goals as goal

pub wipe-requires : goal.wipe-requires
wipe-requires c = zeros

pub returns-clause-stands : goal.returns-clause-stands
returns-clause-stands c = λ n below.
    let q = c.wipe.new.self in
    let same = c.wipe.ensures.pointers in
    new_stands (part q n) q.memory.items q.marks.items 2048 c.wipe.ensures.memory c.wipe.ensures.marks
    (q.layout.meant n below ∙ ap (λ ks. size_among ks n) c.wipe.ensures.kilobytes ∙ twos n below)
    (ap (λ xs. get_or xs n 0) same.0 ∙ zeros n) (ap (λ xs. get_or xs n 0) same.1 ∙ zeros n) (ap (λ xs. get_or xs n 0) same.2 ∙ zeros n)
