use Rattle.std.proofs.Common.{get_or, ap, ◌∙◌, arith}
use Rattle.chip_sheet.specs.Sizes.{size_among}
use Rattle.ring_mem.specs.TxHolds.{part}
use Rattle.ring_mem.proofs.Idle.{resizes, all_zero}
use Rattle.ring_mem.proofs.sends.Sends.set_sizes.Goals as goal

pub wipe-requires : goal.wipe-requires
wipe-requires c = all_zero c.args.self.now.flights (omega arith) c.requires

pub returns-clause-changed : goal.returns-clause-changed
returns-clause-changed c = λ differ n s below h.
    let r = c.args.self.now in
    let q = c.wipe.new.self in
    let same = c.wipe.ensures.pointers in
    resizes (part r n) (part q n) r.memory.items q.memory.items r.marks.items q.marks.items s (size_among c.args.kilobytes n)
    c.wipe.ensures.memory c.wipe.ensures.marks
    (c.requires n below) (q.layout.meant n below ∙ ap (λ ks. size_among ks n) c.wipe.ensures.kilobytes)
    (ap (λ xs. get_or xs n 0) same.0) (ap (λ xs. get_or xs n 0) same.1) (ap (λ xs. get_or xs n 0) same.2) h
