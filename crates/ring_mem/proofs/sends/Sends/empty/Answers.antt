use Rattle.std.proofs.Common.{◌≡◌, ◌-◌, ℕ, arith, subst}
use Rattle.chip_sheet.specs.Sending.{Sending, after_empty, after_taken}
use Rattle.ring_mem.specs.TxHolds.{part, Stands}
use Rattle.ring_mem.proofs.sends.Sends.empty.Goals as goal

same_empty : (s : Sending) (k : ℕ) → s.flight ≡ k → after_taken s k ≡ after_empty s
same_empty s k same = let e : s.flight - k ≡ 0 = omega (arith, same) in λ i. record s { flight = e i }

pub returns-clause-stands : goal.returns-clause-stands
returns-clause-stands c = λ s h.
    let r = c.taken.new.self in
    subst (λ t. Stands (part r c.args.sn) r.memory.items r.marks.items t) (same_empty s _ h.flight) (c.taken.ensures.stands s h)
