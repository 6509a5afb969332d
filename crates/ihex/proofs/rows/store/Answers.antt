use Rattle.std.proofs.Common.{◌≡◌, ℕ, ◌++◌, List, ap, ◌∙◌, arith}
use Rattle.ihex.specs.Store.{upper, rows_below, end_line, hex_text}
use Rattle.ihex.proofs.rows.store.Goals as goal

pub returns : goal.returns
unfolding hex_text upper
returns c =
    let last : c.loop-k.k ≡ 2048 = omega (arith, c.loop-k-test.false, c.loop-k.auto.k-end) in
    c.in_ok-extend_from_slice.ensures.items
    ∙ ap (λ (t : List ℕ). t ++ end_line) (c.loop-k.invariant ∙ ap (λ (k : ℕ). rows_below c.args.image.now k) last)
