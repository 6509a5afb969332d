use Rattle.std.proofs.Common.{◌<◌, ◌∙◌, cond, eqb, set, length, arith}
use Rattle.chip_parts.proofs.Sizing.{resize_steps}
use Rattle.chip_parts.proofs.parts.Parts.resize.Goals as goal

pub returns : goal.returns
returns c = λ starts past e a held is h.
    let sn = c.args.sn in
    let addr = c.args.addr in
    let v = c.args.v in
    let old = c.args.self.now in
    let calls = c.set_sizes.ensures in
    let within : sn < length old.registers = omega (arith, c.requires.sn) in
    resize_steps starts past e a sn addr v old c.set_sizes.new.self c.sizes_with-tx.result c.sizes_with-rx.result _ c.requires.sn within held is h
    (c.sizes_with-tx.ensures ∙ (λ i. cond (eqb addr 0x1F) (set (c.sizes.ensures.0 i) sn v) (c.sizes.ensures.0 i)))
    (c.sizes_with-rx.ensures ∙ (λ i. cond (eqb addr 0x1E) (set (c.sizes.ensures.1 i) sn v) (c.sizes.ensures.1 i)))
    (record { tx_same = calls.tx_same; tx_changed = calls.tx_changed; rx_same = calls.rx_same; rx_changed = calls.rx_changed; tx_now = calls.sizes.0; rx_now = calls.sizes.1 })
    _ c.write.ensures
