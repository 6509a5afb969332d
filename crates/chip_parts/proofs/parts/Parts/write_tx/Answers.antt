use Rattle.std.proofs.Common.{Some, sym, ap, ◌∙◌}
use Rattle.chip_sheet.specs.declared.stop.ChipStop.{ChipStop}
use Rattle.chip_sheet.specs.Buffers.{sending}
use Rattle.ring_mem.specs.declared.rings.Rings.{Rings}
use Rattle.chip_parts.proofs.Outcomes.{on_ok, if_err}
use Rattle.chip_parts.proofs.Buffers.{buffer_steps, buffer_goes, buffer_stops}
use Rattle.chip_parts.proofs.parts.Parts.write_tx.Goals as goal

pub returns-clause-ok : goal.returns-clause-ok
returns-clause-ok c = on_ok c.tx_write.result _ _ c.tx_write.ensures.ok (λ x went. λ starts past e a legal held is.
    let sn = c.args.sn in
    let here = went (sending starts past sn) (held.tx sn c.requires) in (
      buffer_goes starts past e sn c.args.addr c.args.v legal is here.0,
      buffer_steps starts past e a sn c.args.addr c.args.v c.args.self.now c.tx_write.new.self c.requires held is here.1 c.tx_write.ensures.others c.tx_write.ensures.sizes c.tx_write.ensures.rx,
    ))

pub returns-clause-err : goal.returns-clause-err
returns-clause-err c = if_err c.tx_write.result _ _ c.tx_write.ensures.err (λ s went. (
  ap (λ (r : Rings). record c.args.self.now { rings = r }) went.0,
  λ starts past e legal held is.
      let sn = c.args.sn in
      let here = went.1 (sending starts past sn) (held.tx sn c.requires) in
      buffer_stops starts past e sn c.args.addr c.args.v here.0.0 legal is here.0.1 ∙ sym (ap (λ (x : ChipStop). Some x) here.1),
))
