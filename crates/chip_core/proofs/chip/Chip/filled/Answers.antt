use Rattle.std.proofs.Common.{◌≡◌, true, refl, sym, ◌∙◌, take}
use Rattle.chip_sheet.specs.declared.event.LinkEntry.TheVariants.{Got}
use Rattle.chip_sheet.specs.LinkCalls.{fits}
use Rattle.chip_core.specs.Chip.{room_bytes}
use Rattle.chip_core.proofs.Counting.{counted_link}
use Rattle.chip_core.proofs.chip.Chip.filled.Goals as goal

pub returns-clause-stands : goal.returns-clause-stands
returns-clause-stands c = λ starts past stands.
    let sn = c.args.sn in
    let old = c.args.self.now in
    let what = Got (take c.args.k (room_bytes old sn)) in
    let fit : fits starts past sn what ≡ true = sym (c.fits_agrees.ensures starts past old.parts sn what c.requires.sn stands.parts) ∙ c.requires.fits in
    record {
      legal = ((c.requires.sn, fit), stands.legal);
      framer = stands.framer;
      parts = c.filled-got.ensures.holds starts past stands.legal stands.parts fit;
      counts = counted_link starts past sn 0 c.filled-got.result what old.counts c.add_link.new.counts stands.legal fit refl (c.filled-got.ensures.came starts past stands.legal stands.parts fit)
          c.add_link.ensures.own c.add_link.ensures.others stands.counts;
    }
