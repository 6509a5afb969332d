use Rattle.std.proofs.Common.{◌≡◌, true, sym, ◌∙◌}
use Rattle.chip_sheet.specs.Past.{link_entry}
use Rattle.chip_sheet.specs.LinkCalls.{fits}
use Rattle.chip_core.proofs.Counting.{counted_link}
use Rattle.chip_core.proofs.chip.Chip.link.Goals as goal

pub returns-clause-stands : goal.returns-clause-stands
returns-clause-stands c = λ starts past stands.
    let sn = c.args.sn in
    let old = c.args.self.now in
    let what = link_entry c.args.e.now in
    let fit : fits starts past sn what ≡ true = sym (c.fits_agrees.ensures starts past old.parts sn what c.requires.sn stands.parts) ∙ c.requires.fits in
    record {
      legal = ((c.requires.sn, fit), stands.legal);
      framer = stands.framer;
      parts = c.link-got.ensures.holds starts past stands.legal stands.parts;
      counts = counted_link starts past sn c.taken_by.result c.link-got.result what old.counts c.add_link.new.counts stands.legal fit c.taken_by.ensures (c.link-got.ensures.came starts past stands.legal stands.parts)
          c.add_link.ensures.own c.add_link.ensures.others stands.counts;
    }
