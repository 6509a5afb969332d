use Rattle.std.proofs.Common.{◌∷◌, arith}
use Rattle.chip_sheet.specs.declared.event.Entry.TheVariants.{Link}
use Rattle.chip_sheet.specs.Past.{link_entry}
use Rattle.part_rows.proofs.chip.link.Goals as goal

pub link-requires-clause-few : goal.link-requires-clause-few
link-requires-clause-few g c = let short = c.requires.short in c.short_is_few.ensures c.requires.starts c.args.bench.now.chip c.requires.past c.requires.stands (omega (arith, short))

pub returns : goal.returns
returns g c = let short = c.requires.short in record {
  starts = c.requires.starts;
  past = Link c.args.sn (link_entry c.args.e.now) ∷ c.requires.past;
  stands = c.link.ensures.stands c.requires.starts c.requires.past c.requires.stands;
  short = omega (arith, short);
}
