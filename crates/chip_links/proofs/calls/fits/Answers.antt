use Rattle.std.proofs.Common.{◌∙◌}
use Rattle.chip_sheet.specs.Past.{link_entry}
use Rattle.chip_links.specs.Fitting.{no_life}
use Rattle.chip_links.proofs.Fitting.{answered, answered_in, or_first, or_second}
use Rattle.chip_links.proofs.calls.fits.Goals as goal

pub returns-then-answers : goal.returns-then-answers
returns-then-answers c =
    let parts = c.args.parts.now in
    let life = c.life_at-life.ensures no_life in
    or_first c.answers.result _ _
    (c.answers.ensures ∙ answered parts c.args.sn c.flight-flight.result c.free-free.result _ (link_entry c.args.e.now) c.due.result life c.flight-flight.ensures.value c.free-free.ensures.value c.due.ensures)
    c.if-answers.true

pub returns-else-answers : goal.returns-else-answers
returns-else-answers c =
    let parts = c.args.parts.now in
    let life = c.life_at-life.ensures no_life in
    or_second c.answers.result c.answers-else-answers.result _ _
    (c.answers.ensures ∙ answered parts c.args.sn c.flight-flight.result c.free-free.result _ (link_entry c.args.e.now) c.due.result life c.flight-flight.ensures.value c.free-free.ensures.value c.due.ensures)
    c.if-answers.false
    (c.answers-else-answers.ensures
    ∙ answered_in parts c.args.sn c.flight-flight.result c.free-free.result _ (link_entry c.args.e.now) c.due-else-answers.result life c.flight-flight.ensures.value c.free-free.ensures.value c.due-else-answers.ensures)
