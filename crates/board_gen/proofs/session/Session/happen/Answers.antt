use Rattle.std.proofs.Common.{◌∷◌, true, false, ap, ◌∙◌}
use Rattle.chip_sheet.specs.declared.event.Entry.TheVariants.{Link}
use Rattle.chip_core.specs.Chip.{starts_of}
use Rattle.board_gen.specs.SessionState.{SessionState}
use Rattle.chip_sheet.specs.declared.event.LinkEntry.{LinkEntry}
use Rattle.chip_sheet.specs.Past.{Past, link_entry}
use Rattle.board_gen.specs.Views.{entry_of}
use Rattle.board_gen.proofs.Together.{short, together_after, fits_told}
use Rattle.board_gen.proofs.session.Session.happen.Goals as goal

pub link-requires-clause-few : goal.link-requires-clause-few
link-requires-clause-few c =
    c.short_is_few.ensures (starts_of c.self.inside.chip) c.self.inside.chip c.self.inside.history.past c.self.invariant.stands
    (short c.self.inside.history.past c.args.self.now.past (ap (λ (s : SessionState). s.past) c.self.view_is) c.requires.light)

pub invariant_of-self-2 : goal.invariant_of-self-2
invariant_of-self-2 c =
    let starts = starts_of c.self.inside.chip in
    let past = c.self.inside.history.past in
    let stands = c.link.ensures.stands starts past c.self.invariant.stands in
    together_after starts c.link.new.self past (Link c.args.sn (link_entry c.what-what.result)) c.push.new.self (c.starts_are.ensures starts c.link.new.self _ stands) stands
    (rw c.reserve.ensures.past at c.push.ensures.past) (c.push.ensures.limit ∙ c.reserve.ensures.limit ∙ c.self.invariant.limited)

pub returns-clause-starts : goal.returns-clause-starts
returns-clause-starts c =
    let starts = starts_of c.self.inside.chip in
    let stands = c.link.ensures.stands starts c.self.inside.history.past c.self.invariant.stands in
    c.starts_are.ensures starts c.link.new.self _ stands ∙ ap (λ (s : SessionState). s.starts) c.self.view_is

pub returns-then-not-fits-clause-err : goal.returns-then-not-fits-clause-err
returns-then-not-fits-clause-err c =
    let it = c.self.inside in
    let starts = starts_of it.chip in
    fits_told starts c.args.self.now.starts it.history.past c.args.self.now.past it.chip c.args.sn (link_entry c.what-what.result) (entry_of c.args.token.now) c.fits.result false
    (ap (λ (s : SessionState). s.starts) c.self.view_is) (ap (λ (s : SessionState). s.past) c.self.view_is) c.what-what.ensures
    (c.fits_agrees.ensures starts it.chip it.history.past c.args.sn (link_entry c.what-what.result) c.requires.sn c.self.invariant.stands) c.fits.ensures c.if-not-fits.true

pub returns-clause-ok : goal.returns-clause-ok
returns-clause-ok c =
    let it = c.self.inside in
    let starts = starts_of it.chip in
    let past_is = ap (λ (s : SessionState). s.past) c.self.view_is in (
      fits_told starts c.args.self.now.starts it.history.past c.args.self.now.past it.chip c.args.sn (link_entry c.what-what.result) (entry_of c.args.token.now) c.fits.result true
          (ap (λ (s : SessionState). s.starts) c.self.view_is) past_is c.what-what.ensures
          (c.fits_agrees.ensures starts it.chip it.history.past c.args.sn (link_entry c.what-what.result) c.requires.sn c.self.invariant.stands) c.fits.ensures c.if-not-fits.false,
      c.push.ensures.past ∙ ap (λ (w : LinkEntry). Link c.args.sn w ∷ c.reserve.new.self.past) c.what-what.ensures ∙ ap (λ (p : Past). Link c.args.sn (entry_of c.args.token.now) ∷ p) (c.reserve.ensures.past ∙ past_is),
    )
