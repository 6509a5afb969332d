use Rattle.std.proofs.Common.{◌∷◌, true, false, sym, ap, subst, ◌∙◌}
use Rattle.chip_sheet.specs.declared.event.Entry.{Entry}
use Rattle.chip_sheet.specs.Past.{entry_of, link_entry}
use Rattle.chip_core.specs.Chip.{Stands, stop_kept}
use Rattle.board_judge.specs.Run.{IsOfChip}
use Rattle.board_judge.proofs.Stepping.{answered_is, answered_stands, link_is, stops_is}
use Rattle.board_judge.proofs.chip.fault_of.Goals as goal

pub returns-then-not-fits-clause-is : goal.returns-then-not-fits-clause-is
returns-then-not-fits-clause-is c starts past stands len =
    let same = ap entry_of c.in-Link.is in
    let few = subst IsOfChip same c.requires.chip in
    link_is starts past c.args.place c.in-Link.sn (link_entry c.in-Link.what) _ false same few
    (sym (c.fits_agrees.ensures starts c.args.chip.now past c.in-Link.sn (link_entry c.in-Link.what) few stands) ∙ sym c.fits.ensures ∙ c.if-not-fits.true) len

pub returns-in-Ok-clause-is : goal.returns-in-Ok-clause-is
returns-in-Ok-clause-is c starts past stands len =
    answered_is starts c.args.chip.now c.bus.new.self past c.args.place c.in-Bus.asked c.in-Ok.expected c.in-Bus.found _ c.compared.result (c.in-Ok.ensures.answered starts past stands) (ap entry_of c.in-Bus.is) len c.compared.ensures

pub returns-in-Ok-clause-goes_on : goal.returns-in-Ok-clause-goes_on
returns-in-Ok-clause-goes_on c none starts past stands =
    answered_stands starts c.args.chip.now c.bus.new.self past c.args.place c.in-Bus.asked c.in-Ok.expected c.in-Bus.found _ c.compared.result (c.in-Ok.ensures.answered starts past stands) (ap entry_of c.in-Bus.is) c.compared.ensures none

pub returns-in-Err-clause-is : goal.returns-in-Err-clause-is
returns-in-Err-clause-is c starts past stands len =
    stops_is starts past c.args.place c.in-Bus.asked c.in-Bus.found _ c.in-Err.stop (stop_kept c.args.chip.now) c.requires.running (c.in-Err.ensures.stopped starts past stands).cause (ap entry_of c.in-Bus.is) len

pub returns-else-not-fits-clause-is : goal.returns-else-not-fits-clause-is
returns-else-not-fits-clause-is c starts past stands len =
    let same = ap entry_of c.in-Link.is in
    let few = subst IsOfChip same c.requires.chip in
    link_is starts past c.args.place c.in-Link.sn (link_entry c.in-Link.what) _ true same few
    (sym (c.fits_agrees.ensures starts c.args.chip.now past c.in-Link.sn (link_entry c.in-Link.what) few stands) ∙ sym c.fits.ensures ∙ c.if-not-fits.false) len

pub returns-else-not-fits-clause-goes_on : goal.returns-else-not-fits-clause-goes_on
returns-else-not-fits-clause-goes_on c none starts past stands = (
  subst (λ (x : Entry). Stands starts c.link.new.self (x ∷ past)) (sym (ap entry_of c.in-Link.is)) (c.link.ensures.stands starts past stands),
  c.link.ensures.unstopped,
)

pub returns-in-Rest-clause-goes_on : goal.returns-in-Rest-clause-goes_on
returns-in-Rest-clause-goes_on c none starts past stands =
    (subst (λ (x : Entry). Stands starts c.args.chip.now (x ∷ past)) (sym (ap entry_of c.in-Rest.is)) (c.rest_stands.ensures starts c.args.chip.now past stands), c.requires.running)
