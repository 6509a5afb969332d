use Rattle.std.proofs.Common.{◌+◌, ◌∷◌, refl, sym, ap, ap₂, ◌∙◌}
use Rattle.chip_sheet.specs.Past.{Past, entry_of, link_entry}
use Rattle.chip_sheet.specs.declared.event.Entry.{Entry}
use Rattle.chip_hist.specs.declared.limits.TheConstants.{MOST_EVENTS, MARGIN}
use Rattle.chip_hist.specs.Log.{Log}
use Rattle.chip_hist.proofs.Places.{few_made}
use Rattle.chip_hist.proofs.Pushes.{rested, bus_pushed, link_pushed}
use Rattle.chip_hist.proofs.history.History.push.Goals as goal

pub invariant_of-self : goal.invariant_of-self
invariant_of-self c =
    let h = c.self.inside in
    let few = few_made c.args.self.now.past h.bytes.items h.cells.items h.len (MOST_EVENTS + MARGIN) (ap (λ (l : Log). l.past) c.self.view_is) c.requires.short in
    (bus_pushed h.bytes.items h.cells.items c.push_reserved.new.self.items h.len h.weight h.limit c.in-Bus.event c.in-Bus.answer c.self.invariant few c.push_reserved.ensures.items).sound

pub returns-in-Bus-clause-past : goal.returns-in-Bus-clause-past
returns-in-Bus-clause-past c =
    let h = c.self.inside in
    let few = few_made c.args.self.now.past h.bytes.items h.cells.items h.len (MOST_EVENTS + MARGIN) (ap (λ (l : Log). l.past) c.self.view_is) c.requires.short in
    (bus_pushed h.bytes.items h.cells.items c.push_reserved.new.self.items h.len h.weight h.limit c.in-Bus.event c.in-Bus.answer c.self.invariant few c.push_reserved.ensures.items).is
    ∙ ap₂ (λ (e : Entry) (l : Past). e ∷ l) (ap entry_of (sym c.in-Bus.is)) (ap (λ (l : Log). l.past) c.self.view_is)

pub invariant_of-self-in-Link : goal.invariant_of-self-in-Link
invariant_of-self-in-Link c =
    let h = c.self.inside in
    let few = few_made c.args.self.now.past h.bytes.items h.cells.items h.len (MOST_EVENTS + MARGIN) (ap (λ (l : Log). l.past) c.self.view_is) c.requires.short in
    (link_pushed h.bytes.items c.data_of-data.result.now c.append.new.bytes.items h.cells.items c.push_reserved-in-Link.new.self.items h.len h.weight h.limit c.in-Link.sn c.len-from.result c.units.result (link_entry c.in-Link.what) c.link_kept.result
    c.self.invariant few c.data_of-data.ensures c.append.ensures.items (c.len-from.ensures ∙ h.bytes.ok.0) c.link_kept.ensures c.push_reserved-in-Link.ensures.items c.units.ensures).sound

pub returns-in-Link-clause-past : goal.returns-in-Link-clause-past
returns-in-Link-clause-past c =
    let h = c.self.inside in
    let few = few_made c.args.self.now.past h.bytes.items h.cells.items h.len (MOST_EVENTS + MARGIN) (ap (λ (l : Log). l.past) c.self.view_is) c.requires.short in
    (link_pushed h.bytes.items c.data_of-data.result.now c.append.new.bytes.items h.cells.items c.push_reserved-in-Link.new.self.items h.len h.weight h.limit c.in-Link.sn c.len-from.result c.units.result (link_entry c.in-Link.what) c.link_kept.result
    c.self.invariant few c.data_of-data.ensures c.append.ensures.items (c.len-from.ensures ∙ h.bytes.ok.0) c.link_kept.ensures c.push_reserved-in-Link.ensures.items c.units.ensures).is
    ∙ ap₂ (λ (e : Entry) (l : Past). e ∷ l) (ap entry_of (sym c.in-Link.is)) (ap (λ (l : Log). l.past) c.self.view_is)

pub invariant_of-self-in-Rest : goal.invariant_of-self-in-Rest
invariant_of-self-in-Rest c =
    let h = c.self.inside in
    let few = few_made c.args.self.now.past h.bytes.items h.cells.items h.len (MOST_EVENTS + MARGIN) (ap (λ (l : Log). l.past) c.self.view_is) c.requires.short in
    (rested h.bytes.items h.cells.items h.len (h.len + 1) h.weight h.limit c.self.invariant few refl).sound

pub returns-in-Rest-clause-past : goal.returns-in-Rest-clause-past
returns-in-Rest-clause-past c =
    let h = c.self.inside in
    let few = few_made c.args.self.now.past h.bytes.items h.cells.items h.len (MOST_EVENTS + MARGIN) (ap (λ (l : Log). l.past) c.self.view_is) c.requires.short in
    (rested h.bytes.items h.cells.items h.len (h.len + 1) h.weight h.limit c.self.invariant few refl).is
    ∙ ap₂ (λ (e : Entry) (l : Past). e ∷ l) (ap entry_of (sym c.in-Rest.is)) (ap (λ (l : Log). l.past) c.self.view_is)
