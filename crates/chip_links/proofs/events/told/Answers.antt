use Rattle.std.proofs.Common.{refl, sym, ap, ◌∙◌}
use Rattle.chip_sheet.specs.Past.{link_entry}
use Rattle.chip_sheet.specs.Life as sheet
use Rattle.chip_sheet.specs.Life.{happening}
use Rattle.chip_sheet.specs.Streams.{is_open}
use Rattle.chip_links.specs.Noting.{life_bits}
use Rattle.chip_links.proofs.Raising.{told_raises}
use Rattle.chip_links.proofs.Assembly.{kept}
use Rattle.chip_links.proofs.events.told.Goals as goal

pub returns : goal.returns
returns c = λ starts past held.
    let sn = c.args.sn in
    let below = c.requires.sn in
    let what = link_entry c.args.e.now in
    let at = c.state.ensures ∙ ap (λ (l : sheet.Life). l.status) (held.lives sn _ below).life in
    let raised = c.life_bits-bits.ensures ∙ ap (life_bits (happening what)) at ∙ sym (told_raises starts past sn what c.requires.told) in
    let noted = c.note.ensures.notes starts past what (record { happening = refl; peer = refl }) held.shows (λ other. held.lives sn other below) raised in
    let live = c.is_open-live.ensures ∙ ap (λ (l : sheet.Life). is_open l.status) (noted.life _).life in
    kept starts past what sn c.args.parts.now c.note.new.parts c.keep.new.rings c.is_open-live.result below held c.requires.told noted c.note.ensures.same live
    c.keep.ensures.tx c.keep.ensures.rx c.keep.ensures.others c.keep.ensures.rx_others c.keep.ensures.sizes.0 c.keep.ensures.sizes.1
