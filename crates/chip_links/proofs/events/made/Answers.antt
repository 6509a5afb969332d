use Rattle.std.proofs.Common.{refl, sym, ap, ◌∙◌}
use Rattle.chip_sheet.specs.Past.{link_entry}
use Rattle.chip_sheet.specs.Life as sheet
use Rattle.chip_sheet.specs.Life.{happening}
use Rattle.chip_links.specs.Noting.{life_bits}
use Rattle.chip_links.proofs.Raising.{made_raises}
use Rattle.chip_links.proofs.Assembly.{moved, begun}
use Rattle.chip_links.proofs.events.made.Goals as goal

pub returns : goal.returns
returns c = λ starts past legal held may.
    let sn = c.args.sn in
    let below = c.requires.sn in
    let what = link_entry c.args.e.now in
    let old = c.args.parts.now in
    let at = c.state.ensures ∙ ap (λ (l : sheet.Life). l.status) (held.lives sn _ below).life in
    let raised = c.life_bits-bits.ensures ∙ ap (life_bits (happening what)) at ∙ sym (made_raises starts past sn what c.requires.made) in
    let calls = c.begin.ensures in
    moved starts past what sn old c.note.new.parts c.begin.new.self below held
    (begun starts past what sn old.tx_start old.rx_start old.rings c.begin.new.self below legal may c.requires.made held.tx_start held.rx_start calls.tx calls.rx calls.others calls.rx_others calls.sizes.0 calls.sizes.1)
    (c.note.ensures.notes starts past what (record { happening = refl; peer = refl }) (record { registers = held.shows.registers; sir = held.shows.sir }) (λ other. held.lives sn other below) raised)
    c.note.ensures.same
