use Rattle.std.proofs.Common.{Bool, cond, refl, sym, ap, ◌∙◌, subst}
use Rattle.chip_sheet.specs.declared.event.LinkEntry.TheVariants.{Took}
use Rattle.chip_sheet.specs.Sending.{Sending}
use Rattle.chip_sheet.specs.Buffers.{sending}
use Rattle.chip_steps.proofs.SendingSteps as sends
use Rattle.ring_mem.specs.Buffers.{TxHolds}
use Rattle.chip_links.proofs.Raising.{took_raises}
use Rattle.chip_links.proofs.Fitting.{carried_open}
use Rattle.chip_links.proofs.Directions.{took_receives, passes_is}
use Rattle.chip_links.proofs.Assembly.{moved, sent_alone}
use Rattle.chip_links.proofs.events.took.Goals as goal

pub returns : goal.returns
returns c = λ starts past legal held may.
    let sn = c.args.sn in
    let below = c.requires.sn in
    let count = c.args.count in
    let what = Took count in
    let old = c.args.parts.now in
    let s = sending starts past sn in
    let new = c.taken.new.self in
    let calls = c.taken.ensures in
    let live = carried_open starts past sn what refl may in
    let passed = calls.passed s (held.tx sn below) ∙ passes_is starts past sn count legal live in
    let raised = c.send_ok-bits.ensures ∙ ap (λ (b : Bool). cond b 16 0) passed ∙ sym (took_raises starts past sn count) in
    moved starts past what sn old c.note.new.parts new below held
    (sent_alone starts past what sn old.rings new
    (subst (λ (t : Sending). TxHolds new sn t) (sym (sends.took starts past sn count)) (calls.stands s (held.tx sn below)))
    calls.others calls.sizes calls.rx (took_receives starts past sn count))
    (c.note.ensures.notes starts past what (record { happening = refl; peer = refl }) (record { registers = held.shows.registers; sir = held.shows.sir }) (λ other. held.lives sn other below) raised)
    c.note.ensures.same
