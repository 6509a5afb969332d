use Rattle.std.proofs.Common.{length, take, refl, sym, ap, ◌∙◌}
use Rattle.std.proofs.lemmas.Bool.{cond-true, cond-false}
use Rattle.chip_sheet.specs.declared.event.LinkEntry.TheVariants.{Got}
use Rattle.chip_sheet.specs.Life as sheet
use Rattle.chip_sheet.specs.Life.{status}
use Rattle.chip_sheet.specs.Receiving.{after_got}
use Rattle.chip_sheet.specs.Streams.{is_established}
use Rattle.chip_sheet.specs.Windows.{rx_free}
use Rattle.chip_sheet.specs.Buffers.{receiving}
use Rattle.chip_steps.proofs.ReceivingSteps as receives
use Rattle.chip_links.proofs.Raising.{got_raises}
use Rattle.chip_links.proofs.Fitting.{carried_open}
use Rattle.chip_links.proofs.Directions.{got_sends, put_established, put_nothing}
use Rattle.chip_links.specs.Lent.{room_bytes}
use Rattle.chip_links.proofs.Offers as rooms
use Rattle.chip_links.proofs.Assembly.{came_in, lost}
use Rattle.chip_links.proofs.bytes.filled.Goals as goal

pub returns-then-is_established-clause-holds : goal.returns-then-is_established-clause-holds
returns-then-is_established-clause-holds c = λ starts past legal held may.
    let sn = c.args.sn in
    let below = c.requires.sn in
    let bytes = take c.args.k (room_bytes c.args.parts.now c.args.sn) in
    let what = Got bytes in
    let old = c.args.parts.now in
    let on = sym (c.is_established.ensures ∙ ap (λ (l : sheet.Life). is_established l.status) (held.lives sn _ below).life) ∙ c.if-is_established.true in
    let live = carried_open starts past sn what refl may in
    let received = receives.gets starts past sn bytes legal live ∙ ap (after_got (receiving starts past sn)) (put_established (status past sn) (rx_free starts past sn) bytes on) in
    let raised = sym (got_raises starts past sn bytes ∙ cond-true (is_established (status past sn)) 4 0 on) in
    came_in starts past what sn bytes old c.note.new.parts c.filled.new.self below held received (got_sends starts past sn bytes)
    c.filled.ensures.stands c.filled.ensures.others c.filled.ensures.sizes c.filled.ensures.tx
    (c.note.ensures.notes starts past what (record { happening = refl; peer = refl }) (record { registers = held.shows.registers; sir = held.shows.sir }) (λ other. held.lives sn other below) raised)
    c.note.ensures.same

pub returns-then-is_established-clause-came : goal.returns-then-is_established-clause-came
returns-then-is_established-clause-came c = λ starts past legal held may.
    let sn = c.args.sn in
    let on = sym (c.is_established.ensures ∙ ap (λ (l : sheet.Life). is_established l.status) (held.lives sn _ c.requires.sn).life) ∙ c.if-is_established.true in
    sym (rooms.length_of_room c.args.parts.now.rings.rx sn c.args.k c.requires.sn c.requires.few) ∙ sym (ap length (put_established (status past sn) (rx_free starts past sn) (take c.args.k (room_bytes c.args.parts.now c.args.sn)) on))

pub returns-else-is_established-clause-holds : goal.returns-else-is_established-clause-holds
returns-else-is_established-clause-holds c = λ starts past legal held may.
    let sn = c.args.sn in
    let below = c.requires.sn in
    let bytes = take c.args.k (room_bytes c.args.parts.now c.args.sn) in
    let what = Got bytes in
    let off = sym (c.is_established.ensures ∙ ap (λ (l : sheet.Life). is_established l.status) (held.lives sn _ below).life) ∙ c.if-is_established.false in
    let live = carried_open starts past sn what refl may in
    let raised = sym (got_raises starts past sn bytes ∙ cond-false (is_established (status past sn)) 4 0 off) in
    lost starts past what sn _ c.args.parts.now c.note-else-is_established.new.parts below held (receives.gets starts past sn bytes legal live)
    (put_nothing (status past sn) (rx_free starts past sn) bytes off) (got_sends starts past sn bytes)
    (c.note-else-is_established.ensures.notes starts past what (record { happening = refl; peer = refl }) held.shows (λ other. held.lives sn other below) raised)
    c.note-else-is_established.ensures.same

pub returns-else-is_established-clause-came : goal.returns-else-is_established-clause-came
returns-else-is_established-clause-came c = λ starts past legal held may.
    let sn = c.args.sn in
    let off = sym (c.is_established.ensures ∙ ap (λ (l : sheet.Life). is_established l.status) (held.lives sn _ c.requires.sn).life) ∙ c.if-is_established.false in
    sym (ap length (put_nothing (status past sn) (rx_free starts past sn) (take c.args.k (room_bytes c.args.parts.now c.args.sn)) off))
