use Rattle.std.proofs.Common.{◌≡◌, ◌+◌, true, cond, length, ◌++◌, refl, sym, ap, ◌∙◌, subst, length-append}
use Rattle.std.proofs.lemmas.Bool.{cond-true, le-leb}
use Rattle.chip_sheet.specs.declared.event.LinkEntry.TheVariants.{Datagram}
use Rattle.chip_sheet.specs.Past.{Past}
use Rattle.chip_sheet.specs.Life as sheet
use Rattle.chip_sheet.specs.Life.{status, is_udp}
use Rattle.chip_sheet.specs.Receiving.{Receiving, after_got}
use Rattle.chip_sheet.specs.Streams.{Starts, has_place, header}
use Rattle.chip_sheet.specs.Windows.{rx_free}
use Rattle.chip_sheet.specs.Buffers.{receiving}
use Rattle.chip_steps.proofs.ReceivingSteps as receives
use Rattle.ring_mem.specs.Buffers.{RxHolds}
use Rattle.chip_parts.specs.Holding.{Holds}
use Rattle.chip_links.proofs.Raising.{datagram_raises}
use Rattle.chip_links.proofs.Fitting.{carried_open, free_is, has_no_place}
use Rattle.chip_links.proofs.Directions.{datagram_sends, put_udp, Lost, lost_full, lost_elsewhere}
use Rattle.chip_links.proofs.Assembly.{came_in, lost}
use Rattle.chip_links.proofs.events.datagram.Goals as goal
use Rattle.chip_links.proofs.events.datagram.Goals.{else-is_udp-via-then-is_udp+else-len-free, else-is_udp-via-else-is_udp}

put-here : (c : goal.After-note) (starts : Starts) (past : Past) → Holds starts c.args.parts.now past
    → (is_udp (status past c.args.sn) ≡ true) × (has_place (length c.args.body.now) (rx_free starts past c.args.sn) ≡ true)
put-here c starts past held = (
  sym (c.is_udp.ensures ∙ ap (λ (l : sheet.Life). is_udp l.status) (held.lives c.args.sn _ c.requires).life) ∙ c.if-is_udp.true,
  ap (has_place (length c.args.body.now)) (sym (c.free.ensures.value ∙ free_is starts past c.args.parts.now c.args.sn c.requires held)) ∙ le-leb (8 + length c.args.body.now) c.free.result c.if-len-free.true,
)

pub returns-then-len-free-clause-holds : goal.returns-then-len-free-clause-holds
returns-then-len-free-clause-holds c = λ starts past legal held may.
    let sn = c.args.sn in
    let body = c.args.body.now in
    let what = Datagram c.args.from body in
    let here = put-here c starts past held in
    let at = status past sn in
    let free = rx_free starts past sn in
    let bytes = header c.args.from (length body) ++ body in
    let live = carried_open starts past sn what refl may in
    let received = receives.gets_datagram starts past sn c.args.from body legal live ∙ ap (after_got (receiving starts past sn)) (put_udp at free c.args.from body here.0 here.1) in
    let raised = sym (datagram_raises starts past sn c.args.from body ∙ cond-true (is_udp at) (cond (has_place (length body) free) 4 0) 0 here.0 ∙ cond-true (has_place (length body) free) 4 0 here.1) in
    let step = subst (λ h. (g : Receiving) → RxHolds c.args.parts.now.rings sn g → RxHolds c.put_datagram.new.self sn (after_got g (h ++ body))) c.header.ensures c.put_datagram.ensures.stands in
    came_in starts past what sn bytes c.args.parts.now c.note.new.parts c.put_datagram.new.self c.requires held received (datagram_sends starts past sn c.args.from body)
    step c.put_datagram.ensures.others c.put_datagram.ensures.sizes c.put_datagram.ensures.tx
    (c.note.ensures.notes starts past what (record { happening = refl; peer = refl }) (record { registers = held.shows.registers; sir = held.shows.sir }) (λ other. held.lives sn other c.requires) raised)
    c.note.ensures.same

pub returns-then-len-free-clause-came : goal.returns-then-len-free-clause-came
returns-then-len-free-clause-came c = λ starts past held.
    let here = put-here c starts past held in
    let body = c.args.body.now in
    sym (ap length (put_udp (status past c.args.sn) (rx_free starts past c.args.sn) c.args.from body here.0 here.1) ∙ length-append (header c.args.from (length body)) body)

lost-here : (c : goal.After-note-else-is_udp) (starts : Starts) (past : Past) → Holds starts c.args.parts.now past → Lost starts past c.args.sn c.args.from c.args.body.now
lost-here c starts past held =
    let udp = c.is_udp.ensures ∙ ap (λ (l : sheet.Life). is_udp l.status) (held.lives c.args.sn _ c.requires).life in
    elim c.else-is_udp.branch [
      | else-is_udp-via-then-is_udp+else-len-free w ↦
          lost_full starts past c.args.sn c.args.from c.args.body.now
          (ap (has_place (length c.args.body.now)) (sym (w.free.ensures.value ∙ free_is starts past c.args.parts.now c.args.sn c.requires held)) ∙ has_no_place (length c.args.body.now) w.free.result w.if-len-free.false)
      | else-is_udp-via-else-is_udp w ↦ lost_elsewhere starts past c.args.sn c.args.from c.args.body.now (sym udp ∙ w.if-is_udp.false)
    ]

pub returns-else-is_udp-clause-holds : goal.returns-else-is_udp-clause-holds
returns-else-is_udp-clause-holds c = λ starts past legal held may.
    let sn = c.args.sn in
    let from = c.args.from in
    let body = c.args.body.now in
    let what = Datagram from body in
    let here = lost-here c starts past held in
    let live = carried_open starts past sn what refl may in
    lost starts past what sn _ c.args.parts.now c.note-else-is_udp.new.parts c.requires held (receives.gets_datagram starts past sn from body legal live) here.put (datagram_sends starts past sn from body)
    (c.note-else-is_udp.ensures.notes starts past what (record { happening = refl; peer = refl }) held.shows (λ other. held.lives sn other c.requires)
    (sym (datagram_raises starts past sn from body ∙ here.raised)))
    c.note-else-is_udp.ensures.same

pub returns-else-is_udp-clause-came : goal.returns-else-is_udp-clause-came
returns-else-is_udp-clause-came c = λ starts past held. sym (ap length (lost-here c starts past held).put)
