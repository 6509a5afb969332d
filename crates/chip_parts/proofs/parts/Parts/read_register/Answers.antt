use Rattle.std.proofs.Common.{inl, inr, sym, ap, ◌∙◌, arith}
use Rattle.std.proofs.lemmas.Bool.{cases_lt}
use Rattle.chip_sheet.specs.Life as sheet
use Rattle.chip_sheet.specs.Buffers.{sending, receiving}
use Rattle.chip_sheet.specs.SocketBlock.{socket_register}
use Rattle.chip_steps.proofs.WindowSteps.{shows_sending, shows_receiving}
use Rattle.chip_parts.proofs.Reading.{read_some, read_none, status_at}
use Rattle.chip_parts.proofs.parts.Parts.read_register.Goals as goal

pub returns-in-Some : goal.returns-in-Some
returns-in-Some c = λ starts past holds.
    let f = socket_register starts past c.args.sn in
    read_some f c.args.addr c.in-Some.byte (sym c.in-Some.is ∙ c.read.ensures f (holds.shows.registers c.args.sn _ c.requires))

pub returns-then-addr-eq-STATUS : goal.returns-then-addr-eq-STATUS
returns-then-addr-eq-STATUS c = λ starts past holds.
    c.status.ensures
    ∙ ap (λ (l : sheet.Life). sheet.status_code l.status) (holds.lives c.args.sn _ c.requires).life
    ∙ status_at starts past c.args.sn c.args.addr c.if-addr-eq-STATUS.true

pub returns-else-addr-eq-STATUS : goal.returns-else-addr-eq-STATUS
returns-else-addr-eq-STATUS c = λ starts past holds.
    let sn = c.args.sn in
    let addr = c.args.addr in
    let f = socket_register starts past sn in
    let within = read_none f addr (sym c.in_default.is ∙ c.read.ensures f (holds.shows.registers sn _ c.requires)) c.if-addr-eq-STATUS.false in
    elim (cases_lt addr 0x26) [
      | inl below ↦ c.pointer.ensures.tx below (sending starts past sn) (holds.tx sn c.requires) ∙ sym (shows_sending starts past sn addr within.0 below)
      | inr above ↦ c.pointer.ensures.rx above (receiving starts past sn) (holds.rx sn c.requires) ∙ sym (shows_receiving starts past sn addr above (omega (arith, within.1)))
    ]
