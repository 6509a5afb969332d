use Rattle.std.proofs.Common.{◌≡◌, true, false, ◌&&◌, ltb, sym, ap, ◌∙◌}
use Rattle.chip_sheet.specs.Life as sheet
use Rattle.chip_sheet.specs.Life.{status, is_udp}
use Rattle.chip_sheet.specs.Windows.{flight}
use Rattle.chip_sheet.specs.Buffers.{sending}
use Rattle.chip_parts.proofs.parts.Parts.is_busy.Goals as goal

pub returns-then-is_udp : goal.returns-then-is_udp
returns-then-is_udp c = λ starts past held.
    let sn = c.args.sn in
    let udp : true ≡ is_udp (status past sn) = sym c.if-is_udp.true ∙ c.is_udp.ensures ∙ ap (λ (l : sheet.Life). is_udp l.status) (held.lives sn _ c.requires).life in
    λ i. udp i && ltb 0 (c.flight.ensures.stands (sending starts past sn) (held.tx sn c.requires) i)

pub returns-else-is_udp : goal.returns-else-is_udp
returns-else-is_udp c = λ starts past held.
    let sn = c.args.sn in
    let udp : false ≡ is_udp (status past sn) = sym c.if-is_udp.false ∙ c.is_udp.ensures ∙ ap (λ (l : sheet.Life). is_udp l.status) (held.lives sn _ c.requires).life in
    c.if-is_udp.false ∙ (λ i. udp i && ltb 0 (flight starts past sn))
