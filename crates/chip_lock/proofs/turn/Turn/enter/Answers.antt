use Rattle.std.proofs.Common.{sym, ap, ◌∙◌, ◌∷◌, Some, arith}
use Rattle.atomic_table.specs.Table.{rest}
use Rattle.chip_lock.proofs.Drawing.{draws}
use Rattle.chip_lock.proofs.turn.Turn.enter.Goals as goal

pub fetch_add-ticket-requires : goal.fetch_add-ticket-requires
fetch_add-ticket-requires g c = (c.requires.table ∙ sym c.self.view_is, omega (arith, c.self.invariant.0), draws _ _ _ c.requires.rests.idle c.requires.rests.one)

pub exchange-requires : goal.exchange-requires
exchange-requires g c =
    let e = c.wait_for.ensures.entered in
    let drew = c.fetch_add-ticket.ensures in
    let has = ap (λ m. m.1) e.is ∙ ap (λ m. (0, Some e.kept) ∷ m.1) drew.2 ∙ ap (λ l. (0, Some e.kept) ∷ l) c.requires.rests.empty in
    (c.wait_for.ensures.seat.0 ∙ drew.0 ∙ c.requires.table ∙ sym c.self.view_is, (Some e.kept, has ∙ ap (λ l. (0, Some e.kept) ∷ rest l) (sym has)))
