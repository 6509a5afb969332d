use Rattle.std.proofs.Common.{sym, ap, ◌∙◌, ◌∷◌, Some, None, arith}
use Rattle.atomic_table.specs.Table.{rest}
use Rattle.chip_lock.proofs.Leaving.{leaves_as}
use Rattle.chip_lock.proofs.turn.Turn.leave.Goals as goal

pub exchange-requires : goal.exchange-requires
exchange-requires g c =
    let has = c.requires.out.slot in
    (c.requires.table ∙ sym c.self.view_is, (None, has ∙ ap (λ l. (0, None) ∷ rest l) (sym has)))

pub fetch_add-requires : goal.fetch_add-requires
fetch_add-requires g c =
    let r = c.requires in
    let now = c.exchange.ensures.3 ∙ ap (λ l. (c.args.seat.now.me.0, (0, Some c.args.kept) ∷ rest l)) r.out.slot in
    (c.exchange.ensures.0 ∙ r.table ∙ sym c.self.view_is, omega (arith, c.self.invariant.0), leaves_as _ _ _ c.args.seat.now.me.0 _ c.args.kept now r.out.inside r.out.one r.may)
