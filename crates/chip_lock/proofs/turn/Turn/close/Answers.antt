use Rattle.chip_lock.proofs.Closing.{closes_passes}
use Rattle.chip_lock.proofs.turn.Turn.close.Goals as goal

pub returns : goal.returns
returns g c =
    closes_passes c.a.inside.seat.table_id c.b.inside.seat.table_id c.a.inside.seat.me.0 c.b.inside.seat.me.0 c.gather.result c.args.a c.args.b c.into_shared.result c.a.view_is c.b.view_is
    c.into_shared.ensures.value c.gather.ensures c.into_shared.ensures.leaves
