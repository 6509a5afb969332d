use Rattle.std.proofs.Common.{subst}
use Rattle.ring_mem.specs.RxHolds.{RxHolds}
use Rattle.ring_mem.proofs.Keeping.{got_more}
use Rattle.ring_mem.proofs.rings.Rings.put_datagram.Goals as goal

pub returns-clause-stands : goal.returns-clause-stands
returns-clause-stands c = λ g h. subst (λ t. RxHolds c.put-2.new.self c.args.sn t) (got_more g c.args.header.now c.args.body.now) (c.put-2.ensures.stands _ (c.put.ensures.stands g h))

pub returns-clause-others : goal.returns-clause-others
returns-clause-others c = λ n g below other h. c.put-2.ensures.others n g below other (c.put.ensures.others n g below other h)
