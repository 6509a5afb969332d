use Rattle.std.proofs.Common.{◌+◌, get_or, ap}
use Rattle.ring_mem.proofs.Apart.{place_within}
use Rattle.ring_mem.proofs.Masks.{mask_is}
use Rattle.ring_mem.proofs.layout.Layout.place.Goals as goal

pub returns-clause-value : goal.returns-clause-value
returns-clause-value c = let l = c.args.self.now in ap (λ k. get_or l.starts c.args.sn 0 + k) (mask_is (get_or l.sizes c.args.sn 0) c.args.at (l.sized c.args.sn) c.requires.some)

pub returns-clause-within : goal.returns-clause-within
returns-clause-within c = let l = c.args.self.now in
    rw (mask_is (get_or l.sizes c.args.sn 0) c.args.at (l.sized c.args.sn) c.requires.some) (place_within l c.args.sn c.args.at c.requires.sn c.requires.some)
