use Rattle.std.proofs.Common.{get_or, arith}
use Rattle.ring_mem.proofs.Takes.{size_most}
use Rattle.ring_mem.proofs.rings.Rings.taken.Goals as goal

pub overflow_cast-k : goal.overflow_cast-k
overflow_cast-k c = let r = c.args.self.now.tx in
    let most = size_most (get_or r.layout.sizes c.args.sn 0) (get_or r.flights c.args.sn 0) (r.layout.sized c.args.sn) (r.fits c.args.sn) in
    omega (arith, most, c.requires.few)
