use Rattle.ring_mem.proofs.Places as places
use Rattle.ring_mem.proofs.laws.same_place.Goals as goal

pub returns : goal.returns
returns c = λ size at known some. places.same_place size at known some
