-- What holds of every result of one tree and then another.
use Rattle.avr_core.specs.Ask.{Ask, Give, Call}
use Rattle.avr_core.specs.Trees.{All}
use Rattle.avr_space.specs.Through.{followed}

pub all-followed : {C : Type 0} {A : C → Type 0} {R S : Type 0} (P : R → Type 0) (Q : S → Type 0)
    (tree : Ask C A R) (next : R → Ask C A S) → All P tree → ((r : R) → P r → All Q (next r)) → All Q (followed tree next)
all-followed P Q (Give r) next all step = step r all
all-followed P Q (Call c go) next all step = λ a. all-followed P Q (go a) next (all a) step
