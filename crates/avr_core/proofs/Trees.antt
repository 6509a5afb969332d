-- What holds of every result of a tree holds of the result of a play.
use Rattle.std.proofs.Common.{sym, subst}
use Rattle.avr_core.specs.Ask.{Ask, Give, Call, Plays}
use Rattle.avr_core.specs.Trees.{All}

pub plays-all : {C : Type 0} {A : C → Type 0} {R B : Type 0} (P : R → Type 0) (did : B → (c : C) → A c → B → Type 0)
    (tree : Ask C A R) (before after : B) (r : R) → All P tree → Plays did before tree r after → P r
plays-all P did (Give x) before after r all play = subst P (sym play.0) all
plays-all P did (Call c go) before after r all play = plays-all P did (go play.0) play.1 after r (all play.0) play.3

-- What follows from it.
pub all-weaken : {C : Type 0} {A : C → Type 0} {R : Type 0} (P Q : R → Type 0) (tree : Ask C A R)
    → ((r : R) → P r → Q r) → All P tree → All Q tree
all-weaken P Q (Give r) weaken all = weaken r all
all-weaken P Q (Call c go) weaken all = λ a. all-weaken P Q (go a) weaken (all a)
