-- What holds of every result of a tree.
use Rattle.avr_core.specs.Ask.{Ask, Give, Call}

-- Every result of a tree, whatever the answers.
abbrev pub All : {C : Type 0} {A : C → Type 0} {R : Type 0} → (R → Type 0) → Ask C A R → Type 0
All P (Give r) = P r
All {A = A} P (Call c go) = (a : A c) → All P (go a)
