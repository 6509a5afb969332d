-- One tree and then another, each of which a cut ends all at once.
use Rattle.std.proofs.Common.{◌≡◌, Bool, true, false, if◌then◌else◌}
use Rattle.avr_core.specs.Ask.{Ask, Give, Call}
use Rattle.avr_core.specs.Cuts.{EndsCut, by_cut, CutsOnly}
use Rattle.avr_space.specs.Through.{followed}

-- What follows a result, by whether it was cut off.
abbrev pub GoesOn : {C : Type 0} {A : C → Type 0} {R S : Type 0} → ((c : C) → A c → Bool) → (R → Bool) → (S → Bool) → (R → Ask C A S) → Type 0
GoesOn {R = R} over first second next =
    (r : R) → by_cut (first r) (EndsCut second (next r)) (CutsOnly over second (next r))

goes-uncut : {C : Type 0} {A : C → Type 0} {S : Type 0} (over : (c : C) → A c → Bool) (second : S → Bool) (b : Bool) (tree : Ask C A S)
    → b ≡ false → by_cut b (EndsCut second tree) (CutsOnly over second tree) → CutsOnly over second tree
goes-uncut over second true tree e it = absurd (cc)
goes-uncut over second false tree e it = it

goes-cut : {C : Type 0} {A : C → Type 0} {S : Type 0} (over : (c : C) → A c → Bool) (second : S → Bool) (b : Bool) (tree : Ask C A S)
    → b ≡ true → by_cut b (EndsCut second tree) (CutsOnly over second tree) → EndsCut second tree
goes-cut over second true tree e it = it
goes-cut over second false tree e it = absurd (cc)

ends-followed : {C : Type 0} {A : C → Type 0} {R S : Type 0} (over : (c : C) → A c → Bool) (first : R → Bool) (second : S → Bool)
    (tree : Ask C A R) (next : R → Ask C A S) → EndsCut first tree → GoesOn over first second next → EndsCut second (followed tree next)
ends-followed over first second (Give r) next ends goes = goes-cut over second (first r) (next r) ends (goes r)
ends-followed over first second (Call c go) next ends goes = absurd ends

followed-by : {C : Type 0} {A : C → Type 0} {R S : Type 0} (over : (c : C) → A c → Bool) (first : R → Bool) (second : S → Bool)
    (b : Bool) (tree : Ask C A R) (next : R → Ask C A S) → by_cut b (EndsCut first tree) (CutsOnly over first tree)
    → GoesOn over first second next → (CutsOnly over first tree → CutsOnly over second (followed tree next))
    → by_cut b (EndsCut second (followed tree next)) (CutsOnly over second (followed tree next))
followed-by over first second true tree next it goes rest = ends-followed over first second tree next it goes
followed-by over first second false tree next it goes rest = rest it

-- One tree and then another.
pub cuts-followed : {C : Type 0} {A : C → Type 0} {R S : Type 0} (over : (c : C) → A c → Bool) (first : R → Bool) (second : S → Bool)
    (tree : Ask C A R) (next : R → Ask C A S) → CutsOnly over first tree → GoesOn over first second next → CutsOnly over second (followed tree next)
cuts-followed over first second (Give r) next cuts goes = goes-uncut over second (first r) (next r) cuts (goes r)
cuts-followed over first second (Call c go) next cuts goes = λ a.
    followed-by over first second (over c a) (go a) next (cuts a) goes (λ it. cuts-followed over first second (go a) next it goes)

pub either : {C : Type 0} {A : C → Type 0} {R : Type 0} (over : (c : C) → A c → Bool) (cut : R → Bool) (b : Bool) (x y : Ask C A R)
    → CutsOnly over cut x → CutsOnly over cut y → CutsOnly over cut (if b then x else y)
either over cut true x y first second = first
either over cut false x y first second = second
