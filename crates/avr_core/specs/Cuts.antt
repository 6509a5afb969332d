-- Trees in which a call that the world below cuts off ends all at once, and nothing else does.
use Rattle.std.specs.Prelude.{◌≡◌, Bool, true, false, Result, Ok, Err}
use Rattle.avr_core.specs.Ask.{Ask, Give, Call}
use Rattle.avr_core.specs.Calls.{DataCall, Read, Write, WriteBit, AnswerTo}
use Rattle.avr_core.specs.Steps.{Asked, Stepped}
use Rattle.avr_core.specs.declared.bus.DataEnd.{DataEnd}
use Rattle.avr_core.specs.declared.bus.DataEnd.TheVariants as ends
use Rattle.avr_core.specs.declared.went.Went.{Went}
use Rattle.avr_core.specs.declared.went.Went.TheVariants as wents

-- The tree ends here, with a result that was cut off.
abbrev pub EndsCut : {C : Type 0} {A : C → Type 0} {R : Type 0} → (R → Bool) → Ask C A R → Type 0
EndsCut cut (Give r) = cut r ≡ true
EndsCut cut (Call c go) = ⊥

-- By whether an answer cuts off.
abbrev pub by_cut : Bool → Type 0 → Type 0 → Type 0
by_cut true ends goes = ends
by_cut false ends goes = goes

-- A result is cut off exactly behind an answer that cuts off, and no call follows such an answer.
abbrev pub CutsOnly : {C : Type 0} {A : C → Type 0} {R : Type 0} → ((c : C) → A c → Bool) → (R → Bool) → Ask C A R → Type 0
CutsOnly over cut (Give r) = cut r ≡ false
CutsOnly {A = A} over cut (Call c go) = (a : A c) → by_cut (over c a) (EndsCut cut (go a)) (CutsOnly over cut (go a))

-- An answer that says that the bus is over.
abbrev pub is_data_over : {T : Type 0} → Result T DataEnd → Bool
is_data_over (Ok v) = false
is_data_over (Err ends.BusOver) = true
is_data_over (Err (ends.Stop stop)) = false

abbrev pub data_over : (c : DataCall) → AnswerTo c → Bool
data_over (Read at) a = is_data_over a
data_over (Write at v) a = is_data_over a
data_over (WriteBit io bit set) a = is_data_over a

-- A step that ended with the bus over.
abbrev pub went_over : Went → Bool
went_over (wents.Ran cycles) = false
went_over wents.Break = false
went_over wents.Sleep = false
went_over wents.BusOver = true
went_over (wents.Stop stop) = false

abbrev pub step_over : Stepped → Bool
step_over s = went_over s.went

-- A step ends with the bus over exactly behind an answer that says so, and asks nothing more behind it.
abbrev pub OverOnlyAsSaid : Asked → Type 0
OverOnlyAsSaid tree = CutsOnly data_over step_over tree
