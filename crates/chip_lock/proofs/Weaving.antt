-- The events of the bus in a history that two made.
use Rattle.std.proofs.Common.{◌≡◌, List, [], ◌∷◌, ◌++◌, length, map, Bool, true, false, not, refl, sym, ap, ◌∙◌, arith, length-append}
use Rattle.board_bus.specs.declared.event.BusEvent.{BusEvent}
use Rattle.board_bus.specs.declared.event.BusAnswer.{BusAnswer}
use Rattle.chip_sheet.specs.declared.event.Entry.{Entry}
use Rattle.chip_sheet.specs.declared.event.Entry.TheVariants.{Bus, Link, Rest}
use Rattle.chip_sheet.specs.Past.{Past, exchanges}
use Rattle.chip_lock.specs.Lists.{IsWoven, bare, picks}
use Rattle.chip_lock.specs.Passes.{exchanges_of}
use Rattle.chip_lock.specs.Rule.{Marked}
use Rattle.chip_lock.specs.Views.{Placed}

abbrev entries : List Placed → Past
entries mine = map (λ x. x.1) mine

-- The same entry behind pasts with the same events of the bus.
one_more : (e : Entry) (p q : Past) → exchanges p ≡ exchanges q → exchanges (e ∷ p) ≡ exchanges (e ∷ q)
one_more (Bus e a) p q same = ap (λ (l : List (BusEvent × BusAnswer)). l ++ (e, a) ∷ []) same
one_more (Link n what) p q same = same
one_more Rest p q same = same

-- An entry with which a past has no event of the bus.
record IsQuiet (e : Entry) (p : Past) : Type 0 where
  pub none_before : exchanges p ≡ []
  pub skips : (q : Past) → exchanges (e ∷ q) ≡ exchanges q

not_empty : {A : Type 0} (xs : List A) (x : A) → xs ++ x ∷ [] ≡ [] → ⊥
not_empty xs x none = omega (arith, ap length none, length-append xs (x ∷ []))

quiet : (e : Entry) (p : Past) → exchanges (e ∷ p) ≡ [] → IsQuiet e p
quiet (Bus e a) p none = absurd (not_empty (exchanges p) (e, a) none)
quiet (Link n what) p none = record { none_before = none; skips = λ q. refl }
quiet Rest p none = record { none_before = none; skips = λ q. refl }

woven_from : (who : Bool) (log : Marked) → exchanges_of (picks (not who) log) ≡ [] → exchanges (bare log) ≡ exchanges_of (picks who log)
woven_from who [] none = refl
woven_from true ((true, e) ∷ log) none = one_more e (bare log) (entries (picks true log)) (woven_from true log none)
woven_from true ((false, e) ∷ log) none = let q = quiet e (entries (picks false log)) none in q.skips (bare log) ∙ woven_from true log q.none_before
woven_from false ((true, e) ∷ log) none = let q = quiet e (entries (picks true log)) none in q.skips (bare log) ∙ woven_from false log q.none_before
woven_from false ((false, e) ∷ log) none = one_more e (bare log) (entries (picks false log)) (woven_from false log none)

-- Where the second made none, those of the history are the first one's.
pub woven_exchanges : (a b : List Placed) (past : Past) → IsWoven a b past → exchanges_of b ≡ [] → exchanges past ≡ exchanges_of a
woven_exchanges a b past w none = ap exchanges (sym w.all) ∙ woven_from w.who w.log (ap exchanges_of (sym w.theirs) ∙ none) ∙ ap exchanges_of (sym w.mine)
