-- What a run printed so far, and more behind it.
use Rattle.std.proofs.Common.{◌≡◌, ℕ, List, [], ◌∷◌, ◌++◌, Option, Some, refl, ap, ◌∙◌}
use Rattle.wz_base.proofs.Gathered.{appends_none, appends_then}
use Rattle.board_sim.specs.Playing.{Printed, Prints}
use Rattle.board_sim.specs.Report.{last_behind}

last_more : (last : Option ℕ) (xs ys : List ℕ) → last_behind (last_behind last xs) ys ≡ last_behind last (xs ++ ys)
last_more last [] ys = refl
last_more last (x ∷ xs) ys = last_more (Some x) xs ys

pub prints_none : (p : Printed) → Prints p [] p
prints_none p = record { wrote = appends_none p.written; last = refl }

pub prints_more : (old mid new : Printed) (xs ys : List ℕ) → Prints old xs mid → Prints mid ys new → Prints old (xs ++ ys) new
prints_more old mid new xs ys first second = record {
  wrote = appends_then old.written mid.written new.written xs ys first.wrote second.wrote;
  last = second.last ∙ ap (λ (last : Option ℕ). last_behind last ys) first.last ∙ last_more old.last xs ys;
}
