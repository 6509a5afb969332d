-- What `quick` answers, or nothing where the words are a live run.
use Rattle.std.proofs.Common.{◌≡◌, ◌↔◌, ℕ, Bool, true, false, List, Option, None, Some, IfSome, refl, sym, ◌∙◌}
use Rattle.board_quick.specs.declared.end.QuickEnd.{QuickEnd}
use Rattle.board_quick.specs.Reads.{Counts}
use Rattle.board_quick.specs.Words.{Asked, Run, OnText, OnBoard, Gen, Help, asks_live}
use Rattle.board_quick.specs.Outcome.{IsUntouched, Reports, ReportsQuick}

-- what is left is of words that are no live run
pub reports_not_live : (files : Option (List ℕ → Option (List ℕ))) (before after : Counts) (form : Option Asked) (r : QuickEnd) (old new : Option (List ℕ)) (faults faults' : ℕ)
    → Reports files before after form r old new faults faults' → asks_live form ≡ false
reports_not_live files before after None r old new faults faults' it = refl
reports_not_live files before after (Some (Run image board)) r old new faults faults' it = absurd it
reports_not_live files before after (Some Help) r old new faults faults' it = refl
reports_not_live files before after (Some (Gen number)) r old new faults faults' it = refl
reports_not_live files before after (Some (OnText what name)) r old new faults faults' it = refl
reports_not_live files before after (Some (OnBoard what image board)) r old new faults faults' it = refl

pub answers_live : (files : Option (List ℕ → Option (List ℕ))) (before after : Counts) (form : Option Asked) (result : Option QuickEnd) (old new : Option (List ℕ)) (faults faults' : ℕ)
    → ReportsQuick files before after form result old new faults faults' → (result ≡ None) ↔ (asks_live form ≡ true)
answers_live files before after form None old new faults faults' it = (λ none. it.0, λ live. refl)
answers_live files before after form (Some r) old new faults faults' it =
    (λ none. cc, λ live. cc (sym (reports_not_live files before after form r old new faults faults' it) ∙ live))

pub answers_untouched : (files : Option (List ℕ → Option (List ℕ))) (before after : Counts) (form : Option Asked) (result : Option QuickEnd) (old new : Option (List ℕ)) (faults faults' : ℕ)
    → ReportsQuick files before after form result old new faults faults' → result ≡ None → IsUntouched before after old new faults faults'
answers_untouched files before after form None old new faults faults' it none = it.1
answers_untouched files before after form (Some r) old new faults faults' it none = cc

-- what holds of all that the words may leave holds of what is left
pub answers_each : (P : QuickEnd → Type 0) (files : Option (List ℕ → Option (List ℕ))) (before after : Counts) (form : Option Asked) (result : Option QuickEnd) (old new : Option (List ℕ)) (faults faults' : ℕ)
    → ((r : QuickEnd) → Reports files before after form r old new faults faults' → P r) → ReportsQuick files before after form result old new faults faults' → IfSome result P
answers_each P files before after form None old new faults faults' each it = tt
answers_each P files before after form (Some r) old new faults faults' each it = each r it
