-- An image and a board that were loaded or not, and what commands leave by it.
use Rattle.std.proofs.Common.{◌≡◌, ◌⊎◌, ℕ, List, Option, Result, Ok, Err, inl, inr, refl, sym, ap, ◌∙◌, subst}
use Rattle.board_file.specs.Boards.{Setup}
use Rattle.board_quick.specs.declared.end.QuickEnd.{QuickEnd}
use Rattle.board_quick.specs.declared.loading.LoadError.{LoadError}
use Rattle.board_quick.specs.declared.loading.LoadError.TheVariants.{Refused, NoMemory}
use Rattle.board_quick.specs.declared.words.BoardCommand.{BoardCommand}
use Rattle.board_quick.specs.Loads.{both_of, Gives, Loads}
use Rattle.board_quick.specs.Outcome.{refused, Ran, RanBoard, RanBoth, RanNothing, RanUnloaded, ReportsBoard}
use Rattle.board_quick.specs.Reads.{Counts}
use Rattle.board_quick.proofs.Shown.{none_ran, none_ran_both}

-- memory ran out before anything happened: also a refusal, or a command on an image and a board, may end so
pub nothing_refused : (error : LoadError) (r : QuickEnd) (old new : Option (List ℕ)) (faults faults' : ℕ) → RanNothing r old new faults faults' → RanUnloaded error r old new faults faults'
nothing_refused (Refused refusal) r old new faults faults' it = rw (it.unwritten, it.still) (none_ran (refused refusal) r old faults it.end it.past it.script)
nothing_refused NoMemory r old new faults faults' it = it

nothing_board : (what : BoardCommand) (loaded : Result (List ℕ × Setup) LoadError) (r : QuickEnd) (old new : Option (List ℕ)) (faults faults' : ℕ) → RanNothing r old new faults faults'
    → RanBoard what loaded r old new faults faults'
nothing_board what (Ok both) r old new faults faults' it = rw (it.unwritten, it.still) (none_ran_both what both.0 both.1 r old faults it.end it.past it.script)
nothing_board what (Err error) r old new faults faults' it = nothing_refused error r old new faults faults' it

pub loaded_is : {A : Type 0} (what result : Result A LoadError) (both : A) → Gives what result → result ≡ Ok both → what ≡ Ok both
loaded_is what result both (inl same) is = sym same ∙ is
loaded_is what result both (inr none) is = cc (sym none ∙ is)

unloaded_board : (what : BoardCommand) (loaded result : Result (List ℕ × Setup) LoadError) (error : LoadError) (r : QuickEnd) (old new : Option (List ℕ)) (faults faults' : ℕ) → Gives loaded result
    → result ≡ Err error → RanUnloaded error r old new faults faults' → RanBoard what loaded r old new faults faults'
unloaded_board what loaded result error r old new faults faults' (inl same) is ran =
    subst (λ (l : Result (List ℕ × Setup) LoadError). RanBoard what l r old new faults faults') (sym is ∙ same) ran
unloaded_board what loaded result (Refused refusal) r old new faults faults' (inr none) is ran = cc (sym none ∙ is)
unloaded_board what loaded result NoMemory r old new faults faults' (inr none) is ran = nothing_board what loaded r old new faults faults' ran

-- a command on an image and a board that were loaded
pub reports_both : (files : Option (List ℕ → Option (List ℕ))) (before after : Counts) (what : BoardCommand) (image board : List ℕ) (result : Result (List ℕ × Setup) LoadError) (both : List ℕ × Setup)
    → (r : QuickEnd) (old new : Option (List ℕ)) (faults faults' : ℕ) → Loads files before after image board result → result ≡ Ok both → RanBoth what both.0 both.1 r old new faults faults'
    → ReportsBoard files before after what image board r old new faults faults'
reports_both files before after what image board result both r old new faults faults' it is ran = record {
  first = it.first;
  second = it.second;
  reads = it.reads;
  ran = subst (λ (l : Result (List ℕ × Setup) LoadError). RanBoard what l r old new faults faults') (sym (loaded_is _ result both it.gives is)) ran;
}

-- a command whose image and board were not loaded
pub reports_unloaded : (files : Option (List ℕ → Option (List ℕ))) (before after : Counts) (what : BoardCommand) (image board : List ℕ) (result : Result (List ℕ × Setup) LoadError) (error : LoadError)
    → (r : QuickEnd) (old new : Option (List ℕ)) (faults faults' : ℕ) → Loads files before after image board result → result ≡ Err error → RanUnloaded error r old new faults faults'
    → ReportsBoard files before after what image board r old new faults faults'
reports_unloaded files before after what image board result error r old new faults faults' it is ran = record {
  first = it.first;
  second = it.second;
  reads = it.reads;
  ran = unloaded_board what _ result error r old new faults faults' it.gives is ran;
}
