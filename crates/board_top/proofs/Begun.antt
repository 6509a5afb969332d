-- What a `run` leaves whose image and board were loaded or not.
use Rattle.std.proofs.Common.{◌≡◌, ◌⊎◌, ℕ, List, Option, Result, Ok, Err, inl, inr, refl, sym, ap, ◌∙◌, subst}
use Rattle.link_trait.specs.Shown.{Shown}
use Rattle.board_file.specs.Boards.{Setup}
use Rattle.board_quick.specs.declared.end.QuickEnd.{QuickEnd}
use Rattle.board_top.specs.declared.end.TopEnd.{TopEnd}
use Rattle.board_quick.specs.declared.loading.LoadError.{LoadError}
use Rattle.board_quick.specs.declared.loading.LoadError.TheVariants.{Refused, NoMemory}
use Rattle.board_quick.specs.Loads.{both_of, Gives, Loads}
use Rattle.board_quick.specs.Outcome.{RanNothing, RanUnloaded}
use Rattle.board_quick.specs.Reads.{Counts}
use Rattle.board_top.specs.Tops.{EndsUnloaded, IsBeside, RanLive, ReportsRun, RunsLoaded}
use Rattle.board_quick.proofs.Loaded.{loaded_is, nothing_refused}

-- a `run` whose image and board were loaded
pub reports_live : {L P : Type 0} (shown : L → Shown) (failed : P → ℕ) (files : Option (List ℕ → Option (List ℕ))) (before after : Counts) (image board : List ℕ) (result : Result (List ℕ × Setup) LoadError)
    → (both : List ℕ × Setup) (links : L) (poller : P) (r : TopEnd L P) (old new : Option (List ℕ)) (faults faults' : ℕ) → Loads files before after image board result → result ≡ Ok both
    → RanLive shown failed both.0 both.1 poller r old new faults faults' → ReportsRun shown failed files before after image board links poller r old new faults faults'
reports_live shown failed files before after image board result both links poller r old new faults faults' it is ran = record {
  first = it.first;
  second = it.second;
  reads = it.reads;
  ran = subst (λ (l : Result (List ℕ × Setup) LoadError). RunsLoaded shown failed l links poller r old new faults faults') (sym (loaded_is _ result both it.gives is)) (inl ran);
}

nothing_run : {L P : Type 0} (shown : L → Shown) (failed : P → ℕ) (loaded : Result (List ℕ × Setup) LoadError) (left : QuickEnd) (links : L) (poller : P) (r : TopEnd L P) (old new : Option (List ℕ))
    → (faults faults' : ℕ) → RanNothing left old new faults faults' → IsBeside left links poller r → RunsLoaded shown failed loaded links poller r old new faults faults'
nothing_run shown failed (Ok both) left links poller r old new faults faults' ran same = inr (record { left = left; ran = ran; beside = same })
nothing_run shown failed (Err error) left links poller r old new faults faults' ran same = record { left = left; ran = nothing_refused error left old new faults faults' ran; beside = same }

unloaded_run : {L P : Type 0} (shown : L → Shown) (failed : P → ℕ) (loaded result : Result (List ℕ × Setup) LoadError) (error : LoadError) (left : QuickEnd) (links : L) (poller : P) (r : TopEnd L P)
    → (old new : Option (List ℕ)) (faults faults' : ℕ) → Gives loaded result → result ≡ Err error → RanUnloaded error left old new faults faults' → IsBeside left links poller r
    → RunsLoaded shown failed loaded links poller r old new faults faults'
unloaded_run shown failed loaded result error left links poller r old new faults faults' (inl same) is ran kept =
    subst (λ (l : Result (List ℕ × Setup) LoadError). RunsLoaded shown failed l links poller r old new faults faults') (sym is ∙ same) (record { left = left; ran = ran; beside = kept })
unloaded_run shown failed loaded result (Refused refusal) left links poller r old new faults faults' (inr none) is ran kept = cc (sym none ∙ is)
unloaded_run shown failed loaded result NoMemory left links poller r old new faults faults' (inr none) is ran kept = nothing_run shown failed loaded left links poller r old new faults faults' ran kept

-- a `run` whose image and board were not loaded
pub reports_no_run : {L P : Type 0} (shown : L → Shown) (failed : P → ℕ) (files : Option (List ℕ → Option (List ℕ))) (before after : Counts) (image board : List ℕ) (result : Result (List ℕ × Setup) LoadError)
    → (error : LoadError) (left : QuickEnd) (links : L) (poller : P) (r : TopEnd L P) (old new : Option (List ℕ)) (faults faults' : ℕ) → Loads files before after image board result → result ≡ Err error
    → RanUnloaded error left old new faults faults' → IsBeside left links poller r → ReportsRun shown failed files before after image board links poller r old new faults faults'
reports_no_run shown failed files before after image board result error left links poller r old new faults faults' it is ran kept = record {
  first = it.first;
  second = it.second;
  reads = it.reads;
  ran = unloaded_run shown failed _ result error left links poller r old new faults faults' it.gives is ran kept;
}
