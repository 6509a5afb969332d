-- The rest between two steps, and closing, as the schedule makes them.
use Rattle.std.proofs.Common.{◌≡◌, ◌≤◌, ◌<◌, ℕ, true, false, Option, None, Some, Result, refl, sym, ap, ◌∙◌, subst, arith}
use Rattle.std.proofs.lemmas.Bool.{lt-leb, le-leb}
use Rattle.link_script.specs.declared.script_links.ScriptLinks.{ScriptLinks}
use Rattle.chip_shared.specs.State.{State}
use Rattle.chip_shared.specs.Closing.{Closes}
use Rattle.chip_shared.specs.Sweeping.{Sweeps}
use Rattle.chip_shared.specs.declared.shared.StepEnd.{StepEnd}
use Rattle.chip_shared.specs.declared.closing.Closing.{Closing}
use Rattle.board_sim.specs.Boards.{Board}
use Rattle.board_sim.specs.Closes.{closed}
use Rattle.board_sim.specs.Seats.{Seat, ClosesTo, IsCause, IsSeat, LeadsBy, seen, wanted_of}
use Rattle.board_sim.specs.Sweeps.{Swept, is_sweep_due, recounted, rested, swept_from, whole}
use Rattle.board_sim.specs.Views.{board_of}
use Rattle.board_sim.specs.declared.peer.Unanswered.{Unanswered}
use Rattle.board_sim.proofs.Asked.{seat}
use Rattle.board_sim.proofs.Closed.{closing_is}
use Rattle.board_sim.proofs.LinkSteps.{ByScript}
use Rattle.board_sim.proofs.Longer.{closing_adds}
use Rattle.board_sim.proofs.Swept.{sweep_is}

-- Whether a sweep is due, by the counts.
pub not_due : (b : Board) → b.bytes < 8 → b.steps < 1024 → is_sweep_due b ≡ false
not_due b bytes steps = rw (lt-leb 8 b.bytes bytes, lt-leb 1024 b.steps steps) refl

pub due_by_bytes : (b : Board) → 8 ≤ b.bytes → is_sweep_due b ≡ true
due_by_bytes b many = rw (le-leb 8 b.bytes many) refl

pub due_by_steps : (b : Board) → b.bytes < 8 → 1024 ≤ b.steps → is_sweep_due b ≡ true
due_by_steps b few many = rw (lt-leb 8 b.bytes few, le-leb 1024 b.steps many) refl

pub rested_not : (b : Board) → is_sweep_due b ≡ false → rested b ≡ whole b
unfolding rested
rested_not b none = rw none refl

rested_so : (b : Board) → is_sweep_due b ≡ true → rested b ≡ swept_from 16 (recounted b) (Some 0)
unfolding rested
rested_so b due = rw due refl

-- Where none is due, nothing happens.
pub rests_not : (now : State ScriptLinks) (refused : Option Unanswered) (bytes steps : ℕ) (s : Seat) → seat now refused bytes steps ≡ s → bytes < 8 → steps < 1024
    → rested (seen s) ≡ whole (seen s)
rests_not now refused bytes steps s view few short =
    subst (λ (t : Seat). rested (seen t) ≡ whole (seen t)) view
    (rested_not (seen (seat now refused bytes steps)) (not_due (seen (seat now refused bytes steps)) few short))

-- No stop was answered where no event was refused.
unstopped : (now : State ScriptLinks) (refused : Option Unanswered) (bytes steps : ℕ) (s : Seat) → seat now refused bytes steps ≡ s → s.refused ≡ None → IsCause refused now → now.stopped ≡ None
unstopped now refused bytes steps s view none cause =
    subst (λ (r : Option Unanswered). IsCause r now) (ap (λ (t : Seat). t.refused) view ∙ none) cause

sits : (new : State ScriptLinks) (refused : Option Unanswered) → refused ≡ None → new.stopped ≡ None → IsCause refused new
sits new refused none open_ = rw none open_

-- Where one is due, it is made, and the counts begin anew.
pub rests_so : (now : State ScriptLinks) (refused : Option Unanswered) (bytes steps : ℕ) (s : Seat) (result : Result (Unit {0}) StepEnd) (new : State ScriptLinks) → seat now refused bytes steps ≡ s → s.refused ≡ None
    → IsCause refused now → is_sweep_due (board_of now (wanted_of refused) bytes steps) ≡ true → Sweeps ByScript 16 now (Some 0) result new
    → LeadsBy result (rested (seen s)) (seen (seat new refused 0 0))
rests_so now refused bytes steps s result new view none cause due it =
    let led = sweep_is (wanted_of refused) 0 0 now result new (unstopped now refused bytes steps s view none cause) it in
    let b = board_of now (wanted_of refused) bytes steps in
    subst (λ (swept : Swept). LeadsBy result swept (seen (seat new refused 0 0))) (sym (rested_so b due) ∙ ap (λ (t : Seat). rested (seen t)) view) led.by

pub rest_sits : (now : State ScriptLinks) (refused : Option Unanswered) (bytes steps : ℕ) (s : Seat) (result : Result (Unit {0}) StepEnd) (new : State ScriptLinks) → seat now refused bytes steps ≡ s → s.refused ≡ None
    → IsCause refused now → Sweeps ByScript 16 now (Some 0) result new → IsSeat (seat new refused 0 0)
rest_sits now refused bytes steps s result new view none cause it = record {
  cause = sits new refused (ap (λ (t : Seat). t.refused) view ∙ none)
      (sweep_is (wanted_of refused) 0 0 now result new (unstopped now refused bytes steps s view none cause) it).unstopped;
  counted = omega arith;
}

-- Closing.
pub closes_so : (now : State ScriptLinks) (refused : Option Unanswered) (bytes steps : ℕ) (s : Seat) (answer : Closing) (new : State ScriptLinks) → seat now refused bytes steps ≡ s → s.refused ≡ None
    → IsCause refused now → Closes ByScript 8 0 false now answer new → ClosesTo answer (closed (seen s)) (seen (seat new refused bytes steps))
closes_so now refused bytes steps s answer new view none cause it =
    subst (λ (t : Seat). ClosesTo answer (closed (seen t)) (seen (seat new refused bytes steps))) view
    (closing_is (wanted_of refused) bytes steps now answer new (unstopped now refused bytes steps s view none cause) it)

pub close_sits : (now : State ScriptLinks) (refused : Option Unanswered) (bytes steps : ℕ) (s : Seat) (answer : Closing) (new : State ScriptLinks) → seat now refused bytes steps ≡ s → s.refused ≡ None
    → IsSeat (seat now refused bytes steps) → new.stopped ≡ None → Closes ByScript 8 0 false now answer new → IsSeat (seat new refused bytes steps)
close_sits now refused bytes steps s answer new view none sound open_ it =
    let longer = closing_adds ByScript 8 0 false now answer new it in let few = sound.counted in record {
      cause = sits new refused (ap (λ (t : Seat). t.refused) view ∙ none) open_;
      counted = omega (arith, longer, few);
    }
