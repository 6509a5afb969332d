-- What link steps keep of a board, one by one, a sweep and closing keep of it.
use Rattle.std.proofs.Common.{ℕ, zero, suc, ◌+◌, ◌*◌, Bool, true, false, not, if◌then◌else◌, Option, None, Some}
use Rattle.chip_shared.specs.Calling.{first_due}
use Rattle.chip_shared.specs.Sweeping.{goes_on_from}
use Rattle.board_sim.specs.Boards.{Board, is_full_at}
use Rattle.board_sim.specs.Sweeps.{Swept, whole, cut_off, did, linked, idled, swept_from, rested, recounted, is_sweep_due}
use Rattle.board_sim.specs.Closes.{drained, closed_from, closed, is_out_due_on, most_steps, went_on}

-- A relation of boards that link steps keep, and counts that begin anew.
pub record IsKept (R : Board → Board → Type 0) : Type 0 where
  pub same : (b : Board) → R b b
  pub still : (a b c : Board) → R a b → R b c → R a c
  pub idle : (b : Board) → R b (idled b)
  pub link : (b : Board) (place : ℕ) → R b (linked b place)
  pub count : (b : Board) → R b (recounted b)

pub chosen : {A : Type 0} (P : A → Type 0) (b : Bool) (x y : A) → P x → P y → P (if b then x else y)
chosen P true x y one two = one
chosen P false x y one two = two

abbrev met_by : ℕ → Board → Option ℕ → Swept
met_by most b None = whole (idled b)
met_by most b (Some place) = swept_from most (linked b place) (goes_on_from (did b place))

met_keeps : (R : Board → Board → Type 0) → IsKept R → (most : ℕ) (b : Board) (met : Option ℕ) → ((place : ℕ) → R (linked b place) (swept_from most (linked b place) (goes_on_from (did b place))).board)
    → R b (met_by most b met).board
met_keeps R kept most b None rest = kept.idle b
met_keeps R kept most b (Some place) rest = kept.still b (linked b place) (swept_from most (linked b place) (goes_on_from (did b place))).board (kept.link b place) (rest place)

pub sweeps_keep : (R : Board → Board → Type 0) → IsKept R → (most : ℕ) (b : Board) (from : Option ℕ) → R b (swept_from most b from).board
unfolding swept_from
sweeps_keep R kept zero b None = kept.same b
sweeps_keep R kept zero b (Some from) = kept.same b
sweeps_keep R kept (suc most) b None = kept.same b
sweeps_keep R kept (suc most) b (Some from) =
    chosen (λ (s : Swept). R b s.board) (is_full_at b.events b.past) (cut_off b) (met_by most b (first_due b.starts b.past from)) (kept.same b)
    (met_keeps R kept most b (first_due b.starts b.past from) (λ place. sweeps_keep R kept most (linked b place) (goes_on_from (did b place))))

pub rest_keeps : (R : Board → Board → Type 0) → IsKept R → (b : Board) → R b (rested b).board
unfolding rested
rest_keeps R kept b =
    chosen (λ (s : Swept). R b s.board) (is_sweep_due b) (swept_from 16 (recounted b) (Some 0)) (whole b)
    (kept.still b (recounted b) (swept_from 16 (recounted b) (Some 0)).board (kept.count b) (sweeps_keep R kept 16 (recounted b) (Some 0)))
    (kept.same b)

drains_keep : (R : Board → Board → Type 0) → IsKept R → (most : ℕ) (b : Board) (n : ℕ) → R b (drained most b n).board
unfolding drained
drains_keep R kept zero b n = kept.same b
drains_keep R kept (suc most) b n =
    let after = linked b (2 * n) in
    chosen (λ (s : Swept). R b s.board) (not (is_out_due_on b n)) (whole b)
    (if is_full_at b.events b.past then cut_off b else if went_on (did b (2 * n)) then drained most after n else whole after) (kept.same b)
    (chosen (λ (s : Swept). R b s.board) (is_full_at b.events b.past) (cut_off b) (if went_on (did b (2 * n)) then drained most after n else whole after) (kept.same b)
    (chosen (λ (s : Swept). R b s.board) (went_on (did b (2 * n))) (drained most after n) (whole after)
    (kept.still b after (drained most after n).board (kept.link b (2 * n)) (drains_keep R kept most after n))
    (kept.link b (2 * n))))

closes_keep : (R : Board → Board → Type 0) → IsKept R → (more : ℕ) (b : Board) (n : ℕ) → R b (closed_from more b n)
unfolding closed_from
closes_keep R kept zero b n = kept.same b
closes_keep R kept (suc more) b n =
    let d = drained (most_steps b n) b n in
    let here = drains_keep R kept (most_steps b n) b n in
    chosen (R b) d.cut d.board (closed_from more d.board (n + 1)) here
    (kept.still b d.board (closed_from more d.board (n + 1)) here (closes_keep R kept more d.board (n + 1)))

pub closing_keeps : (R : Board → Board → Type 0) → IsKept R → (b : Board) → R b (closed b)
closing_keeps R kept b = closes_keep R kept 8 b 0
