-- A sweep is cut off only where the history is full.
use Rattle.std.proofs.Common.{◌≡◌, ℕ, zero, suc, true, Option, None, Some}
use Rattle.std.proofs.lemmas.Bool.{cond_both, false≢true}
use Rattle.chip_shared.specs.Calling.{first_due}
use Rattle.chip_shared.specs.Sweeping.{goes_on_from}
use Rattle.board_sim.specs.Boards.{Board, is_full_at}
use Rattle.board_sim.specs.Sweeps.{Swept, whole, cut_off, did, linked, idled, swept_from, rested, recounted, is_sweep_due}

abbrev CutIsFull : Swept → Type 0
CutIsFull s = s.cut ≡ true → is_full_at s.board.events s.board.past ≡ true

whole_full : (b : Board) → CutIsFull (whole b)
whole_full b cut = absurd (false≢true cut)

abbrev met_by : ℕ → Board → Option ℕ → Swept
met_by most b None = whole (idled b)
met_by most b (Some place) = swept_from most (linked b place) (goes_on_from (did b place))

met_full : (most : ℕ) (b : Board) (met : Option ℕ) → ((place : ℕ) → CutIsFull (swept_from most (linked b place) (goes_on_from (did b place)))) → CutIsFull (met_by most b met)
met_full most b None rest = whole_full (idled b)
met_full most b (Some place) rest = rest place

sweep_full : (most : ℕ) (b : Board) (from : Option ℕ) → CutIsFull (swept_from most b from)
unfolding swept_from
sweep_full zero b None = whole_full b
sweep_full zero b (Some from) = whole_full b
sweep_full (suc most) b None = whole_full b
sweep_full (suc most) b (Some from) =
    cond_both (is_full_at b.events b.past) (cut_off b) (met_by most b (first_due b.starts b.past from)) CutIsFull
    (λ full cut. full)
    (λ room. met_full most b (first_due b.starts b.past from) (λ place. sweep_full most (linked b place) (goes_on_from (did b place))))

pub rest_full : (b : Board) → CutIsFull (rested b)
unfolding rested
rest_full b = cond_both (is_sweep_due b) (swept_from 16 (recounted b) (Some 0)) (whole b) CutIsFull (λ due. sweep_full 16 (recounted b) (Some 0)) (λ none. whole_full b)
