-- Link steps of a scripted run, and its sweeps.
use Rattle.std.specs.Prelude.{ℕ, zero, suc, ◌/◌, Bool, true, false, ◌||◌, nat_le, ◌∷◌, Option, Some, None, if◌then◌else◌}
use Rattle.chip_sheet.specs.declared.event.Entry.TheVariants.{Rest}
use Rattle.chip_sheet.specs.LinkAnswers.{LinkAnswer, entry_by}
use Rattle.chip_sheet.specs.LinkCalls.{due_at}
use Rattle.chip_sheet.specs.Windows.{flight}
use Rattle.link_script.specs.Play.{answer_to, after}
use Rattle.chip_shared.specs.Calling.{call_at, did_at, first_due}
use Rattle.chip_shared.specs.Sweeping.{goes_on_from}
use Rattle.chip_shared.specs.declared.shared.LinkDid.{LinkDid}
use Rattle.board_sim.specs.Boards.{Board, is_full_at}

-- What the peers answer to the call that is due at a place, 0 to 15: place 2n is the outgoing one of socket n, and 2n + 1 its incoming one.
unfoldable pub answered : Board → ℕ → LinkAnswer
answered b place = answer_to b.links (call_at b.starts b.past place)

-- What a link step at a place did, and the board after it: the entry of the answer stands in the history.
unfoldable pub did : Board → ℕ → LinkDid
did b place = did_at place (answered b place)

unfoldable pub linked : Board → ℕ → Board
linked b place = record b {
  past = entry_by (place / 2) (flight b.starts b.past (place / 2)) (due_at b.starts b.past place) (answered b place) ∷ b.past;
  links = after b.links (call_at b.starts b.past place);
}

-- A turn in which nothing happened.
abbrev pub idled : Board → Board
idled b = record b { past = Rest ∷ b.past }

-- The board after some link steps, and whether the history was full at one of them, which is then not made and ends the run.
pub record Swept : Type 0 where
  pub board : Board
  pub cut : Bool

abbrev pub whole : Board → Swept
whole b = record { board = b; cut = false }

abbrev pub cut_off : Board → Swept
cut_off b = record { board = b; cut = true }

-- At most so many link steps, from a place on where there is one: each at the first place at which a call is due, and from the place
-- behind it on; where no more is due, a turn in which nothing happened.
unfoldable pub swept_from : ℕ → Board → Option ℕ → Swept
swept_from most b None = whole b
swept_from zero b (Some from) = whole b
swept_from (suc most) b (Some from) =
    if is_full_at b.events b.past then cut_off b else
    elim (first_due b.starts b.past from) [
      | None ↦ whole (idled b)
      | Some place ↦ swept_from most (linked b place) (goes_on_from (did b place))
    ]

-- A sweep is due after eight changes of the select line or bytes, and after 1,024 instructions. It goes through all places once, and the
-- counts begin anew.
abbrev pub is_sweep_due : Board → Bool
is_sweep_due b = nat_le 8 b.bytes || nat_le 1024 b.steps

abbrev pub recounted : Board → Board
recounted b = record b { bytes = 0; steps = 0 }

unfoldable pub rested : Board → Swept
rested b = if is_sweep_due b then swept_from 16 (recounted b) (Some 0) else whole b
