-- What each step tells its seat.
use Rattle.std.specs.Prelude.{◌≡◌, ◌≢◌, ℕ, ◌≤◌, List, [], ◌∷◌, length, Option, Some, None}
use Rattle.atomic_table.specs.Table.{Step, Me}
use Rattle.chip_sheet.specs.Past.{GoesOn}
use Rattle.chip_lock.specs.declared.table.Stage.TheVariants.{Waiting}
use Rattle.chip_lock.specs.declared.table.View.{View}
use Rattle.chip_lock.specs.Standing.{KeptState, past_of}
use Rattle.chip_lock.specs.Views.{at_stage, inside, left_with, terms_of}

-- The slot: the state, while no turn has taken it out.
abbrev pub Slot : Type 0 → Type 0
Slot L = Option (KeptState L)

module _ {L : Type 0} where
  -- The number found is the ticket.
  abbrev pub drawn : Step (Slot L) → Me (Slot L) View → ℕ → Me (Slot L) View → Type 0
  drawn st m n m' = m' ≡ (at_stage m.0 (Waiting n), m.1)

  -- Where the ticket is served, the seat has the state: on its own terms, with a past of as many turns that goes on from all it had seen.
  pub record Enters (t : ℕ) (m m' : Me (Slot L) View) : Type 0 where
    pub kept : KeptState L
    pub is : m' ≡ (inside m.0 t kept, (0, Some kept) ∷ m.1)
    pub later : GoesOn m.0.seen (past_of kept)
    pub served : length (past_of kept) ≡ t
    pub live : m.0.runs ≤ kept.live
    pub terms : terms_of kept.state ≡ m.0.terms

  abbrev pub looked : Step (Slot L) → Me (Slot L) View → ℕ → Me (Slot L) View → Type 0
  looked st m n m' = (t : ℕ) → m.0.stage ≡ Waiting t → (n ≡ t → Enters t m m') × (n ≢ t → m' ≡ m)

  abbrev pub OnSlot : Slot L → (KeptState L → Type 0) → Type 0
  OnSlot (Some k) P = P k
  OnSlot None P = Unit {0}

  -- What holds of the state that a seat has.
  abbrev pub OnHeld : List (ℕ × Slot L) → (KeptState L → Type 0) → Type 0
  OnHeld [] P = Unit {0}
  OnHeld (x ∷ xs) P = OnSlot x.1 P

  -- The seat has left, and the state is home.
  abbrev pub left : Step (Slot L) → Me (Slot L) View → ℕ → Me (Slot L) View → Type 0
  left st m n m' = OnHeld m.1 (λ k. m' ≡ (left_with m.0 k, []))
