-- The steps that a loop makes, for callers that need more of them than what a run says.
use Rattle.std.specs.Prelude.{◌≡◌, ℕ, zero, suc, Option}
use Rattle.avr_core.specs.Ask.{Give, Call, Plays}
use Rattle.avr_space.specs.Peer.{AnswerTo, OfBus}
use Rattle.avr_mcu.specs.Run.{at_limit, end_of}
use Rattle.avr_mcu.specs.State.{McuState, printed, taken}
use Rattle.avr_mcu.specs.Step.{gone, stepped}
use Rattle.avr_mcu.specs.Stretch.{IsMove, GoesOn}
use Rattle.board_bus.specs.declared.event.BusEvent.{BusEvent}
use Rattle.avr_mcu.specs.declared.run.RunEnd.{RunEnd}
use Rattle.avr_mcu.specs.declared.went.McuWent.{McuWent}
use Rattle.avr_mcu.specs.declared.went.McuWent.TheVariants.{Ran, Asleep}

-- How many instructions a step counts as: an instruction and a cycle asleep are one, an interrupt entry is none.
abbrev pub instructions_of : McuWent → ℕ
instructions_of Ran = 1
instructions_of Asleep = 1
instructions_of _ = 0

-- The step that a turn made: how it went, its end, the byte that it printed, and the part once the byte is taken.
pub record IsStep {B : Type 0} (did : B → (c : BusEvent) → AnswerTo c → B → Type 0) (limit : ℕ) (s : McuState) (before after : B) (wanted : Option BusEvent)
    (went : McuWent) (byte : Option ℕ) (end : Option RunEnd) (now : McuState) : Type 0 where
  pub left : McuState
  pub plays : Plays did before (stepped s) (gone went left) after
  pub ends : end ≡ end_of wanted went limit left.devices.cycles
  pub prints : byte ≡ printed left
  pub leaves : now ≡ taken left

-- The steps that a stretch made: each ran an instruction or slept a cycle, began below the limit, asked nothing of the bus, and printed
-- nothing but for the last (`GoesOn`).
pub record IsStretch (limit : ℕ) (s : McuState) (steps : ℕ) (byte : Option ℕ) (end : Option RunEnd) (now : McuState) : Type 0 where
  pub left : McuState
  pub goes : GoesOn limit steps s left
  pub ends : end ≡ at_limit limit left.devices.cycles
  pub prints : byte ≡ printed left
  pub leaves : now ≡ taken left

-- The steps of a stretch from the first one on: so many, each begun with this byte printed before it.
abbrev pub GoesFrom : ℕ → Option ℕ → ℕ → McuState → McuState → Type 0
GoesFrom limit byte zero s t = t ≡ s
GoesFrom limit byte (suc k) s t = (mid : McuState) × IsMove limit byte s mid × GoesFrom limit byte k mid t

abbrev pub StretchGoesFrom : Type 0
StretchGoesFrom = (limit k : ℕ) (s t : McuState) → GoesOn limit k s t → GoesFrom limit (printed s) k s t

-- What a tree comes to on a bus whose answers are a function of a state, and the state after it.
pub record Played (V R : Type 0) : Type 0 where
  pub result : R
  pub bus : V

abbrev pub played : {V R : Type 0} → (V → (c : BusEvent) → AnswerTo c) → (V → BusEvent → V) → OfBus R → V → Played V R
played answers next (Give r) v = record { result = r; bus = v }
played answers next (Call c go) v = played answers next (go (answers v c)) (next v c)

-- What each event does to the state, where the peer is well after it; it was well before it then.
pub record Functional {B V : Type 0} (view : B → V) (IsWell : B → Type 0)
    (answers : V → (c : BusEvent) → AnswerTo c) (next : V → BusEvent → V) (p : B) (c : BusEvent) (a : AnswerTo c) (q : B) : Type 0 where
  pub well : IsWell p
  pub answers_is : a ≡ answers (view p) c
  pub next_is : view q ≡ next (view p) c
