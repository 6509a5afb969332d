-- What a peer was asked and answered, and what of a run it tells.
use Rattle.std.specs.Prelude.{◌≡◌, ℕ, List, [], ◌∷◌, ◌++◌, Option, Some, None}
use Rattle.avr_mcu.specs.Answers.{reads, over, first_wanted}
use Rattle.avr_space.specs.Peer.{AnswerTo}
use Rattle.avr_mcu.specs.Run.{after, run}
use Rattle.avr_mcu.specs.State.{McuState, printed}
use Rattle.board_bus.specs.declared.event.BusAnswer.{BusAnswer}
use Rattle.board_bus.specs.declared.event.BusEvent.{BusEvent}
use Rattle.avr_mcu.specs.declared.run.RunEnd.{RunEnd}
use Rattle.avr_mcu.specs.declared.run.RunEnd.TheVariants.{Wants}

-- The events that got an answer, the oldest first, the answers, and the first event that got none.
pub record Told : Type 0 where
  pub asked : List BusEvent
  pub answers : List BusAnswer
  pub wanted : Option BusEvent

-- Nothing was asked yet.
abbrev pub untold : Told
untold = record { asked = []; answers = []; wanted = None }

-- One more event with its answer.
abbrev pub and_event : Told → BusEvent → BusAnswer → Told
and_event p c x = record { asked = p.asked ++ c ∷ []; answers = p.answers ++ x ∷ []; wanted = None }

-- One more event without an answer: the first of them is kept.
abbrev pub and_refused : Told → BusEvent → Told
and_refused p c = record { asked = p.asked; answers = p.answers; wanted = first_wanted c p.wanted }

-- An event by the first one without an answer, before and after: it adds itself and its answer, or is that one, or comes after it and
-- changes nothing.
abbrev pub TellsBy : Option BusEvent → Option BusEvent → (c : BusEvent) → Told → AnswerTo c → Told → Type 0
TellsBy (Some first) wanted c p a q = (a ≡ over c) × (q ≡ p)
TellsBy None (Some first) c p a q = (a ≡ over c) × (q ≡ record { asked = p.asked; answers = p.answers; wanted = Some c })
TellsBy None None c p a q = (x : BusAnswer) × (a ≡ reads c x) × (q ≡ and_event p c x)

abbrev pub Tells : (c : BusEvent) → Told → AnswerTo c → Told → Type 0
Tells c p a q = TellsBy p.wanted q.wanted c p a q

-- From `start`, with these answers, whatever come later, the run asks these events and prints these bytes, and goes on from `now`, where
-- no printed byte waits.
pub record SoFar (limit : ℕ) (start : McuState) (serial : List ℕ) (now : McuState) (told : Told) : Type 0 where
  pub none_wanted : told.wanted ≡ None
  pub none_waits : printed now ≡ None
  pub goes : (more : List BusAnswer) → run limit start (told.answers ++ more) ≡ after told.asked serial (run limit now more)

-- A run ends by an event exactly where that event got no answer.
abbrev pub EndWants : RunEnd → Option BusEvent → Type 0
EndWants (Wants c) wanted = wanted ≡ Some c
EndWants _ wanted = wanted ≡ None

-- From `start`, the run on these answers asks these events, prints these bytes, and ends so.
pub record Ended (limit : ℕ) (start : McuState) (serial : List ℕ) (now : McuState) (told : Told) (end : RunEnd) : Type 0 where
  pub is : run limit start told.answers ≡ record { asked = told.asked; serial = serial; cycles = now.devices.cycles; trail = now.trail; end = end }
  pub wants : EndWants end told.wanted

-- Before its first step a run has come to nothing yet.
abbrev pub RunBegins : Type 0
RunBegins = (limit : ℕ) (start : McuState) → printed start ≡ None → SoFar limit start [] start untold
