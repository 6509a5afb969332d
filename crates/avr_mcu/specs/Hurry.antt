-- Many steps at once, as a part of a run.
use Rattle.std.specs.Prelude.{◌≡◌, ℕ, ◌+◌, ◌≤◌, ◌<◌, List, [], ◌++◌, Option, Some, None}
use Rattle.avr_mcu.specs.Answers.{Listed}
use Rattle.avr_mcu.specs.Run.{Outcome, after, at_limit, byte_of, run}
use Rattle.avr_mcu.specs.State.{McuState, printed, taken}
use Rattle.avr_mcu.specs.Stretch.{GoesOn}
use Rattle.avr_mcu.specs.Turn.{IsRun}
use Rattle.avr_mcu.specs.declared.run.RunEnd.{RunEnd}
use Rattle.board_bus.specs.declared.event.BusAnswer.{BusAnswer}

-- What a run comes to that has come to this state by steps that asked nothing, with this end, or with the run that follows.
abbrev pub hurried : Option RunEnd → ℕ → McuState → List BusAnswer → Outcome
hurried (Some end) limit t xs = record { asked = []; serial = byte_of (printed t); cycles = t.devices.cycles; trail = t.trail; end = end }
hurried None limit t xs = after [] (byte_of (printed t)) (run limit (taken t) xs)

-- Some steps at once are those steps of the run: what it comes to is what it comes to from behind them, with the byte that the last of
-- them printed; and it ends there where the limit is reached.
abbrev pub RunHurries : Type 0
RunHurries = (limit more : ℕ) (s t : McuState) (xs : List BusAnswer) → printed s ≡ None → GoesOn limit (1 + more) s t
    → run limit s xs ≡ hurried (at_limit limit t.devices.cycles) limit t xs

-- A call of `hurry` in a run: the end where the limit is reached, the microcontroller with the printed byte taken, and the bytes.
pub record IsHurry (limit : ℕ) (s : McuState) (serial : List ℕ) (end : Option RunEnd) (now : McuState) (bytes : List ℕ) : Type 0 where
  pub steps : ℕ
  pub reached : McuState
  pub goes : GoesOn limit steps s reached
  pub rises : s.devices.cycles ≤ reached.devices.cycles
  pub ends : end ≡ at_limit limit reached.devices.cycles
  pub leaves : now ≡ taken reached
  pub prints : bytes ≡ serial ++ byte_of (printed reached)

-- The run so far goes on.
pub record GoesFurther (limit : ℕ) (s now : McuState) (q : Listed) (bytes : List ℕ) (o : Outcome) : Type 0 where
  pub rises : s.devices.cycles + 1 ≤ now.devices.cycles
  pub below : now.devices.cycles < limit
  pub unwanted : q.wanted ≡ None
  pub rest : o ≡ after q.asked bytes (run limit now q.left)

-- After a round of a run: it goes on, or has come to this.
abbrev pub Rounds : Option RunEnd → ℕ → McuState → McuState → Listed → List ℕ → Outcome → Type 0
Rounds None limit s now q bytes o = GoesFurther limit s now q bytes o
Rounds (Some end) limit s now q bytes o = IsRun o bytes end now q
