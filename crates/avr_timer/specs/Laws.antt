-- Time in pieces: how the ticks between two looks are cut changes nothing.
use Rattle.std.specs.Prelude.{◌≡◌, ℕ, ◌+◌, ◌≤◌, ◌||◌}
use Rattle.avr_timer.specs.declared.course.Course.{Course}
use Rattle.avr_timer.specs.declared.course.Counter.{Counter}
use Rattle.avr_timer.specs.Count.{value_after, down_after, is_match, is_overflow}
use Rattle.avr_timer.specs.Ticks.{some_tick}
use Rattle.avr_timer.specs.Timers.{TimersState, passed}

-- A counter after k ticks.
abbrev pub counter_after : Course → Counter → ℕ → Counter
counter_after course c k = record { value = value_after course c k; down = down_after course c k }

-- A counter after j ticks and then k more stands where it stands after j + k, and the flags that have risen by then are
-- those that rose in the one piece or in the other.
pub record AddsUp (course : Course) (c : Counter) (j k : ℕ) : Type 0 where
  pub counter : counter_after course (counter_after course c j) k ≡ counter_after course c (j + k)
  pub overflow : some_tick (is_overflow course c) (j + k)
      ≡ (some_tick (is_overflow course c) j || some_tick (is_overflow course (counter_after course c j)) k)
  pub match : (x : ℕ) → some_tick (is_match course c x) (j + k)
      ≡ (some_tick (is_match course c x) j || some_tick (is_match course (counter_after course c j) x) k)

abbrev pub TicksAddUp : Type 0
TicksAddUp = (course : Course) (c : Counter) (j k : ℕ) → course.top ≤ course.max → c.value ≤ course.max → AddsUp course c j k

-- The registers of the timers hold what fits in them.
pub record IsHeld (s : TimersState) : Type 0 where
  pub count0 : s.timer0.tcnt ≤ 255
  pub compare0 : s.timer0.ocra ≤ 255
  pub count1 : s.timer1.tcnt ≤ 65535
  pub compare1 : s.timer1.ocra ≤ 65535
  pub capture1 : s.timer1.icr ≤ 65535
  pub count2 : s.timer2.tcnt ≤ 255
  pub compare2 : s.timer2.ocra ≤ 255

-- Passing no cycles changes nothing.
abbrev pub NoTimeChangesNothing : Type 0
NoTimeChangesNothing = (s : TimersState) (at : ℕ) → IsHeld s → passed s at at ≡ s

-- Passing one span of cycles and then the next is passing both at once.
abbrev pub SpansAddUp : Type 0
SpansAddUp = (s : TimersState) (a b c : ℕ) → IsHeld s → a ≤ b → b ≤ c → passed (passed s a b) b c ≡ passed s a c
