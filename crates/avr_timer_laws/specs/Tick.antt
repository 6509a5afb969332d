-- One tick of a timer's clock (ATmega328P datasheet, the tables "Waveform Generation Mode Bit Description" of timers 0, 1
-- and 2, and "Modes of Operation").
use Rattle.std.specs.Prelude.{ℕ, ◌+◌, ◌-◌, ◌==◌, Bool, not, ◌&&◌, ◌||◌, nat_le, if◌then◌else◌, List, [], ◌∷◌, Option, Some, None}
use Rattle.avr_timer.specs.declared.course.Counter.{Counter}
use Rattle.avr_timer.specs.declared.flags.Flags.{Flags}
use Rattle.avr_timer.specs.declared.timer8.Timer8.{Timer8}
use Rattle.avr_timer.specs.declared.timer16.Timer16.{Timer16}
use Rattle.avr_timer.specs.Timers.{mode8, mode16}

-- How a mode counts: in single-slope operation up from BOTTOM, in dual-slope operation up to TOP and down to BOTTOM again.
pub data Slope : Type 0 where
  Single : Slope
  Dual : Slope

-- The column "TOV Flag Set on" of the tables.
pub data Overflow : Type 0 where
  OnMax : Overflow
  OnTop : Overflow
  OnBottom : Overflow

-- A row of the tables: the mode's number, how it counts, TOP, and where TOV is set.
pub record Row : Type 0 where
  pub number : ℕ
  pub slope : Slope
  pub top : ℕ
  pub overflow : Overflow

abbrev pub row : ℕ → Slope → ℕ → Overflow → Row
row number slope top overflow = record { number = number; slope = slope; top = top; overflow = overflow }

-- Timers 0 and 2, by WGM2..0: normal, phase correct PWM, CTC and fast PWM; the last two have TOP in OCRnA. The modes 4 and 6
-- are reserved.
abbrev pub rows8 : ℕ → List Row
rows8 ocra =
    row 0 Single 0xFF OnMax ∷
    row 1 Dual 0xFF OnBottom ∷
    row 2 Single ocra OnMax ∷
    row 3 Single 0xFF OnMax ∷
    row 5 Dual ocra OnBottom ∷
    row 7 Single ocra OnTop ∷
    []

-- Timer 1, by WGM13..0: normal; phase correct PWM of 8, 9 and 10 bits; CTC; fast PWM of 8, 9 and 10 bits; CTC with TOP in
-- ICR1; fast PWM with TOP in ICR1 and in OCR1A. The modes 8 to 11 are not offered (this profile's own), and 13 is reserved.
abbrev pub rows16 : ℕ → ℕ → List Row
rows16 ocra icr =
    row 0 Single 0xFFFF OnMax ∷
    row 1 Dual 0x00FF OnBottom ∷
    row 2 Dual 0x01FF OnBottom ∷
    row 3 Dual 0x03FF OnBottom ∷
    row 4 Single ocra OnMax ∷
    row 5 Single 0x00FF OnTop ∷
    row 6 Single 0x01FF OnTop ∷
    row 7 Single 0x03FF OnTop ∷
    row 12 Single icr OnMax ∷
    row 14 Single icr OnTop ∷
    row 15 Single ocra OnTop ∷
    []

-- The row of a mode, where it has one.
abbrev pub row_in : List Row → ℕ → Option Row
row_in [] number = None
row_in (r ∷ more) number = if number == r.number then Some r else row_in more number

-- Whether a dual-slope counter goes down next: it turns at TOP, and comes down from above it too; on its way down it turns at
-- BOTTOM.
abbrev pub goes_down : ℕ → Bool → ℕ → Bool
goes_down top down value = nat_le top value || (down && not (value == 0))

-- A counter one tick on. Single slope: from TOP to BOTTOM, and one that has passed TOP runs on and restarts from BOTTOM when
-- it passes MAX. Dual slope: one up or one down.
abbrev pub next_value : Slope → ℕ → ℕ → Counter → ℕ
next_value Single max top c = if c.value == top || c.value == max then 0 else c.value + 1
next_value Dual max top c = if goes_down top c.down c.value then c.value - 1 else c.value + 1

abbrev pub next_down : Slope → ℕ → Counter → Bool
next_down Single top c = c.down
next_down Dual top c = goes_down top c.down c.value

-- Whether TOV is set by the tick from one value to the next: the tick from MAX; the tick from TOP, or from MAX where the
-- counter had passed TOP; the tick that comes down to BOTTOM.
abbrev pub sets_overflow : Overflow → ℕ → ℕ → ℕ → ℕ → Bool
sets_overflow OnMax max top was now = was == max
sets_overflow OnTop max top was now = was == top || was == max
sets_overflow OnBottom max top was now = now == 0 && not (was == 0)

-- The counter one tick on; and the flags: the overflow by its column, and a compare flag where the counter comes to the
-- compare value. A flag that is set stays.
abbrev pub counter_ticked : Row → ℕ → Counter → Counter
counter_ticked r max c = record { value = next_value r.slope max r.top c; down = next_down r.slope r.top c }

abbrev pub flags_ticked : Row → ℕ → Counter → ℕ → ℕ → Flags → Flags
flags_ticked r max c ocra ocrb f =
    let now = next_value r.slope max r.top c in
    record {
      overflow = f.overflow || sets_overflow r.overflow max r.top c.value now;
      match_a = f.match_a || now == ocra;
      match_b = f.match_b || now == ocrb;
    }

-- Timer 0 or 2 one tick on, where its mode has a row; then timer 1.
abbrev pub ticked8_by : Option Row → Timer8 → Timer8
ticked8_by None t = t
ticked8_by (Some r) t =
    let c : Counter = record { value = t.tcnt; down = t.down } in
    let next = counter_ticked r 0xFF c in
    record t { tcnt = next.value; down = next.down; flags = flags_ticked r 0xFF c t.ocra t.ocrb t.flags }

abbrev pub ticked8 : Timer8 → Timer8
ticked8 t = ticked8_by (row_in (rows8 t.ocra) (mode8 t)) t

abbrev pub ticked16_by : Option Row → Timer16 → Timer16
ticked16_by None t = t
ticked16_by (Some r) t =
    let c : Counter = record { value = t.tcnt; down = t.down } in
    let next = counter_ticked r 0xFFFF c in
    record t { tcnt = next.value; down = next.down; flags = flags_ticked r 0xFFFF c t.ocra t.ocrb t.flags }

abbrev pub ticked16 : Timer16 → Timer16
ticked16 t = ticked16_by (row_in (rows16 t.ocra t.icr) (mode16 t)) t
