-- No cycles change nothing.
use Rattle.std.proofs.Common.{◌≡◌, ◌⊎◌, ℕ, ◌+◌, ◌-◌, ◌/◌, ◌%◌, ◌≤◌, Bool, true, false, Option, Some, None, refl, ap, arith, ◌∙◌, inl, inr}
use Rattle.std.specs.Prelude.{◌||◌}
use Rattle.avr_timer.specs.declared.course.Course.{Course}
use Rattle.avr_timer.specs.declared.course.Counter.{Counter}
use Rattle.avr_timer.specs.declared.course.Waveform.{Waveform}
use Rattle.avr_timer.specs.declared.course.Waveform.TheVariants.{Normal, ClearOnCompare, FastPwm, PhaseCorrectPwm}
use Rattle.avr_timer.specs.declared.timer8.Timer8.{Timer8}
use Rattle.avr_timer.specs.declared.timer16.Timer16.{Timer16}
use Rattle.avr_timer.specs.Count.{counted, is_falling, swung, value_by, down_by, value_after, down_after}
use Rattle.avr_timer.specs.Ticks.{ticks_between, some_tick}
use Rattle.avr_timer.specs.Modes.{course8, course16, prescale_of, timer2_prescale_of}
use Rattle.avr_timer.specs.Timers.{TimersState, mode8, mode16, counter8, counter16, ran8, ran16, run8, run16, passed8_by, passed16_by}
use Rattle.avr_timer.specs.Laws.{NoTimeChangesNothing}
use Rattle.avr_timer.proofs.Upwards.{counted-run}
use Rattle.avr_timer.proofs.Waves.{wave-up, rising-low, swung-rising, swung-falling}
use Rattle.avr_timer.proofs.Pieces.{lap-of}
use Rattle.avr_timer.proofs.Spans.{Fits, course8-fits, course16-fits}

counted-none : (max top v : ℕ) → top ≤ max → v ≤ max → counted max top v 0 ≡ v
counted-none max top v order fits =
    let lap = lap-of max top v order fits in
    let within : v ≤ lap.0 = lap.1.within in
    counted-run max top v lap.0 0 lap.1 (omega arith) ∙ (let same : v + 0 ≡ v = omega arith in same)

either : (b : Bool) → (b ≡ true) ⊎ (b ≡ false)
either true = inl refl
either false = inr refl

swung-none : (top : ℕ) (down : Bool) (v : ℕ) → swung top down v 0 ≡ v
swung-none top down v =
    elim (either (is_falling top down v)) [
      | inl falls ↦ swung-falling top down v 0 falls (omega arith) ∙ (let same : v - 0 ≡ v = omega arith in same)
      | inr rises ↦
          let low = rising-low top down v rises in
          swung-rising top down v 0 rises ∙ wave-up top (v + 0) (omega arith) (omega arith) ∙ (let same : v + 0 ≡ v = omega arith in same)
    ]

value-by : (w : Waveform) (course : Course) (c : Counter) → course.top ≤ course.max → c.value ≤ course.max → value_by w course c 0 ≡ c.value
value-by Normal course c order fits = counted-none course.max course.top c.value order fits
value-by ClearOnCompare course c order fits = counted-none course.max course.top c.value order fits
value-by FastPwm course c order fits = counted-none course.max course.top c.value order fits
value-by PhaseCorrectPwm course c order fits = swung-none course.top c.down c.value

down-by : (w : Waveform) (course : Course) (c : Counter) → down_by w course c 0 ≡ c.down
down-by Normal course c = refl
down-by ClearOnCompare course c = refl
down-by FastPwm course c = refl
down-by PhaseCorrectPwm course c = refl

value-none : (course : Course) (c : Counter) → course.top ≤ course.max → c.value ≤ course.max → value_after course c 0 ≡ c.value
unfolding value_after
value-none course c order fits = value-by course.waveform course c order fits

down-none : (course : Course) (c : Counter) → down_after course c 0 ≡ c.down
unfolding down_after
down-none course c = down-by course.waveform course c

or-none : (b : Bool) → (b || false) ≡ b
or-none true = refl
or-none false = refl

run8-none : (course : Course) (t : Timer8) → course.top ≤ course.max → t.tcnt ≤ course.max → run8 course t 0 ≡ t
unfolding run8 some_tick
run8-none course t order fits =
    let value = value-none course (counter8 t) order fits in
    let down = down-none course (counter8 t) in
    rw (value, down, or-none t.flags.overflow, or-none t.flags.match_a, or-none t.flags.match_b) refl

run16-none : (course : Course) (t : Timer16) → course.top ≤ course.max → t.tcnt ≤ course.max → run16 course t 0 ≡ t
unfolding run16 some_tick
run16-none course t order fits =
    let value = value-none course (counter16 t) order fits in
    let down = down-none course (counter16 t) in
    rw (value, down, or-none t.flags.overflow, or-none t.flags.match_a, or-none t.flags.match_b) refl

no-ticks : (p at : ℕ) → ticks_between p at at ≡ 0
no-ticks p at = omega arith

ran8-none : (o : Option Course) (t : Timer8) → Fits t.tcnt o → ran8 o t 0 ≡ t
ran8-none None t fits = refl
ran8-none (Some course) t fits = run8-none course t fits.0 fits.1

ran16-none : (o : Option Course) (t : Timer16) → Fits t.tcnt o → ran16 o t 0 ≡ t
ran16-none None t fits = refl
ran16-none (Some course) t fits = run16-none course t fits.0 fits.1

-- a span without a tick
pub none-between8 : (t : Timer8) (k : ℕ) → t.tcnt ≤ 255 → t.ocra ≤ 255 → k ≡ 0 → ran8 (course8 (mode8 t) t.ocra) t k ≡ t
none-between8 t k count compare none =
    ap (ran8 (course8 (mode8 t) t.ocra) t) none ∙ ran8-none (course8 (mode8 t) t.ocra) t (course8-fits t.tcnt (mode8 t) t.ocra count compare)

pub none-between16 : (t : Timer16) (k : ℕ) → t.tcnt ≤ 65535 → t.ocra ≤ 65535 → t.icr ≤ 65535 → k ≡ 0 → ran16 (course16 (mode16 t) t.ocra t.icr) t k ≡ t
none-between16 t k count compare capture none =
    ap (ran16 (course16 (mode16 t) t.ocra t.icr) t) none
    ∙ ran16-none (course16 (mode16 t) t.ocra t.icr) t (course16-fits t.tcnt (mode16 t) t.ocra t.icr count compare capture)

none8 : (p : Option ℕ) (o : Option Course) (t : Timer8) (at : ℕ) → Fits t.tcnt o → passed8_by p o t at at ≡ t
none8 None o t at fits = refl
none8 (Some p) o t at fits = ap (ran8 o t) (no-ticks p at) ∙ ran8-none o t fits

none16 : (p : Option ℕ) (o : Option Course) (t : Timer16) (at : ℕ) → Fits t.tcnt o → passed16_by p o t at at ≡ t
none16 None o t at fits = refl
none16 (Some p) o t at fits = ap (ran16 o t) (no-ticks p at) ∙ ran16-none o t fits

pub no_time-changes_nothing : NoTimeChangesNothing
no_time-changes_nothing s at held =
    let t0 = none8 (prescale_of (s.timer0.tccrb % 8)) (course8 (mode8 s.timer0) s.timer0.ocra) s.timer0 at
    (course8-fits s.timer0.tcnt (mode8 s.timer0) s.timer0.ocra held.count0 held.compare0) in
    let t1 = none16 (prescale_of (s.timer1.tccrb % 8)) (course16 (mode16 s.timer1) s.timer1.ocra s.timer1.icr) s.timer1 at
    (course16-fits s.timer1.tcnt (mode16 s.timer1) s.timer1.ocra s.timer1.icr held.count1 held.compare1 held.capture1) in
    let t2 = none8 (timer2_prescale_of (s.timer2.tccrb % 8)) (course8 (mode8 s.timer2) s.timer2.ocra) s.timer2 at
    (course8-fits s.timer2.tcnt (mode8 s.timer2) s.timer2.ocra held.count2 held.compare2) in
    let build : Timer8 → Timer16 → Timer8 → TimersState = λ x y z. record s { timer0 = x; timer1 = y; timer2 = z } in
    ap (λ x. build x (passed16_by (prescale_of (s.timer1.tccrb % 8)) (course16 (mode16 s.timer1) s.timer1.ocra s.timer1.icr) s.timer1 at at)
    (passed8_by (timer2_prescale_of (s.timer2.tccrb % 8)) (course8 (mode8 s.timer2) s.timer2.ocra) s.timer2 at at)) t0
    ∙ ap (λ y. build s.timer0 y (passed8_by (timer2_prescale_of (s.timer2.tccrb % 8)) (course8 (mode8 s.timer2) s.timer2.ocra) s.timer2 at at)) t1
    ∙ ap (λ z. build s.timer0 s.timer1 z) t2
