-- Ticks one by one.
use Rattle.std.proofs.Common.{◌≡◌, ℕ, zero, suc, ◌+◌, ◌≤◌, Bool, true, false, Option, Some, None, refl, ap, arith, sym, ◌∙◌, subst}
use Rattle.std.specs.Prelude.{◌==◌, ◌||◌}
use Rattle.avr_timer.specs.declared.course.Course.{Course}
use Rattle.avr_timer.specs.declared.course.Counter.{Counter}
use Rattle.avr_timer.specs.declared.timer8.Timer8.{Timer8}
use Rattle.avr_timer.specs.declared.timer16.Timer16.{Timer16}
use Rattle.avr_timer.specs.Count.{value_after, down_after, is_match, is_overflow}
use Rattle.avr_timer.specs.Ticks.{some_tick}
use Rattle.avr_timer.specs.Modes.{course8, course16}
use Rattle.avr_timer.specs.Timers.{mode8, mode16, counter8, counter16, run8, run16, ran8, ran16}
use Rattle.avr_timer.specs.Laws.{counter_after}
use Rattle.avr_timer.proofs.Pieces.{ticks-add_up}
use Rattle.avr_timer.proofs.NoTime.{none-between8, none-between16}
use Rattle.avr_timer_laws.specs.Tick.{Row, rows8, rows16, row_in, next_value, sets_overflow, counter_ticked, ticked8, ticked8_by, ticked16, ticked16_by}
use Rattle.avr_timer_laws.specs.Single.{single_ticks8, single_ticks16, SingleTicks8, SingleTicks16}
use Rattle.avr_timer_laws.proofs.Rows.{GoesBy, Agrees, agrees8, agrees16}

or-last : (f s b c d : Bool) → d ≡ (s || (b || false)) → b ≡ c → (f || d) ≡ ((f || s) || c)
or-last true s b c d is same = refl
or-last false true b c d is same = is
or-last false false true c d is same = is ∙ same
or-last false false false c d is same = is ∙ same

-- what a course does in one tick more, whose row is r
record NextIs (max : ℕ) (course : Course) (r : Row) (c : Counter) (k : ℕ) : Type 0 where
  value : value_after course c (k + 1) ≡ next_value r.slope max r.top (counter_after course c k)
  down : down_after course c (k + 1) ≡ (counter_ticked r max (counter_after course c k)).down
  overflow : (f : Bool) → (f || some_tick (is_overflow course c) (k + 1))
      ≡ ((f || some_tick (is_overflow course c) k)
      || sets_overflow r.overflow max r.top (value_after course c k) (next_value r.slope max r.top (counter_after course c k)))
  match : (f : Bool) (x : ℕ) → (f || some_tick (is_match course c x) (k + 1))
      ≡ ((f || some_tick (is_match course c x) k) || next_value r.slope max r.top (counter_after course c k) == x)

next-is : (max : ℕ) (course : Course) (r : Row) (c : Counter) (k : ℕ) → GoesBy max course r → c.value ≤ max → NextIs max course r c k
unfolding some_tick
next-is max course r c k goes fits =
    let here = counter_after course c k in
    let room : here.value ≤ max = goes.fits c k fits in
    let within : c.value ≤ course.max = subst (λ n. c.value ≤ n) (sym goes.full) fits in
    let law = ticks-add_up course c k 1 goes.order within in
    record {
      value = ap (λ n. n.value) (sym law.counter) ∙ goes.value here room;
      down = ap (λ n. n.down) (sym law.counter) ∙ goes.down here;
      overflow = λ f. or-last f (some_tick (is_overflow course c) k) (is_overflow course here 0) _ _ law.overflow (goes.overflow here room);
      match = λ f x. or-last f (some_tick (is_match course c x) k) (is_match course here x 0) _ _ (law.match x) (ap (λ v. v == x) (goes.value here room));
    }

-- a timer with another counter and other flags
build8 : Timer8 → ℕ → Bool → Bool → Bool → Bool → Timer8
build8 t v d o a b = record t { tcnt = v; down = d; flags = record { overflow = o; match_a = a; match_b = b } }

same8 : (t : Timer8) (v w : ℕ) (d e o p a x b y : Bool) → v ≡ w → d ≡ e → o ≡ p → a ≡ x → b ≡ y → build8 t v d o a b ≡ build8 t w e p x y
same8 t v w d e o p a x b y value down overflow match_a match_b =
    ap (λ n. build8 t n d o a b) value
    ∙ ap (λ n. build8 t w n o a b) down
    ∙ ap (λ n. build8 t w e n a b) overflow
    ∙ ap (λ n. build8 t w e p n b) match_a
    ∙ ap (λ n. build8 t w e p x n) match_b

next8 : (o : Option Course) (r : Option Row) (t : Timer8) (k : ℕ) → Agrees 255 o r → t.tcnt ≤ 255 → ran8 o t (k + 1) ≡ ticked8_by r (ran8 o t k)
unfolding run8 build8
next8 None None t k agrees fits = refl
next8 None (Some r) t k agrees fits = absurd agrees
next8 (Some course) None t k agrees fits = absurd agrees
next8 (Some course) (Some r) t k agrees fits =
    let is = next-is 255 course r (counter8 t) k agrees fits in
    same8 t _ _ _ _ _ _ _ _ _ _ is.value is.down (is.overflow t.flags.overflow) (is.match t.flags.match_a t.ocra) (is.match t.flags.match_b t.ocrb)

-- ticks change neither the mode nor TOP
row8-kept : (o : Option Course) (t : Timer8) (k : ℕ) → row_in (rows8 (ran8 o t k).ocra) (mode8 (ran8 o t k)) ≡ row_in (rows8 t.ocra) (mode8 t)
unfolding run8
row8-kept None t k = refl
row8-kept (Some course) t k = refl

pub single-ticks8 : SingleTicks8
unfolding single_ticks8
single-ticks8 t zero count compare = none-between8 t 0 count compare refl
single-ticks8 t (suc k) count compare =
    let o = course8 (mode8 t) t.ocra in
    let one : suc k ≡ k + 1 = omega arith in
    ap (ran8 o t) one
    ∙ next8 o (row_in (rows8 t.ocra) (mode8 t)) t k (agrees8 (mode8 t) t.ocra compare) count
    ∙ ap (λ r. ticked8_by r (ran8 o t k)) (sym (row8-kept o t k))
    ∙ ap ticked8 (single-ticks8 t k count compare)

build16 : Timer16 → ℕ → Bool → Bool → Bool → Bool → Timer16
build16 t v d o a b = record t { tcnt = v; down = d; flags = record { overflow = o; match_a = a; match_b = b } }

same16 : (t : Timer16) (v w : ℕ) (d e o p a x b y : Bool) → v ≡ w → d ≡ e → o ≡ p → a ≡ x → b ≡ y → build16 t v d o a b ≡ build16 t w e p x y
same16 t v w d e o p a x b y value down overflow match_a match_b =
    ap (λ n. build16 t n d o a b) value
    ∙ ap (λ n. build16 t w n o a b) down
    ∙ ap (λ n. build16 t w e n a b) overflow
    ∙ ap (λ n. build16 t w e p n b) match_a
    ∙ ap (λ n. build16 t w e p x n) match_b

next16 : (o : Option Course) (r : Option Row) (t : Timer16) (k : ℕ) → Agrees 65535 o r → t.tcnt ≤ 65535 → ran16 o t (k + 1) ≡ ticked16_by r (ran16 o t k)
unfolding run16 build16
next16 None None t k agrees fits = refl
next16 None (Some r) t k agrees fits = absurd agrees
next16 (Some course) None t k agrees fits = absurd agrees
next16 (Some course) (Some r) t k agrees fits =
    let is = next-is 65535 course r (counter16 t) k agrees fits in
    same16 t _ _ _ _ _ _ _ _ _ _ is.value is.down (is.overflow t.flags.overflow) (is.match t.flags.match_a t.ocra) (is.match t.flags.match_b t.ocrb)

row16-kept : (o : Option Course) (t : Timer16) (k : ℕ)
    → row_in (rows16 (ran16 o t k).ocra (ran16 o t k).icr) (mode16 (ran16 o t k)) ≡ row_in (rows16 t.ocra t.icr) (mode16 t)
unfolding run16
row16-kept None t k = refl
row16-kept (Some course) t k = refl

pub single-ticks16 : SingleTicks16
unfolding single_ticks16
single-ticks16 t zero count compare capture = none-between16 t 0 count compare capture refl
single-ticks16 t (suc k) count compare capture =
    let o = course16 (mode16 t) t.ocra t.icr in
    let one : suc k ≡ k + 1 = omega arith in
    ap (ran16 o t) one
    ∙ next16 o (row_in (rows16 t.ocra t.icr) (mode16 t)) t k (agrees16 (mode16 t) t.ocra t.icr compare capture) count
    ∙ ap (λ r. ticked16_by r (ran16 o t k)) (sym (row16-kept o t k))
    ∙ ap ticked16 (single-ticks16 t k count compare capture)
