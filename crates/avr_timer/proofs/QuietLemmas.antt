-- How long no interrupt of the timers is requested.
use Rattle.std.proofs.Common.{◌≡◌, ◌⊎◌, ℕ, ◌+◌, ◌-◌, ◌*◌, ◌/◌, ◌%◌, ◌^◌, ◌<◌, ◌≤◌, min, Bool, true, false, Option, Some, None, refl, ap, arith, sym, ◌∙◌, subst, inl, inr}
use Rattle.std.specs.Prelude.{◌&&◌, ◌||◌, if◌then◌else◌}
use Rattle.std.proofs.Math.Nat.{div-lt_iff_lt-mul, mul-div_cancel}
use Rattle.std.proofs.lemmas.Bool.{cases_lt, false≢true}
use Rattle.avr_sheet.specs.BitNames.{OCIEA, OCIEB, TOIE}
use Rattle.avr_sheet.specs.Bits.{is_set}
use Rattle.avr_timer.specs.declared.course.Course.{Course}
use Rattle.avr_timer.specs.declared.course.Counter.{Counter}
use Rattle.avr_timer.specs.declared.flags.Flags.{Flags}
use Rattle.avr_timer.specs.declared.timer8.Timer8.{Timer8}
use Rattle.avr_timer.specs.declared.timer16.Timer16.{Timer16}
use Rattle.avr_timer.specs.Count.{is_match, is_overflow}
use Rattle.avr_timer.specs.Ticks.{some_tick, ticks_between, IsFirst}
use Rattle.avr_timer.specs.Modes.{course8, course16, prescale_of, timer2_prescale_of}
use Rattle.avr_timer.specs.Timers.{TimersState, mode8, mode16, counter8, counter16, flags_after, run8, run16, passed8_by, passed16_by, passed8, passed16, passed}
use Rattle.avr_timer.specs.Requests.{pending_vector, is_requested, vectors}
use Rattle.avr_timer.specs.Quiet.{IsQuiet, IsQuietFor, StaysQuiet8, StaysQuiet16, StaysQuiet, RequestComes8, RequestComes16, RequestComes}
use Rattle.avr_timer.proofs.Firsts.{some_tick-never, some_tick-once, not_true}
use Rattle.avr_timer.proofs.Spans.{div-le}

-- before the first tick that passes none has
pub before-first : (test : ℕ → Bool) (d k : ℕ) → IsFirst test d → k < d → some_tick test k ≡ false
before-first test d k first below =
    some_tick-never test k (λ i under. not_true (test i) (λ passes. let least : d ≤ i + 1 = first.least i passes in omega arith))

-- a cycle count before that of a tick has fewer ticks behind it
pub ticks-before : (p now number to : ℕ) → 0 < p → now ≤ to → to < (now / p + number) * p → ticks_between p now to < number
ticks-before p now number to some order early =
    let low : now / p ≤ to / p = div-le p now to order in
    let high : to / p < now / p + number = (div-lt_iff_lt-mul some).1 early in
    omega arith

and-or : (e m s : Bool) → (e && m) ≡ false → (e && s) ≡ false → (e && (m || s)) ≡ false
and-or true true s now later = now
and-or true false s now later = later
and-or false m s now later = refl

pub quiet-after : (timsk : ℕ) (f : Flags) (course : Course) (c : Counter) (a b k : ℕ)
    → IsQuiet timsk f → IsQuietFor timsk course c a b k → IsQuiet timsk (flags_after course c a b f k)
quiet-after timsk f course c a b k now later = record {
  match_a = and-or (is_set timsk OCIEA) f.match_a (some_tick (is_match course c a) k) now.match_a later.match_a;
  match_b = and-or (is_set timsk OCIEB) f.match_b (some_tick (is_match course c b) k) now.match_b later.match_b;
  overflow = and-or (is_set timsk TOIE) f.overflow (some_tick (is_overflow course c) k) now.overflow later.overflow;
}

-- a timer that runs is quiet as long as its ticks are
pub stays8 : (prescale : Option ℕ) (p number : ℕ) (course : Course) (t : Timer8) (now until : ℕ)
    → prescale ≡ Some p → course8 (mode8 t) t.ocra ≡ Some course
    → ((to : ℕ) → now ≤ to → to < until → ticks_between p now to < number)
    → ((k : ℕ) → k < number → IsQuietFor t.timsk course (counter8 t) t.ocra t.ocrb k)
    → StaysQuiet8 prescale t now until
unfolding run8
stays8 prescale p number course t now until runs mode ticks quiet at_now to order early =
    rw (runs, mode) (quiet-after t.timsk t.flags course (counter8 t) t.ocra t.ocrb (ticks_between p now to) at_now
    (quiet (ticks_between p now to) (ticks to order early)))

pub stays16 : (prescale : Option ℕ) (p number : ℕ) (course : Course) (t : Timer16) (now until : ℕ)
    → prescale ≡ Some p → course16 (mode16 t) t.ocra t.icr ≡ Some course
    → ((to : ℕ) → now ≤ to → to < until → ticks_between p now to < number)
    → ((k : ℕ) → k < number → IsQuietFor t.timsk course (counter16 t) t.ocra t.ocrb k)
    → StaysQuiet16 prescale t now until
unfolding run16
stays16 prescale p number course t now until runs mode ticks quiet at_now to order early =
    rw (runs, mode) (quiet-after t.timsk t.flags course (counter16 t) t.ocra t.ocrb (ticks_between p now to) at_now
    (quiet (ticks_between p now to) (ticks to order early)))

timsk8-kept : (p : Option ℕ) (o : Option Course) (t : Timer8) (a b : ℕ) → t.timsk ≡ (passed8_by p o t a b).timsk
unfolding run8
timsk8-kept None o t a b = refl
timsk8-kept (Some p) None t a b = refl
timsk8-kept (Some p) (Some course) t a b = refl

timsk16-kept : (p : Option ℕ) (o : Option Course) (t : Timer16) (a b : ℕ) → t.timsk ≡ (passed16_by p o t a b).timsk
unfolding run16
timsk16-kept None o t a b = refl
timsk16-kept (Some p) None t a b = refl
timsk16-kept (Some p) (Some course) t a b = refl

none-head : (b : Bool) (v : ℕ) (rest : Option ℕ) → (if b then Some v else rest) ≡ None → (b ≡ false) × (rest ≡ None)
none-head true v rest is = absurd (let no : Some v ≡ None = is in cc)
none-head false v rest is = (refl, is)

head-none : (b : Bool) (v : ℕ) (rest : Option ℕ) → b ≡ false → rest ≡ None → (if b then Some v else rest) ≡ None
head-none b v rest is more = rw (is, more) refl

-- nothing is pending exactly where each timer is quiet
pub record AreQuiet (s : TimersState) : Type 0 where
  pub timer0 : IsQuiet s.timer0.timsk s.timer0.flags
  pub timer1 : IsQuiet s.timer1.timsk s.timer1.flags
  pub timer2 : IsQuiet s.timer2.timsk s.timer2.flags

pub quiet-of : (s : TimersState) → pending_vector s ≡ None → AreQuiet s
quiet-of s none =
    let a2 = none-head _ _ _ none in
    let b2 = none-head _ _ _ a2.1 in
    let o2 = none-head _ _ _ b2.1 in
    let a1 = none-head _ _ _ o2.1 in
    let b1 = none-head _ _ _ a1.1 in
    let o1 = none-head _ _ _ b1.1 in
    let a0 = none-head _ _ _ o1.1 in
    let b0 = none-head _ _ _ a0.1 in
    let o0 = none-head _ _ _ b0.1 in
    record {
      timer0 = record { match_a = a0.0; match_b = b0.0; overflow = o0.0 };
      timer1 = record { match_a = a1.0; match_b = b1.0; overflow = o1.0 };
      timer2 = record { match_a = a2.0; match_b = b2.0; overflow = o2.0 };
    }

pub pending-of : (s : TimersState) → AreQuiet s → pending_vector s ≡ None
pending-of s are =
    head-none _ _ _ are.timer2.match_a (head-none _ _ _ are.timer2.match_b (head-none _ _ _ are.timer2.overflow
    (head-none _ _ _ are.timer1.match_a (head-none _ _ _ are.timer1.match_b (head-none _ _ _ are.timer1.overflow
    (head-none _ _ _ are.timer0.match_a (head-none _ _ _ are.timer0.match_b (head-none _ _ _ are.timer0.overflow refl))))))))

kept : (timsk later : ℕ) (f : Flags) → timsk ≡ later → IsQuiet timsk f → IsQuiet later f
kept timsk later f same quiet = subst (λ (n : ℕ). IsQuiet n f) same quiet

-- the timers stay quiet as long as each of them does
pub stay-quiet : (s : TimersState) (now until0 until1 until2 until : ℕ)
    → StaysQuiet8 (prescale_of (s.timer0.tccrb % 8)) s.timer0 now until0
    → StaysQuiet16 (prescale_of (s.timer1.tccrb % 8)) s.timer1 now until1
    → StaysQuiet8 (timer2_prescale_of (s.timer2.tccrb % 8)) s.timer2 now until2
    → until ≤ until0 → until ≤ until1 → until ≤ until2 → StaysQuiet s now until
stay-quiet s now until0 until1 until2 until zero one two first second third none to order early =
    let are = quiet-of s none in
    pending-of (passed s now to) (record {
      timer0 = kept _ _ _ (timsk8-kept (prescale_of (s.timer0.tccrb % 8)) (course8 (mode8 s.timer0) s.timer0.ocra) s.timer0 now to) (zero are.timer0 to order (omega arith));
      timer1 = kept _ _ _ (timsk16-kept (prescale_of (s.timer1.tccrb % 8)) (course16 (mode16 s.timer1) s.timer1.ocra s.timer1.icr) s.timer1 now to) (one are.timer1 to order (omega arith));
      timer2 = kept _ _ _ (timsk8-kept (timer2_prescale_of (s.timer2.tccrb % 8)) (course8 (mode8 s.timer2) s.timer2.ocra) s.timer2 now to) (two are.timer2 to order (omega arith));
    })

-- at the first tick that passes one has
pub at-first : (test : ℕ → Bool) (d : ℕ) → IsFirst test d → some_tick test d ≡ true
at-first test d first =
    let positive : 1 ≤ d = first.positive in
    let number : d - 1 + 1 ≡ d = omega arith in
    some_tick-once test d (d - 1) (omega arith) (first.passes (d - 1) number)

-- the least of two is one of them
least-of : (x y : ℕ) → (min x y ≡ x) ⊎ (min x y ≡ y)
least-of x y = elim (cases_lt y x) [ inl below ↦ inr (omega arith) | inr above ↦ inl (omega arith) ]

least-of-three : (x y z m n : ℕ) → m ≡ min x y → n ≡ min m z → (n ≡ x) ⊎ ((n ≡ y) ⊎ (n ≡ z))
least-of-three x y z m n first second =
    elim (least-of m z) [
      | inr last ↦ inr (inr (second ∙ last))
      | inl before ↦ elim (least-of x y) [
        | inl one ↦ inl (second ∙ before ∙ first ∙ one)
        | inr two ↦ inr (inl (second ∙ before ∙ first ∙ two))
      ]
    ]

clash : (b : Bool) → b ≡ true → b ≡ false → ⊥
clash b yes_is no_is = false≢true (sym no_is ∙ yes_is)

-- the first enabled flag rises at the least of the three ticks
pub flag-rises : (timsk : ℕ) (course : Course) (c : Counter) (a b x y z m n : ℕ) → m ≡ min x y → n ≡ min m z
    → (x < 2 ^ 64 - 1 → (is_set timsk OCIEA && some_tick (is_match course c a) x) ≡ true)
    → (y < 2 ^ 64 - 1 → (is_set timsk OCIEB && some_tick (is_match course c b) y) ≡ true)
    → (z < 2 ^ 64 - 1 → (is_set timsk TOIE && some_tick (is_overflow course c) z) ≡ true)
    → n < 2 ^ 64 - 1 → IsQuietFor timsk course c a b n → ⊥
flag-rises timsk course c a b x y z m n first second at_a at_b at_o small quiet =
    elim (least-of-three x y z m n first second) [
      | inl is ↦ clash (is_set timsk OCIEA && some_tick (is_match course c a) n) (rw is (at_a (omega (arith, is, small)))) quiet.match_a
      | inr (inl is) ↦ clash (is_set timsk OCIEB && some_tick (is_match course c b) n) (rw is (at_b (omega (arith, is, small)))) quiet.match_b
      | inr (inr is) ↦ clash (is_set timsk TOIE && some_tick (is_overflow course c) n) (rw is (at_o (omega (arith, is, small)))) quiet.overflow
    ]

-- the cycle count of a tick has just that tick behind it
pub ticks-at : (p now number at : ℕ) → 0 < p → at ≡ (now / p + number) * p → ticks_between p now at ≡ number
ticks-at p now number at some is =
    let all : at / p ≡ now / p + number = ap (λ (n : ℕ). n / p) is ∙ mul-div_cancel (now / p + number) some in
    omega (arith, all)

-- a product that no bound has cut
exact-product : (p q sum result : ℕ) → 0 < p → sum ≡ min q (2 ^ 64 - 1) → result ≡ min (sum * p) (2 ^ 64 - 1) → result < 2 ^ 64 - 1
    → (q < 2 ^ 64 - 1) × (result ≡ q * p)
exact-product p q sum result some sum_is is small =
    elim (cases_lt q (2 ^ 64 - 1)) [
      | inl below ↦
          let same : sum ≡ q = omega (arith, sum_is) in
          let product : result ≡ min (q * p) (2 ^ 64 - 1) = is ∙ ap (λ (n : ℕ). min (n * p) (2 ^ 64 - 1)) same in
          (below, omega (arith, product, small))
      | inr above ↦
          let same : sum ≡ 2 ^ 64 - 1 = omega (arith, sum_is) in
          let product : result ≡ min ((2 ^ 64 - 1) * p) (2 ^ 64 - 1) = is ∙ ap (λ (n : ℕ). min (n * p) (2 ^ 64 - 1)) same in
          absurd (omega (arith, product, small))
    ]

pub cycle-at : (p now number sum result : ℕ) → 0 < p → sum ≡ min (now / p + number) (2 ^ 64 - 1) → result ≡ min (sum * p) (2 ^ 64 - 1)
    → result < 2 ^ 64 - 1 → ticks_between p now result ≡ number
cycle-at p now number sum result some sum_is is small =
    ticks-at p now number result some (exact-product p (now / p + number) sum result some sum_is is small).1

pub number-small : (p now number sum result : ℕ) → 0 < p → sum ≡ min (now / p + number) (2 ^ 64 - 1) → result ≡ min (sum * p) (2 ^ 64 - 1)
    → result < 2 ^ 64 - 1 → number < 2 ^ 64 - 1
number-small p now number sum result some sum_is is small =
    let below = (exact-product p (now / p + number) sum result some sum_is is small).0 in omega (arith, below)

or-quiet : (e f s : Bool) → (e && (f || s)) ≡ false → (e && s) ≡ false
or-quiet true true s is = absurd (false≢true (sym is))
or-quiet true false s is = is
or-quiet false f s is = refl

-- a timer that is quiet after some ticks was quiet for them
quiet-for : (timsk : ℕ) (f : Flags) (course : Course) (c : Counter) (a b k : ℕ)
    → IsQuiet timsk (flags_after course c a b f k) → IsQuietFor timsk course c a b k
quiet-for timsk f course c a b k quiet = record {
  match_a = or-quiet (is_set timsk OCIEA) f.match_a (some_tick (is_match course c a) k) quiet.match_a;
  match_b = or-quiet (is_set timsk OCIEB) f.match_b (some_tick (is_match course c b) k) quiet.match_b;
  overflow = or-quiet (is_set timsk TOIE) f.overflow (some_tick (is_overflow course c) k) quiet.overflow;
}

pub comes8 : (prescale : Option ℕ) (p number : ℕ) (course : Course) (t : Timer8) (now at : ℕ)
    → prescale ≡ Some p → course8 (mode8 t) t.ocra ≡ Some course
    → (now ≤ at → at < 2 ^ 64 - 1 → ticks_between p now at ≡ number)
    → (at < 2 ^ 64 - 1 → (IsQuietFor t.timsk course (counter8 t) t.ocra t.ocrb number → ⊥))
    → RequestComes8 prescale t now at
unfolding run8
comes8 prescale p number course t now at runs mode ticks rises order small quiet =
    let after : IsQuiet t.timsk (flags_after course (counter8 t) t.ocra t.ocrb t.flags (ticks_between p now at)) = rw (runs, mode) at quiet in
    rises small (rw (ticks order small) at (quiet-for t.timsk t.flags course (counter8 t) t.ocra t.ocrb (ticks_between p now at) after))

pub comes16 : (prescale : Option ℕ) (p number : ℕ) (course : Course) (t : Timer16) (now at : ℕ)
    → prescale ≡ Some p → course16 (mode16 t) t.ocra t.icr ≡ Some course
    → (now ≤ at → at < 2 ^ 64 - 1 → ticks_between p now at ≡ number)
    → (at < 2 ^ 64 - 1 → (IsQuietFor t.timsk course (counter16 t) t.ocra t.ocrb number → ⊥))
    → RequestComes16 prescale t now at
unfolding run16
comes16 prescale p number course t now at runs mode ticks rises order small quiet =
    let after : IsQuiet t.timsk (flags_after course (counter16 t) t.ocra t.ocrb t.flags (ticks_between p now at)) = rw (runs, mode) at quiet in
    rises small (rw (ticks order small) at (quiet-for t.timsk t.flags course (counter16 t) t.ocra t.ocrb (ticks_between p now at) after))

-- the request of the first of the timers comes
pub request-comes : (s : TimersState) (now until0 until1 until2 first until : ℕ) → first ≡ min until0 until1 → until ≡ min first until2
    → RequestComes8 (prescale_of (s.timer0.tccrb % 8)) s.timer0 now until0
    → RequestComes16 (prescale_of (s.timer1.tccrb % 8)) s.timer1 now until1
    → RequestComes8 (timer2_prescale_of (s.timer2.tccrb % 8)) s.timer2 now until2
    → RequestComes s now until
request-comes s now until0 until1 until2 first until one_is is zero one two order small none =
    let are = quiet-of (passed s now until) none in
    elim (least-of-three until0 until1 until2 first until one_is is) [
      | inl same ↦ subst (λ (n : ℕ). RequestComes8 (prescale_of (s.timer0.tccrb % 8)) s.timer0 now n) (sym same) zero order small
          (kept _ _ _ (sym (timsk8-kept (prescale_of (s.timer0.tccrb % 8)) (course8 (mode8 s.timer0) s.timer0.ocra) s.timer0 now until)) are.timer0)
      | inr (inl same) ↦ subst (λ (n : ℕ). RequestComes16 (prescale_of (s.timer1.tccrb % 8)) s.timer1 now n) (sym same) one order small
          (kept _ _ _ (sym (timsk16-kept (prescale_of (s.timer1.tccrb % 8)) (course16 (mode16 s.timer1) s.timer1.ocra s.timer1.icr) s.timer1 now until)) are.timer1)
      | inr (inr same) ↦ subst (λ (n : ℕ). RequestComes8 (timer2_prescale_of (s.timer2.tccrb % 8)) s.timer2 now n) (sym same) two order small
          (kept _ _ _ (sym (timsk8-kept (timer2_prescale_of (s.timer2.tccrb % 8)) (course8 (mode8 s.timer2) s.timer2.ocra) s.timer2 now until)) are.timer2)
    ]
