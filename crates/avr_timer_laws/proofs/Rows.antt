-- The closed form of each mode goes by the datasheet's row of it.
use Rattle.std.proofs.Common.{◌≡◌, ℕ, ◌+◌, ◌≤◌, Bool, true, false, Option, Some, None, refl, ap, arith, ◌∙◌}
use Rattle.std.specs.Prelude.{◌==◌, ◌&&◌, ◌||◌, not, if◌then◌else◌}
use Rattle.std.proofs.lemmas.Bool.Decides.{nat_tests}
use Rattle.avr_timer.specs.declared.course.Course.{Course}
use Rattle.avr_timer.specs.declared.course.Counter.{Counter}
use Rattle.avr_timer.specs.declared.course.Waveform.TheVariants.{Normal, ClearOnCompare, FastPwm, PhaseCorrectPwm}
use Rattle.avr_timer.specs.Count.{counted, swung, value_after, down_after, is_overflow}
use Rattle.avr_timer.specs.Modes.{course8, course16, course_of}
use Rattle.avr_timer_laws.specs.Tick.{Single, Dual, OnMax, OnTop, OnBottom, Row, row, rows8, rows16, row_in, next_value, sets_overflow, counter_ticked}
use Rattle.avr_timer_laws.proofs.Ones.{up-none, up-fits, up-one, swung-none, swung-fits, swung-one, down-one}

-- A course goes by a row: TOP is within MAX, a counter stays within it, and a tick is the row's.
pub record GoesBy (max : ℕ) (course : Course) (r : Row) : Type 0 where
  pub order : course.top ≤ course.max
  pub full : course.max ≡ max
  pub fits : (c : Counter) (k : ℕ) → c.value ≤ max → value_after course c k ≤ max
  pub value : (c : Counter) → c.value ≤ max → value_after course c 1 ≡ next_value r.slope max r.top c
  pub down : (c : Counter) → down_after course c 1 ≡ (counter_ticked r max c).down
  pub overflow : (c : Counter) → c.value ≤ max → is_overflow course c 0 ≡ sets_overflow r.overflow max r.top c.value (next_value r.slope max r.top c)

-- up, with the overflow at MAX
normal : (number max top : ℕ) → top ≤ max → GoesBy max (course_of Normal max top) (row number Single top OnMax)
unfolding value_after down_after
normal number max top order = record {
  order = order;
  full = refl;
  fits = λ c k fits. up-fits max top c.value k order fits;
  value = λ c fits. up-one max top c.value order fits;
  down = λ c. refl;
  overflow = λ c fits. ap (λ v. v == max) (up-none max top c.value order fits);
}

clear : (number max top : ℕ) → top ≤ max → GoesBy max (course_of ClearOnCompare max top) (row number Single top OnMax)
unfolding value_after down_after
clear number max top order = record {
  order = order;
  full = refl;
  fits = λ c k fits. up-fits max top c.value k order fits;
  value = λ c fits. up-one max top c.value order fits;
  down = λ c. refl;
  overflow = λ c fits. ap (λ v. v == max) (up-none max top c.value order fits);
}

-- a return to 0 is the tick from TOP or from MAX
returned : (max top v now : ℕ) → now ≡ (if v == top || v == max then 0 else v + 1) → (now == 0) ≡ (v == top || v == max)
returned max top v now is = grind (arith, nat_tests)

returned-full : (max v now : ℕ) → now ≡ (if v == max || v == max then 0 else v + 1) → (now == 0) ≡ (v == max)
returned-full max v now is = grind (arith, nat_tests)

fast : (number max top : ℕ) → top ≤ max → GoesBy max (course_of FastPwm max top) (row number Single top OnTop)
unfolding value_after down_after
fast number max top order = record {
  order = order;
  full = refl;
  fits = λ c k fits. up-fits max top c.value k order fits;
  value = λ c fits. up-one max top c.value order fits;
  down = λ c. refl;
  overflow = λ c fits. returned max top c.value (counted max top c.value 1) (up-one max top c.value order fits);
}

fast-full : (number max : ℕ) → GoesBy max (course_of FastPwm max max) (row number Single max OnMax)
unfolding value_after down_after
fast-full number max =
    let order : max ≤ max = omega arith in
    record {
      order = order;
      full = refl;
      fits = λ c k fits. up-fits max max c.value k order fits;
      value = λ c fits. up-one max max c.value order fits;
      down = λ c. refl;
      overflow = λ c fits. returned-full max c.value (counted max max c.value 1) (up-one max max c.value order fits);
    }

-- up and down
phase : (number max top : ℕ) → top ≤ max → GoesBy max (course_of PhaseCorrectPwm max top) (row number Dual top OnBottom)
unfolding value_after down_after
phase number max top order = record {
  order = order;
  full = refl;
  fits = λ c k fits. swung-fits max top c.down c.value k order fits;
  value = λ c fits. swung-one top c.down c.value;
  down = λ c. down-one top c.down c.value;
  overflow = λ c fits.
      ap (λ v. swung top c.down c.value 1 == 0 && not (v == 0)) (swung-none top c.down c.value)
      ∙ ap (λ v. v == 0 && not (c.value == 0)) (swung-one top c.down c.value);
}

-- the two tables, mode by mode
abbrev pub Agrees : ℕ → Option Course → Option Row → Type 0
Agrees max None None = Unit {0}
Agrees max None (Some r) = ⊥
Agrees max (Some course) None = ⊥
Agrees max (Some course) (Some r) = GoesBy max course r

choose : (max : ℕ) (b : Bool) (x y : Option Course) (r q : Option Row) → Agrees max x r → Agrees max y q
    → Agrees max (if b then x else y) (if b then r else q)
choose max true x y r q first rest = first
choose max false x y r q first rest = rest

pub agrees8 : (mode ocra : ℕ) → ocra ≤ 255 → Agrees 255 (course8 mode ocra) (row_in (rows8 ocra) mode)
agrees8 mode ocra order =
    choose 255 (mode == 0) (Some (course_of Normal 255 255)) _ (Some (row 0 Single 255 OnMax)) _ (normal 0 255 255 (omega arith))
    (choose 255 (mode == 1) (Some (course_of PhaseCorrectPwm 255 255)) _ (Some (row 1 Dual 255 OnBottom)) _ (phase 1 255 255 (omega arith))
    (choose 255 (mode == 2) (Some (course_of ClearOnCompare 255 ocra)) _ (Some (row 2 Single ocra OnMax)) _ (clear 2 255 ocra order)
    (choose 255 (mode == 3) (Some (course_of FastPwm 255 255)) _ (Some (row 3 Single 255 OnMax)) _ (fast-full 3 255)
    (choose 255 (mode == 5) (Some (course_of PhaseCorrectPwm 255 ocra)) _ (Some (row 5 Dual ocra OnBottom)) _ (phase 5 255 ocra order)
    (choose 255 (mode == 7) (Some (course_of FastPwm 255 ocra)) _ (Some (row 7 Single ocra OnTop)) _ (fast 7 255 ocra order)
    (tt))))))

pub agrees16 : (mode ocra icr : ℕ) → ocra ≤ 65535 → icr ≤ 65535 → Agrees 65535 (course16 mode ocra icr) (row_in (rows16 ocra icr) mode)
agrees16 mode ocra icr order capture =
    choose 65535 (mode == 0) (Some (course_of Normal 65535 65535)) _ (Some (row 0 Single 65535 OnMax)) _ (normal 0 65535 65535 (omega arith))
    (choose 65535 (mode == 1) (Some (course_of PhaseCorrectPwm 65535 255)) _ (Some (row 1 Dual 255 OnBottom)) _ (phase 1 65535 255 (omega arith))
    (choose 65535 (mode == 2) (Some (course_of PhaseCorrectPwm 65535 511)) _ (Some (row 2 Dual 511 OnBottom)) _ (phase 2 65535 511 (omega arith))
    (choose 65535 (mode == 3) (Some (course_of PhaseCorrectPwm 65535 1023)) _ (Some (row 3 Dual 1023 OnBottom)) _ (phase 3 65535 1023 (omega arith))
    (choose 65535 (mode == 4) (Some (course_of ClearOnCompare 65535 ocra)) _ (Some (row 4 Single ocra OnMax)) _ (clear 4 65535 ocra order)
    (choose 65535 (mode == 5) (Some (course_of FastPwm 65535 255)) _ (Some (row 5 Single 255 OnTop)) _ (fast 5 65535 255 (omega arith))
    (choose 65535 (mode == 6) (Some (course_of FastPwm 65535 511)) _ (Some (row 6 Single 511 OnTop)) _ (fast 6 65535 511 (omega arith))
    (choose 65535 (mode == 7) (Some (course_of FastPwm 65535 1023)) _ (Some (row 7 Single 1023 OnTop)) _ (fast 7 65535 1023 (omega arith))
    (choose 65535 (mode == 12) (Some (course_of ClearOnCompare 65535 icr)) _ (Some (row 12 Single icr OnMax)) _ (clear 12 65535 icr capture)
    (choose 65535 (mode == 14) (Some (course_of FastPwm 65535 icr)) _ (Some (row 14 Single icr OnTop)) _ (fast 14 65535 icr capture)
    (choose 65535 (mode == 15) (Some (course_of FastPwm 65535 ocra)) _ (Some (row 15 Single ocra OnTop)) _ (fast 15 65535 ocra order)
    (tt)))))))))))
