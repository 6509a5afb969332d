-- The closed form at no tick and at one tick.
use Rattle.std.proofs.Common.{◌≡◌, ◌⊎◌, ℕ, ◌+◌, ◌-◌, ◌*◌, ◌%◌, ◌<◌, ◌≤◌, Bool, true, false, refl, ap, arith, ◌∙◌, inl, inr}
use Rattle.std.specs.Prelude.{◌==◌, ◌||◌, if◌then◌else◌}
use Rattle.std.proofs.Math.Nat.{mod-eq_of_lt, mod_self, eq-or-lt_of_le}
use Rattle.std.proofs.lemmas.Bool.{cases_lt}
use Rattle.std.proofs.lemmas.Bool.Decides.{nat_tests}
use Rattle.avr_timer.specs.Count.{counted, wave, is_falling, swung, swung_down}
use Rattle.avr_timer.proofs.Pieces.{lap-of}
use Rattle.avr_timer.proofs.Upwards.{counted-in, counted-run, counted-fits}
use Rattle.avr_timer.proofs.Waves.{wave-le, wave-up, rising-low, swung-rising, swung-falling, swung-fallen}
use Rattle.avr_timer_laws.specs.Tick.{goes_down}

pub up-none : (max top v : ℕ) → top ≤ max → v ≤ max → counted max top v 0 ≡ v
up-none max top v order fits =
    let lap = lap-of max top v order fits in
    let within : v ≤ lap.0 = lap.1.within in
    counted-run max top v lap.0 0 lap.1 (omega arith) ∙ omega arith

pub up-fits : (max top v k : ℕ) → top ≤ max → v ≤ max → counted max top v k ≤ max
up-fits max top v k order fits = let lap = lap-of max top v order fits in counted-fits max top v lap.0 k lap.1

-- one tick up
up-below : (max top v : ℕ) → top ≤ max → v ≤ max → (v ≡ top → ⊥) → (v ≡ max → ⊥) → counted max top v 1 ≡ v + 1
up-below max top v order fits not_top not_max =
    elim (cases_lt top v) [
      | inl high ↦ grind (arith, nat_tests)
      | inr low ↦ counted-in max top v 1 low ∙ mod-eq_of_lt (omega arith)
    ]

up-top : (max top v : ℕ) → v ≡ top → counted max top v 1 ≡ 0
up-top max top v at = counted-in max top v 1 (omega arith) ∙ ap (λ a. (a + 1) % (top + 1)) at ∙ mod_self (top + 1)

up-max : (max top v : ℕ) → top ≤ max → v ≡ max → counted max top v 1 ≡ 0
up-max max top v order at =
    elim (eq-or-lt_of_le order) [
      | inl same ↦ up-top max top v (omega arith)
      | inr less ↦ grind (arith, nat_tests)
    ]

pub up-one : (max top v : ℕ) → top ≤ max → v ≤ max → counted max top v 1 ≡ (if v == top || v == max then 0 else v + 1)
up-one max top v order fits =
    let below = up-below max top v order fits in
    let top-is = up-top max top v in
    let max-is = up-max max top v order in
    grind (arith, nat_tests)

-- up and down
either : (b : Bool) → (b ≡ true) ⊎ (b ≡ false)
either true = inl refl
either false = inr refl

pub swung-none : (top : ℕ) (down : Bool) (v : ℕ) → swung top down v 0 ≡ v
swung-none top down v =
    elim (either (is_falling top down v)) [
      | inl falls ↦ swung-falling top down v 0 falls (omega arith) ∙ (let same : v - 0 ≡ v = omega arith in same)
      | inr rises ↦
          let low = rising-low top down v rises in
          swung-rising top down v 0 rises ∙ wave-up top (v + 0) (omega arith) (omega arith) ∙ (let same : v + 0 ≡ v = omega arith in same)
    ]

pub swung-fits : (max top : ℕ) (down : Bool) (v k : ℕ) → top ≤ max → v ≤ max → swung top down v k ≤ max
swung-fits max top down v k order fits =
    elim (either (is_falling top down v)) [
      | inl falls ↦ elim (cases_lt v k) [
        | inl past ↦
            let e = swung-fallen top down v k falls past in
            let low = wave-le top (k - v) in
            omega arith
        | inr run ↦ let e = swung-falling top down v k falls run in omega arith
      ]
      | inr rises ↦
          let e = swung-rising top down v k rises in
          let low = wave-le top (v + k) in
          omega arith
    ]

-- one tick of it
swung-rise : (top : ℕ) (down : Bool) (v : ℕ) → is_falling top down v ≡ false → swung top down v 1 ≡ v + 1
swung-rise top down v rises =
    let low = rising-low top down v rises in
    swung-rising top down v 1 rises ∙ wave-up top (v + 1) (omega arith) (omega arith)

swung-turn : (top : ℕ) (down : Bool) (v : ℕ) → is_falling top down v ≡ true → v ≡ 0 → 0 < top → swung top down v 1 ≡ v + 1
swung-turn top down v falls bottom some =
    let left : 1 - v ≡ 1 = omega arith in
    swung-fallen top down v 1 falls (omega arith) ∙ ap (wave top) left ∙ wave-up top 1 some some ∙ omega arith

swung-still : (top : ℕ) (down : Bool) (v : ℕ) → is_falling top down v ≡ true → v ≡ 0 → top ≡ 0 → swung top down v 1 ≡ v - 1
swung-still top down v falls bottom none =
    let e = swung-fallen top down v 1 falls (omega arith) in
    let low = wave-le top (1 - v) in
    omega arith

swung-fall : (top : ℕ) (down : Bool) (v : ℕ) → is_falling top down v ≡ true → 0 < v → swung top down v 1 ≡ v - 1
swung-fall top down v falls some = swung-falling top down v 1 falls (omega arith)

pub swung-one : (top : ℕ) (down : Bool) (v : ℕ) → swung top down v 1 ≡ (if goes_down top down v then v - 1 else v + 1)
unfolding is_falling
swung-one top down v =
    let rise = swung-rise top down v in
    let turn = swung-turn top down v in
    let still = swung-still top down v in
    let fall = swung-fall top down v in
    grind (arith, nat_tests)

-- and its direction then
down-rise : (top : ℕ) (down : Bool) (v : ℕ) → is_falling top down v ≡ false → swung_down top down v 1 ≡ false
down-rise top down v rises =
    let low = rising-low top down v rises in
    let small : (v + 1) % (2 * top) ≡ v + 1 = mod-eq_of_lt (omega arith) in
    grind (arith, nat_tests)

down-turn : (top : ℕ) (down : Bool) (v : ℕ) → is_falling top down v ≡ true → v ≡ 0 → 0 < top → swung_down top down v 1 ≡ false
down-turn top down v falls bottom some =
    let left : 1 - v ≡ 1 = omega arith in
    let small : (1 - v) % (2 * top) ≡ 1 = ap (λ a. a % (2 * top)) left ∙ mod-eq_of_lt (omega arith) in
    grind (arith, nat_tests)

down-still : (top : ℕ) (down : Bool) (v : ℕ) → is_falling top down v ≡ true → v ≡ 0 → top ≡ 0 → swung_down top down v 1 ≡ true
down-still top down v falls bottom none = grind (arith, nat_tests)

down-fall : (top : ℕ) (down : Bool) (v : ℕ) → is_falling top down v ≡ true → 0 < v → swung_down top down v 1 ≡ true
down-fall top down v falls some = grind (arith, nat_tests)

pub down-one : (top : ℕ) (down : Bool) (v : ℕ) → swung_down top down v 1 ≡ goes_down top down v
unfolding is_falling
down-one top down v =
    let rise = down-rise top down v in
    let turn = down-turn top down v in
    let still = down-still top down v in
    let fall = down-fall top down v in
    grind (arith, nat_tests)
