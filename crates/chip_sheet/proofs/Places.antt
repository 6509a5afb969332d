-- Places of a buffer: a position taken modulo 65,536 keeps its place, and which of some positions stands at an address.
use Rattle.std.proofs.Common.{◌≡◌, ◌<◌, ◌↔◌, ℕ, ◌+◌, ◌*◌, ◌%◌, zero, suc, Bool, true, false, ◌||◌, cond, eqb, Option, Some, inl, inr, refl, sym, ap, ◌∙◌, subst, arith}
use Rattle.std.proofs.lemmas.Bool.{cases_Bool, eqb-true, eqb-false, cond-false}
use Rattle.std.specs.Int.{◌∣◌}
use Rattle.std.proofs.Math.Nat.{mod-mod_of_dvd, dvd-mul_right}
use Rattle.std.specs.Option.{is_some}
use Rattle.chip_sheet.specs.Past.{Past}
use Rattle.chip_sheet.specs.Positions.{place_among, found_among}
use Rattle.chip_sheet.specs.Sizes.{is_size, tx_size}
use Rattle.chip_sheet.specs.Life.{lives}
use Rattle.chip_sheet.specs.Streams.{Starts, taken, tx_base}
use Rattle.chip_sheet.specs.Windows.{flight, in_flight_at}

divides : (k m : ℕ) → k ≡ m → m * 1024 ∣ 65536 → k * 1024 ∣ 65536
divides k m e h = subst (λ (x : ℕ). x * 1024 ∣ 65536) (sym e) h

one_of : (P : Type 0) (a b c d e f : Bool) → (a || b || c || d || e || f) ≡ true
    → (a ≡ true → P) → (b ≡ true → P) → (c ≡ true → P) → (d ≡ true → P) → (e ≡ true → P) → (f ≡ true → P) → P
one_of P true b c d e f h p q r s t u = p refl
one_of P false true c d e f h p q r s t u = q refl
one_of P false false true d e f h p q r s t u = r refl
one_of P false false false true e f h p q r s t u = s refl
one_of P false false false false true f h p q r s t u = t refl
one_of P false false false false false true h p q r s t u = u refl
one_of P false false false false false false h p q r s t u = cc

size_divides : (k : ℕ) → is_size k ≡ true → 0 < k → k * 1024 ∣ 65536
size_divides k h some =
    one_of (k * 1024 ∣ 65536) (eqb k 0) (eqb k 1) (eqb k 2) (eqb k 4) (eqb k 8) (eqb k 16) h
    (λ none. let e = eqb-true k 0 none in absurd (omega (arith, e)))
    (λ e. divides k 1 (eqb-true k 1 e) (dvd-mul_right 1024 64))
    (λ e. divides k 2 (eqb-true k 2 e) (dvd-mul_right 2048 32))
    (λ e. divides k 4 (eqb-true k 4 e) (dvd-mul_right 4096 16))
    (λ e. divides k 8 (eqb-true k 8 e) (dvd-mul_right 8192 8))
    (λ e. divides k 16 (eqb-true k 16 e) (dvd-mul_right 16384 4))

pub same_place_of : (k at : ℕ) → is_size k ≡ true → 0 < k → at % 65536 % (k * 1024) ≡ at % (k * 1024)
same_place_of k at h some = mod-mod_of_dvd (k * 1024) at (size_divides k h some)

-- One of so many positions stands at the place of an address.
abbrev pub StandsAmong : ℕ → ℕ → ℕ → ℕ → Type 0
StandsAmong at count size addr = (j : ℕ) × (j < count) × ((at + j) % size ≡ addr % size)

is_among : (at count size addr : ℕ) → is_some (place_among at count size addr) ≡ true → StandsAmong at count size addr
is_among at zero size addr h = cc
is_among at (suc count) size addr h =
    elim (cases_Bool (eqb ((at + count) % size) (addr % size))) [
      | inl here ↦ (count, omega arith, eqb-true _ _ here)
      | inr away ↦
          let less = is_among at count size addr (sym (ap is_some (cond-false (eqb ((at + count) % size) (addr % size)) (Some count) (place_among at count size addr) away)) ∙ h) in
          let below = less.1 in
          (less.0, omega (arith, below), less.2)
    ]

found_or : (b : Bool) (count : ℕ) (rest : Option ℕ) → (b ≡ false → is_some rest ≡ true) → is_some (cond b (Some count) rest) ≡ true
found_or true count rest h = refl
found_or false count rest h = h refl

among_is : (at count size addr : ℕ) → StandsAmong at count size addr → is_some (place_among at count size addr) ≡ true
among_is at zero size addr (j, below, e) = absurd (omega (arith, below))
among_is at (suc count) size addr (j, below, e) =
    found_or (eqb ((at + count) % size) (addr % size)) count (place_among at count size addr)
    (λ away.
    let other : j ≡ count → ⊥ = λ (same : j ≡ count). eqb-false ((at + count) % size) (addr % size) away (sym (ap (λ (x : ℕ). (at + x) % size) same) ∙ e) in
    among_is at count size addr (j, omega (arith, below, other), e))

pub found_exact : (at count size addr : ℕ) → (is_some (found_among at count size addr) ≡ true) ↔ ((0 < size) × StandsAmong at count size addr)
found_exact at count zero addr = (λ h. cc, λ h. absurd (omega (arith, h.0)))
found_exact at count (suc most) addr = (λ h. (omega arith, is_among at count (suc most) addr h), λ h. among_is at count (suc most) addr h.1)

pub flight_exact : (starts : Starts) (past : Past) (n addr : ℕ)
    → (is_some (in_flight_at starts past n addr) ≡ true)
    ↔ ((0 < tx_size past n) × StandsAmong (tx_base starts past n (lives past n) + taken past n (lives past n)) (flight starts past n) (tx_size past n) addr)
flight_exact starts past n addr = found_exact (tx_base starts past n (lives past n) + taken past n (lives past n)) (flight starts past n) (tx_size past n) addr
