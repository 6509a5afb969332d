-- A received byte that is not released is read at the place of its position.
use Rattle.std.proofs.Common.{◌≡◌, ◌≤◌, ◌<◌, ℕ, ◌+◌, ◌-◌, ◌/◌, ◌%◌, zero, suc, true, eqb, Some, length, inl, inr, sym, ap, ◌∙◌, arith}
use Rattle.std.specs.Prelude.{slice_index}
use Rattle.std.proofs.lemmas.Bool.{cases_Bool, cases_lt, eqb-true, eqb-false, cond-true, cond-false}
use Rattle.std.proofs.Math.Nat.{mul-le-mul_left}
use Rattle.chip_sheet.specs.Past.{Past}
use Rattle.chip_sheet.specs.Positions.{place_among, found_among}
use Rattle.chip_sheet.specs.Life.{status, lives}
use Rattle.chip_sheet.specs.Sizes.{rx_size}
use Rattle.chip_sheet.specs.Streams.{Starts, is_open, got, released, rx_base}
use Rattle.chip_sheet.specs.Windows.{unread, unread_byte, rx_byte}
use Rattle.chip_sheet.specs.Legal.{Legal}
use Rattle.chip_laws.proofs.Unread.{unread_within}

-- Two positions less than a size apart have different places.
one_place : (a b size : ℕ) → a ≤ b → b < a + size → a % size ≡ b % size → a ≡ b
one_place a b size order near same =
    elim (cases_lt (a / size) (b / size)) [
      | inl more ↦ let far = mul-le-mul_left size more in absurd (omega (arith, far))
      | inr less ↦ let back = mul-le-mul_left size less in omega (arith, back)
    ]

found_there : (at count size addr j : ℕ) → j < count → count ≤ size → (at + j) % size ≡ addr % size → place_among at count size addr ≡ Some j
found_there at zero size addr j below fit h = absurd (omega arith)
found_there at (suc count) size addr j below fit h =
    elim (cases_Bool (eqb ((at + count) % size) (addr % size))) [
      | inl here ↦
          let same : at + j ≡ at + count = one_place (at + j) (at + count) size (omega arith) (omega arith) (h ∙ sym (eqb-true ((at + count) % size) (addr % size) here)) in
          cond-true (eqb ((at + count) % size) (addr % size)) (Some count) (place_among at count size addr) here ∙ ap Some (omega arith)
      | inr away ↦
          let other : j ≡ count → ⊥ = λ (same : j ≡ count). eqb-false ((at + count) % size) (addr % size) away (sym (ap (λ (x : ℕ). (at + x) % size) same) ∙ h) in
          cond-false (eqb ((at + count) % size) (addr % size)) (Some count) (place_among at count size addr) away
          ∙ found_there at count size addr j (omega (arith, other)) (omega arith) h
    ]

pub found_at : (at count size addr j : ℕ) → j < count → count ≤ size → (at + j) % size ≡ addr % size → found_among at count size addr ≡ Some j
found_at at count zero addr j below fit h = absurd (omega arith)
found_at at count (suc most) addr j below fit h = found_there at count (suc most) addr j below fit h

pub reads_back : (starts : Starts) (past : Past) (n q addr : ℕ) → n < 8 → Legal starts past → is_open (status past n) ≡ true
    → released starts past n (lives past n) ≤ q → q < length (got starts past n (lives past n))
    → addr % rx_size past n ≡ (rx_base starts past n (lives past n) + q) % rx_size past n
    → rx_byte starts past n addr ≡ slice_index (got starts past n (lives past n)) q
reads_back starts past n q addr below legal on from to place =
    let r = released starts past n (lives past n) in
    let g = length (got starts past n (lives past n)) in
    let base = rx_base starts past n (lives past n) in
    let is : unread starts past n ≡ g - r = cond-true (is_open (status past n)) (g - r) 0 on in
    let fit = unread_within starts past n below legal in
    let back : r + (q - r) ≡ q = omega arith in
    let position : base + r + (q - r) ≡ base + q = omega arith in
    let found = found_at (base + r) (unread starts past n) (rx_size past n) addr (q - r) (omega (arith, is)) fit
    (ap (λ (x : ℕ). x % rx_size past n) position ∙ sym place) in
    ap (unread_byte starts past n) found ∙ ap (slice_index (got starts past n (lives past n))) back
