-- SIR and INTn from the registers as numbers.
use Rattle.std.specs.Prelude.{◌≡◌, ◌<◌, ◌^◌, ℕ, Bool, not, ◌==◌, ◌||◌, bit_and}
use Rattle.chip_sheet.specs.Bits.{has_bit}

-- A register has a bit that is 1 in its mask.
abbrev pub meets : ℕ → ℕ → Bool
meets register mask = not (bit_and register mask == 0)

-- A byte shows which of the eight sockets have an interrupt that their mask lets through, where these are Sn_IR and Sn_IMR of each.
abbrev pub ShowsEach : (ℕ → ℕ) → (ℕ → ℕ) → ℕ → Type 0
ShowsEach irs imrs sir = (n : ℕ) → n < 8 → has_bit sir (2 ^ n) ≡ meets (irs n) (imrs n)

-- INTn is low by IR and IMR, SIR and SIMR.
abbrev pub is_low : ℕ → ℕ → ℕ → ℕ → Bool
is_low ir imr sir simr = meets ir imr || meets sir simr
