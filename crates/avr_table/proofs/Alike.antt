-- A private function of the decoder that agrees with the instruction table at each word that begins with a nibble.
use Rattle.std.proofs.Common.{◌≡◌, ℕ, ◌*◌, ◌/◌, Bool, true, false, List, [], ◌∷◌, refl, ap, sym, ◌∙◌, arith, inl, inr}
use Rattle.std.specs.Prelude.{Result, bit_and, filter, ◌==◌}
use Rattle.std.proofs.lemmas.Nat.{and_shr}
use Rattle.avr_table.specs.Row.{Row, fits}
use Rattle.avr_table.specs.Rows.{rows}
use Rattle.avr_table.specs.Decoded.{decoded, decoded_by}
use Rattle.avr_table.specs.declared.instr.Instr.{Instr}
use Rattle.avr_table.specs.declared.fault.DecodeFault.{DecodeFault}
use Rattle.avr_sheet.proofs.Table.{table, same_at}
use Rattle.avr_table.proofs.Rows.{at_first, past_first, is_either, test_from_is, test_from_not}

-- Whether a word that begins with this nibble may fit a row.
abbrev pub begins : ℕ → Row → Bool
begins nibble row = bit_and (row.mask / 4096) nibble == row.bits / 4096

pub not_fitting : (nibble : ℕ) (row : Row) (w : ℕ) → w / 4096 ≡ nibble → begins nibble row ≡ false → fits row w ≡ false
not_fitting nibble row w is other =
    test_from_not _ _ (λ fit.
    let high : bit_and (row.mask / 4096) (w / 4096) ≡ row.bits / 4096 = sym (and_shr row.mask w 12) ∙ ap (λ n. n / 4096) fit in
    let may : begins nibble row ≡ true = test_from_is _ _ (ap (λ n. bit_and (row.mask / 4096) n) (sym is) ∙ high) in
    cc)

-- Rows that no such word fits may be left out.
keep : (nibble : ℕ) (x : Row) (rs : List Row) → begins nibble x ≡ true → filter (begins nibble) (x ∷ rs) ≡ x ∷ filter (begins nibble) rs
keep nibble x rs may = rw (may, filter) refl

leave : (nibble : ℕ) (x : Row) (rs : List Row) → begins nibble x ≡ false → filter (begins nibble) (x ∷ rs) ≡ filter (begins nibble) rs
leave nibble x rs other = rw (other, filter) refl

behind : (x : Row) (ls rs : List Row) (w n : ℕ) → decoded_by ls w n ≡ decoded_by rs w n → decoded_by (x ∷ ls) w n ≡ decoded_by (x ∷ rs) w n
behind x ls rs w n same = elim (is_either (fits x w)) [
  | inl here ↦ at_first x ls w n here ∙ sym (at_first x rs w n here)
  | inr past ↦ past_first x ls w n past ∙ same ∙ sym (past_first x rs w n past)
]

left_out : (nibble : ℕ) (rs : List Row) (w n : ℕ) → w / 4096 ≡ nibble → decoded_by (filter (begins nibble) rs) w n ≡ decoded_by rs w n
left_out nibble [] w n is = refl
left_out nibble (x ∷ rs) w n is = elim (is_either (begins nibble x)) [
  | inl may ↦ ap (λ ls. decoded_by ls w n) (keep nibble x rs may) ∙ behind x (filter (begins nibble) rs) rs w n (left_out nibble rs w n is)
  | inr other ↦
      ap (λ ls. decoded_by ls w n) (leave nibble x rs other) ∙ left_out nibble rs w n is ∙ sym (past_first x rs w n (not_fitting nibble x w is other))
]

-- It agrees at each word that begins with this nibble, by computation over the rows that such a word may fit.
abbrev pub Agrees : (ℕ → ℕ → Result Instr DecodeFault) → ℕ → Type 0
Agrees f nibble =
    (next : ℕ) → table (λ (rs : List Row) w. f w next) (filter (begins nibble) rows) (nibble * 4096) 4096
    ≡ table (λ rs w. decoded_by rs w next) (filter (begins nibble) rows) (nibble * 4096) 4096

pub at_each : (f : ℕ → ℕ → Result Instr DecodeFault) (nibble : ℕ) → Agrees f nibble → (w next : ℕ) → w / 4096 ≡ nibble → f w next ≡ decoded w next
unfolding decoded
at_each f nibble agrees w next is =
    same_at (λ (rs : List Row) v. f v next) (λ rs v. decoded_by rs v next) (filter (begins nibble) rows) (nibble * 4096) 4096 (agrees next) w (omega arith) (omega arith)
    ∙ left_out nibble rows w next is
