-- The table of the common registers, as the code has it.
use Rattle.std.proofs.Common.{◌≡◌, ◌≢◌, ◌*◌, ◌/◌, ℕ, ◌+◌, ◌≤◌, Bool, true, false, ◌&&◌, eqb, leb, if◌then◌else◌, List, [], ◌∷◌, length, get_or, Some, None, refl, sym, ap, ◌∙◌, arith, inl, inr}
use Rattle.std.proofs.lemmas.Bool.{and_parts, cases_lt, cond-true, cond-false, eq-eqb, ne_eqb}
use Rattle.std.proofs.lemmas.Bool.Decides.{nat_tests}
use Rattle.std.proofs.lemmas.List.{get_or_past}
use Rattle.chip_sheet.specs.CommonBlock.{Rule, Stored, ReadOnly, LinkUp, Register, Place, reserved, common_registers, place_in, common_place}
use Rattle.chip_sheet.specs.Registers.{common_register, shown}
use Rattle.common_regs.specs.declared.registers.TheConstants.{RESET}
use Rattle.common_regs.specs.Places.{is_stored, kept_of}
use Rattle.chip_sheet.proofs.Tables.{table, same_at, outside}

-- each register ends below n
abbrev end_below : List Register → ℕ → Bool
end_below [] n = true
end_below (r ∷ rs) n = leb (r.place + length r.reset) n && end_below rs n

-- behind the last register all is reserved
past_the_registers : (rs : List Register) (n addr : ℕ) → end_below rs n ≡ true → n ≤ addr → place_in rs addr ≡ reserved
past_the_registers [] n addr h above = refl
past_the_registers (r ∷ rs) n addr h above =
    let both = and_parts _ _ h in
    cond-false _ _ _ (outside r.place (r.place + length r.reset) addr n both.0 above) ∙ past_the_registers rs n addr both.1 above

past_the_block : (addr : ℕ) → 58 ≤ addr → common_place addr ≡ reserved
unfolding common_place
past_the_block addr above = past_the_registers common_registers 58 addr refl above

-- the rule of each place, by ranges
abbrev pub rule_in_ranges : ℕ → Rule
rule_in_ranges addr =
    if eqb addr 0x2E then LinkUp else
    (if is_stored addr then Stored else ReadOnly)

rule_table : table (λ addr. (common_place addr).rule) 0 58 ≡ table rule_in_ranges 0 58
unfolding common_place
rule_table = refl

rule_past : (addr : ℕ) → 58 ≤ addr → rule_in_ranges addr ≡ ReadOnly
rule_past addr above = grind (arith, nat_tests)

pub rule_is : (addr : ℕ) → (common_place addr).rule ≡ rule_in_ranges addr
rule_is addr =
    elim (cases_lt addr 58) [
      | inl below ↦ same_at (λ k. (common_place k).rule) rule_in_ranges 0 58 rule_table addr (omega arith) (omega arith)
      | inr above ↦ ap (λ (p : Place). p.rule) (past_the_block addr above) ∙ sym (rule_past addr above)
    ]

reset_table : table (λ addr. get_or RESET addr 0) 0 58 ≡ table (common_register []) 0 58
unfolding common_place
reset_table = refl

-- what the registers hold after a reset
pub reset_is : (addr : ℕ) → get_or RESET addr 0 ≡ common_register [] addr
reset_is addr =
    elim (cases_lt addr 58) [
      | inl below ↦ same_at (λ k. get_or RESET k 0) (common_register []) 0 58 reset_table addr (omega arith) (omega arith)
      | inr above ↦ get_or_past RESET addr 0 (omega arith) ∙ ap (λ p. shown p None) (sym (past_the_block addr above))
    ]

-- what each place keeps, by ranges
pub keeps_link : (addr v : ℕ) → addr ≡ 0x2E → Some (v / 8 * 8 + 7) ≡ kept_of (common_place addr).rule v
keeps_link addr v is = sym (ap (λ (r : Rule). kept_of r v) (rule_is addr ∙ cond-true _ _ _ (eq-eqb _ _ is)))

pub keeps_stored : (addr v : ℕ) → addr ≢ 0x2E → is_stored addr ≡ true → Some v ≡ kept_of (common_place addr).rule v
keeps_stored addr v other is =
    sym (ap (λ (r : Rule). kept_of r v) (rule_is addr ∙ cond-false _ _ _ (ne_eqb _ _ other) ∙ cond-true _ _ _ is))

pub keeps_none : (addr v : ℕ) → addr ≢ 0x2E → is_stored addr ≡ false → None ≡ kept_of (common_place addr).rule v
keeps_none addr v other is =
    sym (ap (λ (r : Rule). kept_of r v) (rule_is addr ∙ cond-false _ _ _ (ne_eqb _ _ other) ∙ cond-false _ _ _ is))
