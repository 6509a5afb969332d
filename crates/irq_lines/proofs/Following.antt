-- The lines beside the definitions over a history.
use Rattle.std.proofs.Common.{◌≡◌, ◌≢◌, ◌<◌, ℕ, ◌+◌, ◌^◌, Bool, false, not, ◌||◌, cond, eqb, ◌∷◌, refl, sym, ap, ◌∙◌, arith, inl, inr}
use lib.Bits.{bit_and}
use Rattle.std.proofs.lemmas.Bool.{cases_eq}
use Rattle.std.proofs.lemmas.Nat.{and_le_l}
use Rattle.chip_sheet.specs.declared.event.Entry.{Entry}
use Rattle.chip_sheet.specs.Past.{Past}
use Rattle.chip_sheet.specs.Bits.{has_bit}
use Rattle.chip_sheet.specs.Names as names
use Rattle.chip_sheet.specs.CommonBlock.{common_place}
use Rattle.chip_sheet.specs.Registers.{common_register}
use Rattle.chip_sheet.specs.Streams.{Starts}
use Rattle.chip_sheet.specs.Interrupts.{interrupt_register, mask, asks, sir_register, enabled_sockets, interrupt_low}
use Rattle.chip_sheet.proofs.BitSums.{bit_sum, bit_sum_small}
use Rattle.chip_sheet.proofs.InterruptBits.{asks_masked, sir_is, sir_bit, low_enabled}
use Rattle.irq_lines.specs.Lines.{meets, is_low, ShowsEach}
use Rattle.irq_lines.proofs.Bytes.{same_byte}

pub small : (starts : Starts) (past : Past) → sir_register starts past < 256
small starts past = let is = sir_is starts past in let less = bit_sum_small (asks starts past) 8 in omega (arith, is, less)

pub whole : (starts : Starts) (past : Past) (sir : ℕ) → sir < 256 → ShowsEach (interrupt_register starts past) (mask past) sir → sir ≡ sir_register starts past
whole starts past sir low shows =
    same_byte sir (sir_register starts past) low (small starts past)
    (λ n below. shows n below ∙ sym (asks_masked starts past n) ∙ sym (sir_bit starts past n below))

pub renewed : (starts : Starts) (past : Past) (entry : Entry) (sn sir : ℕ) → sn < 8 → sir < 256
    → has_bit sir (2 ^ sn) ≡ meets (interrupt_register starts (entry ∷ past) sn) (mask (entry ∷ past) sn)
    → ((m : ℕ) → m < 8 → m ≢ sn → has_bit sir (2 ^ m) ≡ has_bit (sir_register starts past) (2 ^ m))
    → ((m : ℕ) → m < 8 → m ≢ sn → asks starts (entry ∷ past) m ≡ asks starts past m)
    → sir ≡ sir_register starts (entry ∷ past)
renewed starts past entry sn sir in_range low own others stay =
    whole starts (entry ∷ past) sir low
    (λ n below. elim (cases_eq n sn) [
      | inl is ↦
          ap (λ (k : ℕ). has_bit sir (2 ^ k)) is ∙ own
          ∙ ap (λ (k : ℕ). meets (interrupt_register starts (entry ∷ past) k) (mask (entry ∷ past) k)) (sym is)
      | inr other ↦
          others n below other ∙ sir_bit starts past n below ∙ sym (stay n below other) ∙ asks_masked starts (entry ∷ past) n
    ])

ir_reads_none : (past : Past) → common_register past names.ir ≡ 0
unfolding common_place
ir_reads_none past = refl

none_met : (imr : ℕ) → meets 0 imr ≡ false
none_met imr = let none : bit_and 0 imr ≡ 0 = (let less = and_le_l 0 imr in omega (arith, less)) in ap (λ (x : ℕ). not (eqb x 0)) none

simr_reads : (past : Past) → common_register past names.simr ≡ enabled_sockets past
unfolding common_place
simr_reads past = refl

pub line : (starts : Starts) (past : Past) (imr : ℕ)
    → is_low (common_register past names.ir) imr (sir_register starts past) (common_register past names.simr) ≡ interrupt_low starts past
line starts past imr =
    ap (λ (x : ℕ). is_low (common_register past names.ir) imr (sir_register starts past) x) (simr_reads past)
    ∙ ap (λ (x : ℕ). is_low x imr (sir_register starts past) (enabled_sockets past)) (ir_reads_none past)
    ∙ ap (λ (b : Bool). b || meets (sir_register starts past) (enabled_sockets past)) (none_met imr)
    ∙ sym (low_enabled starts past)
