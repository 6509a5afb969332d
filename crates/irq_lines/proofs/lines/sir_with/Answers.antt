use Rattle.std.proofs.Common.{ℕ, eqb, ap, sym, ◌∙◌, w8}
use Rattle.std.proofs.lemmas.Nat.Bits.{bit_at_set_same, bit_at_set_other, bit_at_clear_same, bit_at_clear_other}
use Rattle.irq_lines.proofs.lines.sir_with.Goals as goal

pub returns-then-meets-clause-own : goal.returns-then-meets-clause-own
returns-then-meets-clause-own c =
    ap (λ (b : ℕ). eqb b 1) (bit_at_set_same w8 c.args.sir c.args.sn c.requires) ∙ sym (sym c.meets.ensures ∙ c.if-meets.true)

pub returns-then-meets-clause-others : goal.returns-then-meets-clause-others
returns-then-meets-clause-others c = λ m below other.
    ap (λ (b : ℕ). eqb b 1) (bit_at_set_other w8 c.args.sir c.args.sn c.requires m other)

pub returns-else-meets-clause-own : goal.returns-else-meets-clause-own
returns-else-meets-clause-own c =
    ap (λ (b : ℕ). eqb b 1) (bit_at_clear_same w8 c.args.sir c.args.sn c.requires) ∙ sym (sym c.meets.ensures ∙ c.if-meets.false)

pub returns-else-meets-clause-others : goal.returns-else-meets-clause-others
returns-else-meets-clause-others c = λ m below other.
    ap (λ (b : ℕ). eqb b 1) (bit_at_clear_other w8 c.args.sir c.args.sn c.requires m below other)
