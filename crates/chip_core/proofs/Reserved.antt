-- The blocks that are reserved.
use Rattle.std.proofs.Common.{◌≡◌, ℕ, ◌/◌, ◌%◌, Bool, true, false, cond, eqb, ◌∙◌, arith}
use Rattle.std.proofs.lemmas.Bool.{cond-false, eq-eqb, ne_eqb}
use Rattle.chip_sheet.specs.declared.block.Block.TheVariants.{Common, Registers, TxBuffer, RxBuffer, Reserved}
use Rattle.chip_sheet.specs.Blocks.{block_of}

pub is_reserved : (bits : ℕ) → (bits ≡ 0 → ⊥) → bits % 4 ≡ 0 → block_of bits ≡ Reserved
is_reserved bits some none =
    cond-false (eqb bits 0) Common _ (ne_eqb bits 0 some)
    ∙ cond-false (eqb (bits % 4) 1) (Registers (bits / 4)) _ (ne_eqb (bits % 4) 1 (λ e. omega (arith, none, e)))
    ∙ cond-false (eqb (bits % 4) 2) (TxBuffer (bits / 4)) _ (ne_eqb (bits % 4) 2 (λ e. omega (arith, none, e)))
    ∙ cond-false (eqb (bits % 4) 3) (RxBuffer (bits / 4)) Reserved (ne_eqb (bits % 4) 3 (λ e. omega (arith, none, e)))

by_tests : (zero one two three : Bool) (n : ℕ) → cond zero Common (cond one (Registers n) (cond two (TxBuffer n) (cond three (RxBuffer n) Reserved))) ≡ Reserved
    → (zero ≡ true → ⊥) × (one ≡ true → ⊥) × (two ≡ true → ⊥) × (three ≡ true → ⊥)
by_tests false false false false n h = (λ e. cc, λ e. cc, λ e. cc, λ e. cc)
by_tests true one two three n h = cc
by_tests false true two three n h = cc
by_tests false false true three n h = cc
by_tests false false false true n h = cc

pub other_block : (bits : ℕ) → (bits % 4 ≡ 0 → ⊥) → block_of bits ≡ Reserved → ⊥
other_block bits other h = other (let parts = by_tests (eqb bits 0) (eqb (bits % 4) 1) (eqb (bits % 4) 2) (eqb (bits % 4) 3) (bits / 4) h in
    let one : bits % 4 ≡ 1 → ⊥ = λ e. parts.1 (eq-eqb (bits % 4) 1 e) in
    let two : bits % 4 ≡ 2 → ⊥ = λ e. parts.2 (eq-eqb (bits % 4) 2 e) in
    let three : bits % 4 ≡ 3 → ⊥ = λ e. parts.3 (eq-eqb (bits % 4) 3 e) in
    omega (arith, one, two, three))

pub zero_block : (bits : ℕ) → bits ≡ 0 → block_of bits ≡ Reserved → ⊥
zero_block bits zero h = (by_tests (eqb bits 0) (eqb (bits % 4) 1) (eqb (bits % 4) 2) (eqb (bits % 4) 3) (bits / 4) h).0 (eq-eqb bits 0 zero)
