-- What an address of a block reads.
use Rattle.std.proofs.Common.{◌≡◌, ◌<◌, ◌≤◌, ℕ, ◌/◌, ◌%◌, Bool, true, false, ◌&&◌, ◌||◌, cond, eqb, leb, None, Some, inl, inr, refl, sym, ap, ◌∙◌, arith}
use Rattle.std.proofs.lemmas.Bool.{cond-true, cond-false, not-false, or_cases, and_parts, leb-true, eqb-true, eq-eqb, ne_eqb}
use Rattle.chip_sheet.specs.declared.block.Block.TheVariants.{Common, Registers, TxBuffer, RxBuffer, Reserved}
use Rattle.chip_sheet.specs.Past.{Past}
use Rattle.chip_sheet.specs.Blocks.{block_of}
use Rattle.chip_sheet.specs.Life.{status, status_code}
use Rattle.chip_sheet.specs.Streams.{Starts}
use Rattle.chip_sheet.specs.SocketBlock.{socket_place, socket_register}
use Rattle.sock_regs.specs.Places.{is_kept, read_at}
use Rattle.sock_regs.proofs.PlaceTable.{here_is}

some_of : (b : Bool) (x byte : ℕ) → Some byte ≡ cond b (Some x) None → byte ≡ x
some_of true x byte h = cc
some_of false x byte h = cc

pub read_some : (f : ℕ → ℕ) (addr byte : ℕ) → Some byte ≡ read_at f addr → byte ≡ f addr
read_some f addr byte h = some_of (is_kept (socket_place addr).shows) (f addr) byte h

none_of : (b : Bool) (x : ℕ) → None ≡ cond b (Some x) None → b ≡ false
none_of true x h = cc
none_of false x h = refl

-- For these places the registers do not answer.
pub read_none : (f : ℕ → ℕ) (addr : ℕ) → None ≡ read_at f addr → (addr ≡ 3 → ⊥) → (0x20 ≤ addr) × (addr ≤ 0x2B)
read_none f addr h other =
    let away = sym (here_is addr) ∙ none_of (is_kept (socket_place addr).shows) (f addr) h in
    elim (or_cases (eqb addr 0x03) (leb 0x20 addr && leb addr 0x2B) (not-false (eqb addr 0x03 || (leb 0x20 addr && leb addr 0x2B)) away)) [
      | inl is ↦ absurd (other (eqb-true addr 0x03 is))
      | inr within ↦ let both = and_parts (leb 0x20 addr) (leb addr 0x2B) within in (leb-true 0x20 addr both.0, leb-true addr 0x2B both.1)
    ]

status_here : (starts : Starts) (past : Past) (n : ℕ) → status_code (status past n) ≡ socket_register starts past n 0x03
unfolding socket_place
status_here starts past n = refl

pub status_at : (starts : Starts) (past : Past) (n addr : ℕ) → addr ≡ 3 → status_code (status past n) ≡ socket_register starts past n addr
status_at starts past n addr is = status_here starts past n ∙ sym (ap (socket_register starts past n) is)

-- The block of some select bits.
not_zero : (bits k : ℕ) → bits % 4 ≡ k → 0 < k → eqb bits 0 ≡ false
not_zero bits k h some = ne_eqb bits 0 (λ z. omega (arith, h, some, z))

pub registers_block : (bits : ℕ) → bits % 4 ≡ 1 → block_of bits ≡ Registers (bits / 4)
registers_block bits h =
    cond-false (eqb bits 0) Common _ (not_zero bits 1 h (omega arith)) ∙ cond-true (eqb (bits % 4) 1) (Registers (bits / 4)) _ (eq-eqb (bits % 4) 1 h)

pub tx_block : (bits : ℕ) → bits % 4 ≡ 2 → block_of bits ≡ TxBuffer (bits / 4)
tx_block bits h =
    cond-false (eqb bits 0) Common _ (not_zero bits 2 h (omega arith))
    ∙ cond-false (eqb (bits % 4) 1) (Registers (bits / 4)) _ (ne_eqb (bits % 4) 1 (λ z. omega (arith, h, z)))
    ∙ cond-true (eqb (bits % 4) 2) (TxBuffer (bits / 4)) _ (eq-eqb (bits % 4) 2 h)

pub rx_block : (bits : ℕ) → bits % 4 ≡ 3 → block_of bits ≡ RxBuffer (bits / 4)
rx_block bits h =
    cond-false (eqb bits 0) Common _ (not_zero bits 3 h (omega arith))
    ∙ cond-false (eqb (bits % 4) 1) (Registers (bits / 4)) _ (ne_eqb (bits % 4) 1 (λ z. omega (arith, h, z)))
    ∙ cond-false (eqb (bits % 4) 2) (TxBuffer (bits / 4)) _ (ne_eqb (bits % 4) 2 (λ z. omega (arith, h, z)))
    ∙ cond-true (eqb (bits % 4) 3) (RxBuffer (bits / 4)) _ (eq-eqb (bits % 4) 3 h)

pub no_block : (bits : ℕ) → (bits ≡ 0 → ⊥) → (bits % 4 ≡ 1 → ⊥) → (bits % 4 ≡ 2 → ⊥) → (bits % 4 ≡ 3 → ⊥) → block_of bits ≡ Reserved
no_block bits zero_not one two three =
    cond-false (eqb bits 0) Common _ (ne_eqb bits 0 zero_not)
    ∙ cond-false (eqb (bits % 4) 1) (Registers (bits / 4)) _ (ne_eqb (bits % 4) 1 one)
    ∙ cond-false (eqb (bits % 4) 2) (TxBuffer (bits / 4)) _ (ne_eqb (bits % 4) 2 two)
    ∙ cond-false (eqb (bits % 4) 3) (RxBuffer (bits / 4)) Reserved (ne_eqb (bits % 4) 3 three)
