-- Which sockets an entry does not touch.
use Rattle.std.proofs.Common.{◌≡◌, ℕ, Bool, false, ◌&&◌, eqb, leb, refl, sym, ap, ◌∙◌, arith}
use Rattle.std.proofs.lemmas.Bool.{cond-false, and_left, ne_eqb}
use Rattle.board_bus.specs.declared.event.BusEvent.{BusEvent}
use Rattle.board_bus.specs.declared.event.BusAnswer.{BusAnswer}
use Rattle.chip_sheet.specs.declared.event.Entry.TheVariants.{Bus, Link, Rest}
use Rattle.chip_sheet.specs.declared.event.LinkEntry.{LinkEntry}
use Rattle.chip_sheet.specs.declared.phase.Access.{Access}
use Rattle.chip_sheet.specs.declared.phase.Access.TheVariants.{NoAccess, Read, Write}
use Rattle.chip_sheet.specs.declared.block.Block.{Block}
use Rattle.chip_sheet.specs.declared.socket.Cause.TheVariants as because
use Rattle.chip_sheet.specs.Past.{Past}
use Rattle.chip_sheet.specs.Frames.{access}
use Rattle.chip_sheet.specs.Blocks.{registers_of, tx_buffer_of, rx_buffer_of}
use Rattle.chip_sheet.specs.Registers.{is_reset}
use Rattle.chip_sheet.specs.Life.{cause_by, command, protocol, happening}
use Rattle.chip_sheet.specs.Sizes.{tx_sizes, rx_sizes, resizes, resizes_block}
use Rattle.chip_sheet.specs.Quiet.{writes_to, Untouched}
use Rattle.chip_sheet.proofs.ResetRestores.{tx_block, rx_block}

-- A write that is no reset, of another block than the socket's, and that changes no size.
elsewhere : (past : Past) (e : BusEvent) (a : BusAnswer) (m bits addr v : ℕ) → access past e ≡ Write bits addr v → is_reset (Write bits addr v) ≡ false
    → eqb bits (registers_of m) ≡ false → eqb bits (tx_buffer_of m) ≡ false → resizes past tx_sizes (Write bits addr v) ≡ false → resizes past rx_sizes (Write bits addr v) ≡ false
    → Untouched past (Bus e a) m
elsewhere past e a m bits addr v is on registers buffer tx rx = record {
  nothing = ap (cause_by past m) is
      ∙ cond-false (is_reset (Write bits addr v)) because.Reset _ on
      ∙ cond-false (eqb bits (registers_of m) && eqb addr 0x01) (command (protocol past m) v) because.Nothing (and_left (eqb bits (registers_of m)) (eqb addr 0x01) registers);
  registers = ap (λ (made : Access). writes_to made (registers_of m)) is ∙ registers;
  buffer = ap (λ (made : Access). writes_to made (tx_buffer_of m)) is ∙ buffer;
  tx_sizes = ap (resizes past tx_sizes) is ∙ tx;
  rx_sizes = ap (resizes past rx_sizes) is ∙ rx;
}

no_common : (bits addr v : ℕ) → eqb bits 0 ≡ false → is_reset (Write bits addr v) ≡ false
no_common bits addr v h = ap (λ (b : Bool). b && eqb addr 0x00 && leb 128 v) h

pub other_registers : (past : Past) (e : BusEvent) (a : BusAnswer) (n m addr v : ℕ) → (m ≡ n → ⊥) → access past e ≡ Write (registers_of n) addr v
    → resizes past tx_sizes (access past e) ≡ false → resizes past rx_sizes (access past e) ≡ false → Untouched past (Bus e a) m
other_registers past e a n m addr v other is tx rx =
    elsewhere past e a m (registers_of n) addr v is (no_common (registers_of n) addr v (ne_eqb (registers_of n) 0 (λ z. omega (arith, z))))
    (ne_eqb (registers_of n) (registers_of m) (λ z. other (omega (arith, z)))) (ne_eqb (registers_of n) (tx_buffer_of m) (λ z. omega (arith, z)))
    (sym (ap (resizes past tx_sizes) is) ∙ tx) (sym (ap (resizes past rx_sizes) is) ∙ rx)

pub other_buffer : (past : Past) (e : BusEvent) (a : BusAnswer) (n m addr v : ℕ) → (m ≡ n → ⊥) → access past e ≡ Write (tx_buffer_of n) addr v → Untouched past (Bus e a) m
other_buffer past e a n m addr v other is =
    elsewhere past e a m (tx_buffer_of n) addr v is (no_common (tx_buffer_of n) addr v (ne_eqb (tx_buffer_of n) 0 (λ z. omega (arith, z))))
    (ne_eqb (tx_buffer_of n) (registers_of m) (λ z. omega (arith, z))) (ne_eqb (tx_buffer_of n) (tx_buffer_of m) (λ z. other (omega (arith, z))))
    (ap (λ (b : Block). resizes_block past tx_sizes b addr v) (tx_block n)) (ap (λ (b : Block). resizes_block past rx_sizes b addr v) (tx_block n))

pub any_rx_buffer : (past : Past) (e : BusEvent) (a : BusAnswer) (n m addr v : ℕ) → access past e ≡ Write (rx_buffer_of n) addr v → Untouched past (Bus e a) m
any_rx_buffer past e a n m addr v is =
    elsewhere past e a m (rx_buffer_of n) addr v is (no_common (rx_buffer_of n) addr v (ne_eqb (rx_buffer_of n) 0 (λ z. omega (arith, z))))
    (ne_eqb (rx_buffer_of n) (registers_of m) (λ z. omega (arith, z))) (ne_eqb (rx_buffer_of n) (tx_buffer_of m) (λ z. omega (arith, z)))
    (ap (λ (b : Block). resizes_block past tx_sizes b addr v) (rx_block n)) (ap (λ (b : Block). resizes_block past rx_sizes b addr v) (rx_block n))

pub any_common : (past : Past) (e : BusEvent) (a : BusAnswer) (m addr v : ℕ) → access past e ≡ Write 0 addr v → is_reset (Write 0 addr v) ≡ false → Untouched past (Bus e a) m
any_common past e a m addr v is on =
    elsewhere past e a m 0 addr v is on (ne_eqb 0 (registers_of m) (λ z. omega (arith, z))) (ne_eqb 0 (tx_buffer_of m) (λ z. omega (arith, z))) refl refl

pub any_read : (past : Past) (e : BusEvent) (a : BusAnswer) (m bits addr : ℕ) → access past e ≡ Read bits addr → Untouched past (Bus e a) m
any_read past e a m bits addr is = record {
  nothing = ap (cause_by past m) is;
  registers = ap (λ (made : Access). writes_to made (registers_of m)) is;
  buffer = ap (λ (made : Access). writes_to made (tx_buffer_of m)) is;
  tx_sizes = ap (resizes past tx_sizes) is;
  rx_sizes = ap (resizes past rx_sizes) is;
}

pub any_idle : (past : Past) (e : BusEvent) (a : BusAnswer) (m : ℕ) → access past e ≡ NoAccess → Untouched past (Bus e a) m
any_idle past e a m is = record {
  nothing = ap (cause_by past m) is;
  registers = ap (λ (made : Access). writes_to made (registers_of m)) is;
  buffer = ap (λ (made : Access). writes_to made (tx_buffer_of m)) is;
  tx_sizes = ap (resizes past tx_sizes) is;
  rx_sizes = ap (resizes past rx_sizes) is;
}

pub other_link : (past : Past) (n m : ℕ) (what : LinkEntry) → (m ≡ n → ⊥) → Untouched past (Link n what) m
other_link past n m what other = record {
  nothing = cond-false (eqb n m) (happening what) because.Nothing (ne_eqb n m (λ z. other (sym z)));
  registers = refl;
  buffer = refl;
  tx_sizes = refl;
  rx_sizes = refl;
}

pub any_rest : (past : Past) (m : ℕ) → Untouched past Rest m
any_rest past m = record { nothing = refl; registers = refl; buffer = refl; tx_sizes = refl; rx_sizes = refl }
