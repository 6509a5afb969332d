-- What an access writes of a socket's sizes, its TX buffer and its pointers.
use Rattle.std.proofs.Common.{◌≡◌, ℕ, ◌%◌, zero, suc, Bool, true, false, ◌&&◌, ◌||◌, cond, eqb, ltb, leb, ◌∷◌, Option, None, Some, inl, inr, refl, sym, ap, ◌∙◌, arith}
use Rattle.std.specs.Option.{unwrap_or}
use Rattle.std.proofs.lemmas.Bool.{cond-true, cond-false, and_left, and_right, and_parts, ne_eqb, eq-eqb, eqb-true, or_right, cases_eq, lt-ltb}
use Rattle.chip_sheet.specs.declared.event.Entry.{Entry}
use Rattle.chip_sheet.specs.declared.event.Entry.TheVariants.{Bus, Link, Rest}
use Rattle.chip_sheet.specs.declared.socket.Cause.TheVariants as because
use Rattle.chip_sheet.specs.declared.phase.Access.{Access}
use Rattle.chip_sheet.specs.declared.phase.Access.TheVariants.{NoAccess, Read, Write}
use Rattle.chip_sheet.specs.declared.block.Block.{Block}
use Rattle.chip_sheet.specs.declared.block.Block.TheVariants.{Registers}
use Rattle.chip_sheet.specs.Past.{Past}
use Rattle.chip_sheet.specs.Frames.{access, access_of}
use Rattle.chip_sheet.specs.Blocks.{block_of, registers_of, tx_buffer_of}
use Rattle.chip_sheet.specs.Registers.{is_reset, written_by}
use Rattle.chip_sheet.specs.Life.{cause, cause_by, status, command, protocol}
use Rattle.chip_sheet.specs.Sizes.{tx_sizes, rx_sizes, tx_size, resizes, resizes_block}
use Rattle.chip_sheet.specs.Streams.{byte_after, byte_in, tx_byte, last_byte, pointer_byte}
use Rattle.chip_sheet.specs.Quiet.{writes_to}
use Rattle.chip_sheet.proofs.SizeLaws.{size_kept}
use Rattle.chip_sheet.proofs.Within.{both_same}
use Rattle.chip_sheet.proofs.ResetRestores.{tx_block}
use Rattle.chip_steps.specs.Steps.{writes_command_alone}
use Rattle.chip_steps.proofs.Going.{GoesOn, pointer_goes}
use Rattle.chip_sheet.proofs.Quiet.{byte_kept}

-- An access that writes no more than a command.
alone_reset : (made : Access) (n : ℕ) → writes_command_alone made n ≡ true → is_reset made ≡ false
alone_reset NoAccess n h = refl
alone_reset (Read block addr) n h = refl
alone_reset (Write block addr v) n h =
    let is = both_same block (registers_of n) addr 0x01 h in
    ap (λ (b : Bool). b && eqb addr 0x00 && leb 128 v) (ne_eqb block 0 (λ e. omega (arith, e, is.0)))

not_sized : (past : Past) (sizes : ℕ) (b : Block) (addr v : ℕ) → eqb addr sizes ≡ false → resizes_block past sizes b addr v ≡ false
not_sized past sizes (Registers m) addr v h = and_left (eqb addr sizes) _ h
not_sized past sizes b addr v h = refl

alone_sizes : (past : Past) (sizes : ℕ) (made : Access) (n : ℕ) → eqb 0x01 sizes ≡ false → writes_command_alone made n ≡ true → resizes past sizes made ≡ false
alone_sizes past sizes NoAccess n other h = refl
alone_sizes past sizes (Read block addr) n other h = refl
alone_sizes past sizes (Write block addr v) n other h =
    let is = both_same block (registers_of n) addr 0x01 h in
    not_sized past sizes (block_of block) addr v (ap (λ (x : ℕ). eqb x sizes) is.1 ∙ other)

alone_buffer : (made : Access) (n : ℕ) → writes_command_alone made n ≡ true → writes_to made (tx_buffer_of n) ≡ false
alone_buffer NoAccess n h = refl
alone_buffer (Read block addr) n h = refl
alone_buffer (Write block addr v) n h =
    let is = both_same block (registers_of n) addr 0x01 h in
    ne_eqb block (tx_buffer_of n) (λ e. omega (arith, e, is.0))

alone_place : (made : Access) (n at : ℕ) → eqb 0x01 at ≡ false → writes_command_alone made n ≡ true → written_by made (registers_of n) at ≡ None
alone_place NoAccess n at other h = refl
alone_place (Read block addr) n at other h = refl
alone_place (Write block addr v) n at other h =
    let is = both_same block (registers_of n) addr 0x01 h in
    cond-false (eqb block (registers_of n) && eqb addr at) (Some v) None
    (and_right (eqb block (registers_of n)) (eqb addr at) (ap (λ (x : ℕ). eqb x at) is.1 ∙ other))

-- It leaves the sizes, the TX buffer and the pointers.
pub record Alone (past : Past) (entry : Entry) (n : ℕ) : Type 0 where
  pub reset : is_reset (access_of past entry) ≡ false
  pub tx : resizes past tx_sizes (access_of past entry) ≡ false
  pub rx : resizes past rx_sizes (access_of past entry) ≡ false
  pub buffer : writes_to (access_of past entry) (tx_buffer_of n) ≡ false
  pub tx_high : written_by (access_of past entry) (registers_of n) 0x24 ≡ None
  pub tx_low : written_by (access_of past entry) (registers_of n) 0x25 ≡ None
  pub rx_high : written_by (access_of past entry) (registers_of n) 0x28 ≡ None
  pub rx_low : written_by (access_of past entry) (registers_of n) 0x29 ≡ None

pub alone : (past : Past) (entry : Entry) (n : ℕ) → writes_command_alone (access_of past entry) n ≡ true → Alone past entry n
alone past entry n h = record {
  reset = alone_reset (access_of past entry) n h;
  tx = alone_sizes past tx_sizes (access_of past entry) n refl h;
  rx = alone_sizes past rx_sizes (access_of past entry) n refl h;
  buffer = alone_buffer (access_of past entry) n h;
  tx_high = alone_place (access_of past entry) n 0x24 refl h;
  tx_low = alone_place (access_of past entry) n 0x25 refl h;
  rx_high = alone_place (access_of past entry) n 0x28 refl h;
  rx_low = alone_place (access_of past entry) n 0x29 refl h;
}

-- The bytes of the TX buffer stay where nothing writes to them.
byte_in_kept : (past : Past) (entry : Entry) (n size at : ℕ) → is_reset (access_of past entry) ≡ false → resizes past tx_sizes (access_of past entry) ≡ false
    → writes_to (access_of past entry) (tx_buffer_of n) ≡ false → byte_in (entry ∷ past) n size at ≡ byte_in past n size at
byte_in_kept past entry n zero at on same h = refl
byte_in_kept past entry n (suc most) at on same h = byte_kept past (access_of past entry) n (suc most) at (last_byte past n (suc most) at) on same h

pub tx_kept : (past : Past) (entry : Entry) (n at : ℕ) → is_reset (access_of past entry) ≡ false → resizes past tx_sizes (access_of past entry) ≡ false
    → writes_to (access_of past entry) (tx_buffer_of n) ≡ false → tx_byte (entry ∷ past) n at ≡ tx_byte past n at
tx_kept past entry n at on same h =
    ap (λ (size : ℕ). byte_in (entry ∷ past) n size at) (size_kept past entry tx_sizes n on same) ∙ byte_in_kept past entry n (tx_size past n) at on same h

-- They are 0 after a change of a size.
resized : (past : Past) (made : Access) (n size at before : ℕ) → resizes past tx_sizes made ≡ true → byte_after past made n size at before ≡ 0
resized past NoAccess n size at before h = cc
resized past (Read block addr) n size at before h = cc
resized past (Write block addr v) n size at before h =
    cond-true (is_reset (Write block addr v) || resizes past tx_sizes (Write block addr v)) 0 _ (or_right (is_reset (Write block addr v)) (resizes past tx_sizes (Write block addr v)) h)

resized_in : (past : Past) (entry : Entry) (n size at : ℕ) → resizes past tx_sizes (access_of past entry) ≡ true → byte_in (entry ∷ past) n size at ≡ 0
resized_in past entry n zero at h = refl
resized_in past entry n (suc most) at h = resized past (access_of past entry) n (suc most) at _ h

pub tx_cleared : (past : Past) (entry : Entry) (n at : ℕ) → resizes past tx_sizes (access_of past entry) ≡ true → tx_byte (entry ∷ past) n at ≡ 0
tx_cleared past entry n at h = resized_in past entry n (tx_size (entry ∷ past) n) at h

-- A pointer of a life that goes on.
pub pointer_kept : (past : Past) (entry : Entry) (n at start : ℕ) → GoesOn (cause past n entry) (status past n) → written_by (access_of past entry) (registers_of n) at ≡ None
    → pointer_byte (entry ∷ past) n at start ≡ pointer_byte past n at start
pointer_kept past entry n at start on none =
    let before = pointer_byte past n at start in
    pointer_goes (cause past n entry) (status past n) start (written_by (access_of past entry) (registers_of n) at) before on
    ∙ ap (λ (w : Option ℕ). unwrap_or w before) none

here_or : (same here : Bool) (v before : ℕ) → same ≡ true → unwrap_or (cond (same && here) (Some v) None) before ≡ cond here v before
here_or true true v before h = refl
here_or true false v before h = refl
here_or false here v before h = cc

pub pointer_written : (past : Past) (entry : Entry) (n addr v at start : ℕ) → GoesOn (cause past n entry) (status past n) → access_of past entry ≡ Write (registers_of n) addr v
    → pointer_byte (entry ∷ past) n at start ≡ cond (eqb addr at) v (pointer_byte past n at start)
pointer_written past entry n addr v at start on is =
    let before = pointer_byte past n at start in
    pointer_goes (cause past n entry) (status past n) start (written_by (access_of past entry) (registers_of n) at) before on
    ∙ ap (λ (made : Access). unwrap_or (written_by made (registers_of n) at) before) is
    ∙ here_or (eqb (registers_of n) (registers_of n)) (eqb addr at) v before (eq-eqb (registers_of n) (registers_of n) refl)

-- A write to the socket's registers is none to its TX buffer.
pub registers_alone : (made : Access) (n addr v : ℕ) → made ≡ Write (registers_of n) addr v → writes_to made (tx_buffer_of n) ≡ false
registers_alone made n addr v is =
    ap (λ (m : Access). writes_to m (tx_buffer_of n)) is ∙ ne_eqb (registers_of n) (tx_buffer_of n) (λ e. omega (arith, e))

-- An access that changes a size writes a size register, and no other.
record Sized (made : Access) (sizes : ℕ) : Type 0 where
  bits : ℕ
  byte : ℕ
  is : made ≡ Write bits sizes byte

sized_place : (past : Past) (sizes : ℕ) (b : Block) (addr v : ℕ) → resizes_block past sizes b addr v ≡ true → addr ≡ sizes
sized_place past sizes (Registers m) addr v h = eqb-true addr sizes (and_parts (eqb addr sizes) _ h).0
sized_place past sizes b addr v h = cc

sized : (past : Past) (sizes : ℕ) (made : Access) → resizes past sizes made ≡ true → Sized made sizes
sized past sizes NoAccess h = cc
sized past sizes (Read block addr) h = cc
sized past sizes (Write block addr v) h = record { bits = block; byte = v; is = ap (λ (x : ℕ). Write block x v) (sized_place past sizes (block_of block) addr v h) }

no_reset_here : (bits addr v : ℕ) → eqb addr 0x00 ≡ false → is_reset (Write bits addr v) ≡ false
no_reset_here bits addr v h = ap (λ (b : Bool). b && leb 128 v) (and_right (eqb bits 0) (eqb addr 0x00) h)

no_cause : (past : Past) (n bits addr v : ℕ) → eqb addr 0x00 ≡ false → eqb addr 0x01 ≡ false → cause_by past n (Write bits addr v) ≡ because.Nothing
no_cause past n bits addr v not_mr not_cr =
    cond-false (is_reset (Write bits addr v)) because.Reset _ (no_reset_here bits addr v not_mr)
    ∙ cond-false (eqb bits (registers_of n) && eqb addr 0x01) (command (protocol past n) v) because.Nothing (and_right (eqb bits (registers_of n)) (eqb addr 0x01) not_cr)

-- It is nothing for any socket, and leaves the pointers.
pub record Resizing (past : Past) (entry : Entry) (n : ℕ) : Type 0 where
  pub nothing : cause past n entry ≡ because.Nothing
  pub place : (at : ℕ) → eqb 0x1F at ≡ false → eqb 0x1E at ≡ false → written_by (access_of past entry) (registers_of n) at ≡ None

other_place : (bits addr v block at : ℕ) → eqb addr at ≡ false → written_by (Write bits addr v) block at ≡ None
other_place bits addr v block at h = cond-false (eqb bits block && eqb addr at) (Some v) None (and_right (eqb bits block) (eqb addr at) h)

pub resizing_tx : (past : Past) (entry : Entry) (n : ℕ) → resizes past tx_sizes (access_of past entry) ≡ true → Resizing past entry n
resizing_tx past (Link m what) n h = cc
resizing_tx past Rest n h = cc
resizing_tx past (Bus e a) n h =
    let it = sized past tx_sizes (access past e) h in
    record {
      nothing = ap (cause_by past n) it.is ∙ no_cause past n it.bits 0x1F it.byte refl refl;
      place = λ at tx rx. ap (λ (m : Access). written_by m (registers_of n) at) it.is ∙ other_place it.bits 0x1F it.byte (registers_of n) at tx;
    }

pub resizing_rx : (past : Past) (entry : Entry) (n : ℕ) → resizes past rx_sizes (access_of past entry) ≡ true → Resizing past entry n
resizing_rx past (Link m what) n h = cc
resizing_rx past Rest n h = cc
resizing_rx past (Bus e a) n h =
    let it = sized past rx_sizes (access past e) h in
    record {
      nothing = ap (cause_by past n) it.is ∙ no_cause past n it.bits 0x1E it.byte refl refl;
      place = λ at tx rx. ap (λ (m : Access). written_by m (registers_of n) at) it.is ∙ other_place it.bits 0x1E it.byte (registers_of n) at rx;
    }

-- A byte written to the TX buffer of the socket.
pub record Filling (past : Past) (entry : Entry) (n addr v : ℕ) : Type 0 where
  pub nothing : cause past n entry ≡ because.Nothing
  pub tx_same : resizes past tx_sizes (access_of past entry) ≡ false
  pub rx_same : resizes past rx_sizes (access_of past entry) ≡ false
  pub registers : writes_to (access_of past entry) (registers_of n) ≡ false
  pub tx : (at : ℕ) → tx_byte (entry ∷ past) n at ≡ cond (ltb 0 (tx_size past n) && eqb (at % tx_size past n) (addr % tx_size past n)) v (tx_byte past n at)

no_reset_buffer : (n addr v : ℕ) → is_reset (Write (tx_buffer_of n) addr v) ≡ false
no_reset_buffer n addr v = ap (λ (b : Bool). b && eqb addr 0x00 && leb 128 v) (ne_eqb (tx_buffer_of n) 0 (λ e. omega (arith, e)))

buffer_cause : (past : Past) (n addr v : ℕ) → cause_by past n (Write (tx_buffer_of n) addr v) ≡ because.Nothing
buffer_cause past n addr v =
    cond-false (is_reset (Write (tx_buffer_of n) addr v)) because.Reset _ (no_reset_buffer n addr v)
    ∙ cond-false (eqb (tx_buffer_of n) (registers_of n) && eqb addr 0x01) (command (protocol past n) v) because.Nothing
    (and_left (eqb (tx_buffer_of n) (registers_of n)) (eqb addr 0x01) (ne_eqb (tx_buffer_of n) (registers_of n) (λ e. omega (arith, e))))

buffer_sizes : (past : Past) (sizes n addr v : ℕ) → resizes past sizes (Write (tx_buffer_of n) addr v) ≡ false
buffer_sizes past sizes n addr v = ap (λ (b : Block). resizes_block past sizes b addr v) (tx_block n)

eqb_turned : (a b : ℕ) → eqb a b ≡ eqb b a
eqb_turned a b =
    elim (cases_eq a b) [
      | inl is ↦ eq-eqb a b is ∙ sym (eq-eqb b a (sym is))
      | inr other ↦ ne_eqb a b other ∙ sym (ne_eqb b a (λ e. other (sym e)))
    ]

filled : (past : Past) (n addr v size at before : ℕ) → byte_after past (Write (tx_buffer_of n) addr v) n size at before ≡ cond (eqb (at % size) (addr % size)) v before
filled past n addr v size at before =
    let made = Write (tx_buffer_of n) addr v in
    let here = eqb (addr % size) (at % size) in
    ap (λ (b : Bool). cond (b || resizes past tx_sizes made) 0 (cond (eqb (tx_buffer_of n) (tx_buffer_of n) && here) v before)) (no_reset_buffer n addr v)
    ∙ ap (λ (b : Bool). cond b 0 (cond (eqb (tx_buffer_of n) (tx_buffer_of n) && here) v before)) (buffer_sizes past tx_sizes n addr v)
    ∙ ap (λ (b : Bool). cond (b && here) v before) (eq-eqb (tx_buffer_of n) (tx_buffer_of n) refl)
    ∙ ap (λ (b : Bool). cond b v before) (eqb_turned (addr % size) (at % size))

filled_in : (past : Past) (entry : Entry) (n addr v size at : ℕ) → access_of past entry ≡ Write (tx_buffer_of n) addr v
    → byte_in (entry ∷ past) n size at ≡ cond (ltb 0 size && eqb (at % size) (addr % size)) v (byte_in past n size at)
filled_in past entry n addr v zero at is = refl
filled_in past entry n addr v (suc most) at is =
    let before = last_byte past n (suc most) at in
    ap (λ (made : Access). byte_after past made n (suc most) at before) is
    ∙ filled past n addr v (suc most) at before
    ∙ sym (ap (λ (b : Bool). cond (b && eqb (at % suc most) (addr % suc most)) v before) (lt-ltb 0 (suc most) (omega arith)))

pub filling : (past : Past) (entry : Entry) (n addr v : ℕ) → access_of past entry ≡ Write (tx_buffer_of n) addr v → Filling past entry n addr v
filling past (Link m what) n addr v is = cc
filling past Rest n addr v is = cc
filling past (Bus e a) n addr v is =
    let sizes = ap (resizes past tx_sizes) is ∙ buffer_sizes past tx_sizes n addr v in
    let on = ap is_reset is ∙ no_reset_buffer n addr v in
    record {
      nothing = ap (cause_by past n) is ∙ buffer_cause past n addr v;
      tx_same = sizes;
      rx_same = ap (resizes past rx_sizes) is ∙ buffer_sizes past rx_sizes n addr v;
      registers = ap (λ (m : Access). writes_to m (registers_of n)) is ∙ ne_eqb (tx_buffer_of n) (registers_of n) (λ e. omega (arith, e));
      tx = λ at. ap (λ (size : ℕ). byte_in (Bus e a ∷ past) n size at) (size_kept past (Bus e a) tx_sizes n on sizes) ∙ filled_in past (Bus e a) n addr v (tx_size past n) at is;
    }
