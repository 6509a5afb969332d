-- Which statuses have windows; a byte written to a TX buffer stands there.
use Rattle.std.proofs.Common.{◌≡◌, ◌<◌, ℕ, ◌+◌, ◌-◌, ◌*◌, ◌%◌, zero, suc, Bool, true, false, ◌&&◌, ◌||◌, cond, eqb, leb, ◌∷◌, length, refl, ap, ◌∙◌, arith}
use Rattle.std.proofs.lemmas.Bool.{cond-true, ne_eqb, eq-eqb}
use Rattle.chip_sheet.specs.declared.event.Entry.{Entry}
use Rattle.chip_sheet.specs.declared.phase.Access.{Access}
use Rattle.chip_sheet.specs.declared.phase.Access.TheVariants.{Write}
use Rattle.chip_sheet.specs.declared.block.Block.{Block}
use Rattle.chip_sheet.specs.declared.socket.Status.{Status}
use Rattle.chip_sheet.specs.Past.{Past}
use Rattle.chip_sheet.specs.Frames.{access_of}
use Rattle.chip_sheet.specs.Blocks.{tx_buffer_of}
use Rattle.chip_sheet.specs.Registers.{is_reset}
use Rattle.chip_sheet.specs.Life.{status, lives}
use Rattle.chip_sheet.specs.Sizes.{tx_sizes, tx_size, resizes, resizes_block}
use Rattle.chip_sheet.specs.Streams.{Starts, sent, taken, got, released, is_open, byte_after, byte_in, tx_byte, last_byte}
use Rattle.chip_sheet.specs.Windows.{flight, unread}
use Rattle.chip_sheet.proofs.SizeLaws.{size_kept}
use Rattle.chip_sheet.proofs.ResetRestores.{tx_block}

-- Which statuses have windows.
pub flight_of : (starts : Starts) (past : Past) (n : ℕ) (at : Status) → is_open at ≡ true → status past n ≡ at → flight starts past n ≡ length (sent starts past n (lives past n)) - taken past n (lives past n)
flight_of starts past n at on h = cond-true (is_open (status past n)) _ 0 (ap is_open h ∙ on)

pub unread_of : (starts : Starts) (past : Past) (n : ℕ) (at : Status) → is_open at ≡ true → status past n ≡ at → unread starts past n ≡ length (got starts past n (lives past n)) - released starts past n (lives past n)
unread_of starts past n at on h = cond-true (is_open (status past n)) _ 0 (ap is_open h ∙ on)

-- A byte written to the TX buffer is read at each address of its place, and no other byte changes.
no_reset_buffer : (n addr v : ℕ) → is_reset (Write (tx_buffer_of n) addr v) ≡ false
no_reset_buffer n addr v = ap (λ (b : Bool). b && eqb addr 0x00 && leb 128 v) (ne_eqb (4 * n + 2) 0 (λ e. omega (arith, e)))

same_sizes : (past : Past) (sizes n addr v : ℕ) → resizes past sizes (Write (tx_buffer_of n) addr v) ≡ false
same_sizes past sizes n addr v = ap (λ (b : Block). resizes_block past sizes b addr v) (tx_block n)

byte_put : (past : Past) (n size addr v at before : ℕ) → byte_after past (Write (tx_buffer_of n) addr v) n size at before ≡ cond (eqb (addr % size) (at % size)) v before
byte_put past n size addr v at before =
    let here = eqb (addr % size) (at % size) in
    ap (λ (b : Bool). cond (b || resizes past tx_sizes (Write (tx_buffer_of n) addr v)) 0 (cond (eqb (tx_buffer_of n) (tx_buffer_of n) && here) v before)) (no_reset_buffer n addr v)
    ∙ ap (λ (b : Bool). cond b 0 (cond (eqb (tx_buffer_of n) (tx_buffer_of n) && here) v before)) (same_sizes past tx_sizes n addr v)
    ∙ ap (λ (b : Bool). cond (b && here) v before) (eq-eqb (tx_buffer_of n) (tx_buffer_of n) refl)

byte_in_put : (past : Past) (entry : Entry) (n addr v size at : ℕ) → access_of past entry ≡ Write (tx_buffer_of n) addr v → 0 < size
    → byte_in (entry ∷ past) n size at ≡ cond (eqb (addr % size) (at % size)) v (byte_in past n size at)
byte_in_put past entry n addr v zero at is some = absurd (omega (arith, some))
byte_in_put past entry n addr v (suc most) at is some =
    ap (λ (made : Access). byte_after past made n (suc most) at (last_byte past n (suc most) at)) is ∙ byte_put past n (suc most) addr v at (last_byte past n (suc most) at)

pub byte_written : (past : Past) (entry : Entry) (n addr v at : ℕ) → access_of past entry ≡ Write (tx_buffer_of n) addr v → 0 < tx_size past n
    → tx_byte (entry ∷ past) n at ≡ cond (eqb (addr % tx_size past n) (at % tx_size past n)) v (tx_byte past n at)
byte_written past entry n addr v at is some =
    ap (λ (size : ℕ). byte_in (entry ∷ past) n size at)
    (size_kept past entry tx_sizes n (ap is_reset is ∙ no_reset_buffer n addr v) (ap (resizes past tx_sizes) is ∙ same_sizes past tx_sizes n addr v))
    ∙ byte_in_put past entry n addr v (tx_size past n) at is some
