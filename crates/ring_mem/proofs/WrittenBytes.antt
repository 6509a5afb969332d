-- Registers of two bytes.
use Rattle.std.proofs.Common.{◌≡◌, ◌<◌, ℕ, ◌+◌, ◌-◌, ◌/◌, ◌%◌, Bool, true, false, List, eqb, if◌then◌else◌, ap, ◌∙◌, arith}
use Rattle.std.proofs.lemmas.Bool.Decides.{nat_tests}
use Rattle.chip_sheet.specs.Positions.{pair, byte_of}
use Rattle.chip_sheet.specs.Sending as sending
use Rattle.chip_sheet.specs.Receiving as receiving
use Rattle.ring_mem.specs.Parts.{is_size, with_byte}
use Rattle.ring_mem.specs.TxHolds.{Part, Stands}
use Rattle.ring_mem.specs.RxHolds.{RxPart, Keeps}

-- the two bytes of a register that is written, and the register
pub written_pair : (register high low addr v : ℕ) → high < 256 → low < 256
    → pair (if eqb addr register then v else high) (if eqb addr (register + 1) then v else low) ≡ with_byte register (pair high low) addr v
written_pair register high low addr v h l = grind (arith, nat_tests)

pub written_short : (b : Bool) (v old : ℕ) → v < 256 → old < 256 → (if b then v else old) < 256
written_short true v old new before = new
written_short false v old new before = before

pub high_byte : (x high low : ℕ) → low < 256 → high < 256 → pair high low ≡ x → x / 256 ≡ high
high_byte x high low l h e = omega arith

pub low_byte : (x high low : ℕ) → low < 256 → pair high low ≡ x → x % 256 ≡ low
low_byte x high low l e = omega arith

pub short_high : (x : ℕ) → x < 65536 → x / 256 ≡ byte_of 0 x
short_high x short = omega arith

pub size_short : (size flight : ℕ) → is_size size ≡ true → size - flight < 65536
size_short size flight known = grind (arith, nat_tests)

-- Sn_TX_WR after a write of one of its bytes
pub writes_pointer : (p : Part) (memory : List ℕ) (signs : List Bool) (s : sending.Sending) (addr v : ℕ) → v < 256 → Stands p memory signs s
    → Stands (record p { wr = with_byte 0x24 p.wr addr v }) memory signs (sending.after_pointer s addr v)
writes_pointer p memory signs s addr v byte h = record {
  size = h.size;
  bytes = h.bytes;
  none = h.none;
  flight = h.flight;
  within = h.within;
  end = h.end;
  wr = written_pair 0x24 s.wr_high s.wr_low addr v h.high h.low ∙ ap (λ w. with_byte 0x24 w addr v) h.wr;
  high = written_short (eqb addr 0x24) v s.wr_high byte h.high;
  low = written_short (eqb addr 0x25) v s.wr_low byte h.low;
  kept = h.kept;
  marks = h.marks;
  ended = h.ended;
  last = h.last;
}

-- and Sn_RX_RD
pub reads_pointer : (p : RxPart) (memory : List ℕ) (g : receiving.Receiving) (addr v : ℕ) → v < 256 → Keeps p memory g
    → Keeps (record p { rd = with_byte 0x28 p.rd addr v }) memory (receiving.after_pointer g addr v)
reads_pointer p memory g addr v byte h = record {
  size = h.size;
  unread = h.unread;
  within = h.within;
  end = h.end;
  rd = written_pair 0x28 g.rd_high g.rd_low addr v h.high h.low ∙ ap (λ w. with_byte 0x28 w addr v) h.rd;
  high = written_short (eqb addr 0x28) v g.rd_high byte h.high;
  low = written_short (eqb addr 0x29) v g.rd_low byte h.low;
  kept = h.kept;
}
