-- Accesses that touch nothing.
use Rattle.std.proofs.Common.{◌≡◌, ℕ, false, ap}
use Rattle.board_bus.specs.declared.event.BusEvent.{BusEvent}
use Rattle.board_bus.specs.declared.event.BusAnswer.{BusAnswer}
use Rattle.chip_sheet.specs.declared.event.Entry.TheVariants.{Bus}
use Rattle.chip_sheet.specs.declared.phase.Access.{Access}
use Rattle.chip_sheet.specs.declared.phase.Access.TheVariants.{NoAccess, Read}
use Rattle.chip_sheet.specs.Past.{Past}
use Rattle.chip_sheet.specs.Frames.{access}
use Rattle.chip_sheet.specs.Blocks.{registers_of, tx_buffer_of}
use Rattle.chip_sheet.specs.Life.{cause, cause_by}
use Rattle.chip_sheet.specs.Sizes.{tx_sizes, rx_sizes, resizes}
use Rattle.chip_sheet.specs.Streams.{Starts}
use Rattle.chip_sheet.specs.Quiet.{writes_to, Untouched}
use Rattle.chip_parts.specs.Passing.{passed}

-- An event with this access writes nothing.
pub record IsQuiet (past : Past) (e : BusEvent) (a : BusAnswer) : Type 0 where
  pub common : writes_to (access past e) 0 ≡ false
  pub sockets : (m : ℕ) → Untouched past (Bus e a) m

pub quiet_none : (past : Past) (e : BusEvent) (a : BusAnswer) → access past e ≡ NoAccess → IsQuiet past e a
quiet_none past e a is = record {
  common = ap (λ (made : Access). writes_to made 0) is;
  sockets = λ m. record {
    nothing = ap (cause_by past m) is;
    registers = ap (λ (made : Access). writes_to made (registers_of m)) is;
    buffer = ap (λ (made : Access). writes_to made (tx_buffer_of m)) is;
    tx_sizes = ap (λ (made : Access). resizes past tx_sizes made) is;
    rx_sizes = ap (λ (made : Access). resizes past rx_sizes made) is;
  };
}

pub quiet_read : (past : Past) (e : BusEvent) (a : BusAnswer) (block addr : ℕ) → access past e ≡ Read block addr → IsQuiet past e a
quiet_read past e a block addr is = record {
  common = ap (λ (made : Access). writes_to made 0) is;
  sockets = λ m. record {
    nothing = ap (cause_by past m) is;
    registers = ap (λ (made : Access). writes_to made (registers_of m)) is;
    buffer = ap (λ (made : Access). writes_to made (tx_buffer_of m)) is;
    tx_sizes = ap (λ (made : Access). resizes past tx_sizes made) is;
    rx_sizes = ap (λ (made : Access). resizes past rx_sizes made) is;
  };
}

-- It passes nothing to SEND.
pub quiet_passes : (starts : Starts) (past : Past) (e : BusEvent) (a : BusAnswer) (n : ℕ) → IsQuiet past e a → passed starts past n (cause past n (Bus e a)) ≡ 0
quiet_passes starts past e a n quiet = ap (passed starts past n) (quiet.sockets n).nothing
