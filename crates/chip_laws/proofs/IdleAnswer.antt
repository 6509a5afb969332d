-- What a byte that makes no access is answered.
use Rattle.std.proofs.Common.{◌≡◌, ℕ, Bool, true, false, cond, ap, ◌∙◌}
use Rattle.board_bus.specs.declared.event.BusEvent.TheVariants.{Byte}
use Rattle.board_bus.specs.declared.event.BusAnswer.TheVariants.{Out}
use Rattle.chip_sheet.specs.declared.phase.Access.{Access}
use Rattle.chip_sheet.specs.declared.phase.Access.TheVariants.{NoAccess}
use Rattle.chip_sheet.specs.Past.{Past}
use Rattle.chip_sheet.specs.Frames.{access, is_low}
use Rattle.chip_sheet.specs.Streams.{Starts}
use Rattle.chip_sheet.specs.Answers.{answer, byte_out}

idle : (starts : Starts) (past : Past) (v : ℕ) (low : Bool) → access past (Byte v) ≡ NoAccess → is_low past ≡ low → answer starts past (Byte v) ≡ Out (cond low 0x00 0xFF)
idle starts past v low h level =
    ap (λ (made : Access). Out (byte_out starts past made)) h ∙ ap (λ (b : Bool). Out (cond b 0x00 0xFF)) level

pub idle_high : (starts : Starts) (past : Past) (v : ℕ) → access past (Byte v) ≡ NoAccess → is_low past ≡ false → answer starts past (Byte v) ≡ Out 0xFF
idle_high starts past v h level = idle starts past v false h level

pub idle_low : (starts : Starts) (past : Past) (v : ℕ) → access past (Byte v) ≡ NoAccess → is_low past ≡ true → answer starts past (Byte v) ≡ Out 0x00
idle_low starts past v h level = idle starts past v true h level
