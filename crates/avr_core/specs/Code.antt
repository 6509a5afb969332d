-- Flash and what its words say.
use Rattle.std.specs.Prelude.{◌≡◌, ℕ, ◌+◌, List, length, Some, slice_get, Result}
use Rattle.avr_core.specs.Ops.{IsOp}
use Rattle.avr_core.specs.Registers.{in_flash}
use Rattle.avr_core.specs.declared.op.Op.{Op}
use Rattle.avr_table.specs.Decoded.{decoded}
use Rattle.avr_table.specs.declared.fault.DecodeFault.{DecodeFault}
use Rattle.avr_table.specs.declared.instr.Instr.{Instr}
use Rattle.flash.specs.Image.{word_at}

-- What stands at a word address, before the word behind it.
unfoldable pub said_at : List ℕ → ℕ → Result Instr DecodeFault
said_at flash at = decoded (word_at flash at) (word_at flash (in_flash (at + 1)))

-- The ops of all words: each is its word's decoding.
pub record AreOps (flash : List ℕ) (ops : List Op) : Type 0 where
  pub count : length ops ≡ 16384
  pub each : (at : ℕ) (op : Op) → slice_get ops at ≡ Some op → IsOp op (said_at flash at)
