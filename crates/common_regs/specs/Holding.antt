-- What the registers hold.
use Rattle.std.specs.Prelude.{◌≡◌, ℕ, slice_index}
use Rattle.common_regs.specs.declared.registers.CommonRegs.{CommonRegs}

-- Each place of the registers holds what this function says of it, past the last one too.
abbrev pub Reads : CommonRegs → (ℕ → ℕ) → Type 0
Reads registers f = (at : ℕ) → slice_index registers.bytes at ≡ f at
