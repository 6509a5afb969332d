-- What the registers hold.
use Rattle.std.specs.Prelude.{◌≡◌, ℕ, true, slice_index}
use Rattle.chip_sheet.specs.SocketBlock.{socket_place}
use Rattle.sock_regs.specs.declared.registers.SockRegs.{SockRegs}
use Rattle.sock_regs.specs.Places.{is_kept}

-- Each place for which the registers answer holds what this function says of it, past the last one too.
abbrev pub Reads : SockRegs → (ℕ → ℕ) → Type 0
Reads registers f = (at : ℕ) → is_kept (socket_place at).shows ≡ true → slice_index registers.bytes at ≡ f at
