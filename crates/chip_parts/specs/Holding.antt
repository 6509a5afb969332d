-- The parts stand for what happened.
use Rattle.std.specs.Prelude.{◌≡◌, ◌≢◌, ◌<◌, ◌&&◌, ℕ, true, map, slice_index_or}
use Rattle.chip_sheet.specs.declared.event.Entry.{Entry}
use Rattle.chip_sheet.specs.Past.{Past}
use Rattle.chip_sheet.specs.Quiet.{Untouched}
use Rattle.chip_sheet.specs.Blocks as blocks
use Rattle.chip_sheet.specs.Registers.{common_register}
use Rattle.chip_sheet.specs.Sizes as sizes
use Rattle.chip_sheet.specs.Streams.{Starts}
use Rattle.chip_sheet.specs.Buffers.{sending, receiving}
use Rattle.chip_sheet.specs.Interrupts.{sir_register}
use Rattle.chip_sheet.specs.SocketBlock.{socket_register}
use Rattle.common_regs.specs.Holding as common
use Rattle.sock_regs.specs.Holding.{Reads}
use Rattle.sock_cmd.specs.Lives.{life_of, IsAfter}
use Rattle.sock_cmd.specs.declared.command.CmdAt.{CmdAt}
use Rattle.chip_sheet.specs.Life.{mode, is_closed}
use Rattle.chip_sheet.specs.Peers.{destination, source_port}
use Rattle.ring_mem.specs.Buffers.{TxHolds, RxHolds, flight_of, unread_of, tx_kilobytes, rx_kilobytes}
use Rattle.sock_regs.specs.declared.registers.SockRegs.{SockRegs}
use Rattle.sock_cmd.specs.declared.life.Life.{Life}
use Rattle.chip_parts.specs.declared.parts.Parts.{Parts}

-- The registers of the sockets, and SIR, are those that this past leaves.
pub record Shows (starts : Starts) (parts : Parts) (past : Past) : Type 0 where
  pub registers : (n : ℕ) (other : SockRegs) → n < 8 → Reads (slice_index_or parts.registers n other) (socket_register starts past n)
  pub sir : parts.sir ≡ sir_register starts past

-- An entry does not touch the other seven sockets.
abbrev pub OthersUntouched : Past → Entry → ℕ → Type 0
OthersUntouched past entry sn = (m : ℕ) → m ≢ sn → Untouched past entry m

-- It touches none of them.
abbrev pub AllUntouched : Past → Entry → Type 0
AllUntouched past entry = (m : ℕ) → Untouched past entry m

-- The parts are those that this past leaves, where positions start so.
pub record Holds (starts : Starts) (parts : Parts) (past : Past) : Type 0 where
  pub tx_start : parts.tx_start ≡ starts.tx
  pub rx_start : parts.rx_start ≡ starts.rx
  pub common : common.Reads parts.common (common_register past)
  pub shows : Shows starts parts past
  pub lives : (n : ℕ) (other : Life) → n < 8 → IsAfter (slice_index_or parts.lives n other) past n
  pub tx : (n : ℕ) → n < 8 → TxHolds parts.rings n (sending starts past n)
  pub rx : (n : ℕ) → n < 8 → RxHolds parts.rings n (receiving starts past n)
  pub tx_sizes : tx_kilobytes parts.rings ≡ map (sizes.kilobytes past sizes.tx_sizes) blocks.sockets
  pub rx_sizes : rx_kilobytes parts.rings ≡ map (sizes.kilobytes past sizes.rx_sizes) blocks.sockets

-- What a command finds in the registers of socket n after this past, and whether the sizes are valid.
pub record Found (past : Past) (n : ℕ) (at : CmdAt) : Type 0 where
  pub sn : at.sn ≡ n
  pub mode : at.mr ≡ mode past n
  pub port : at.port ≡ source_port past n
  pub to : at.to ≡ destination past n
  pub valid : at.sizes_valid ≡ (sizes.sizes_valid past sizes.tx_sizes && sizes.sizes_valid past sizes.rx_sizes)

-- Nothing is in flight of a socket that is closed, and nothing is unread.
abbrev pub ClosedIsEmpty : Parts → Type 0
ClosedIsEmpty parts = (n : ℕ) (other : Life) → n < 8 → is_closed (life_of (slice_index_or parts.lives n other)).status ≡ true
    → (flight_of parts.rings n ≡ 0) × (unread_of parts.rings n ≡ 0)
