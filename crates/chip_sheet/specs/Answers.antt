-- What the chip answers.
use Rattle.std.specs.Prelude.{ℕ, true, false, not, ◌==◌, if◌then◌else◌}
use Rattle.board_bus.specs.declared.event.BusEvent.{BusEvent}
use Rattle.board_bus.specs.declared.event.BusEvent.TheVariants.{Select, Byte, Look}
use Rattle.board_bus.specs.declared.event.BusAnswer.{BusAnswer}
use Rattle.board_bus.specs.declared.event.BusAnswer.TheVariants.{Done, Out, Level}
use Rattle.chip_sheet.specs.declared.phase.Access.{Access}
use Rattle.chip_sheet.specs.declared.phase.Access.TheVariants.{NoAccess, Read, Write}
use Rattle.chip_sheet.specs.declared.block.Block.{Block}
use Rattle.chip_sheet.specs.declared.block.Block.TheVariants.{Common, Registers, TxBuffer, RxBuffer, Reserved}
use Rattle.chip_sheet.specs.Past.{Past}
use Rattle.chip_sheet.specs.Frames.{access, is_low}
use Rattle.chip_sheet.specs.Names.{sir}
use Rattle.chip_sheet.specs.Blocks.{block_of}
use Rattle.chip_sheet.specs.Registers.{common_register}
use Rattle.chip_sheet.specs.Streams.{Starts, tx_byte}
use Rattle.chip_sheet.specs.Windows.{rx_byte}
use Rattle.chip_sheet.specs.Interrupts.{sir_register, interrupt_low}
use Rattle.chip_sheet.specs.SocketBlock.{socket_register}

-- The byte on MISO during a byte that makes no access: FF while the select line is high, and 00 in the address and control
-- phases (this profile's own).
abbrev pub idle_byte : Past → ℕ
idle_byte past = if is_low past then 0x00 else 0xFF

-- What an address of the common register block reads: SIR shows which sockets ask for an interrupt.
abbrev pub common_byte : Starts → Past → ℕ → ℕ
common_byte starts past addr = elim (addr == sir) [ true ↦ sir_register starts past | false ↦ common_register past addr ]

-- What an address of a block reads. A reserved block is never read: the board stops.
abbrev pub byte_at : Starts → Past → Block → ℕ → ℕ
byte_at starts past Common addr = common_byte starts past addr
byte_at starts past (Registers n) addr = socket_register starts past n addr
byte_at starts past (TxBuffer n) addr = tx_byte past n addr
byte_at starts past (RxBuffer n) addr = rx_byte starts past n addr
byte_at starts past Reserved addr = 0x00

-- The byte on MISO during an access: what the place reads, and 00 in a written byte (this profile's own).
abbrev pub byte_out : Starts → Past → Access → ℕ
byte_out starts past NoAccess = idle_byte past
byte_out starts past (Read block addr) = byte_at starts past (block_of block) addr
byte_out starts past (Write block addr v) = 0x00

-- What the chip answers to an event after this past: INTn is high exactly where it is not low.
abbrev pub answer : Starts → Past → BusEvent → BusAnswer
answer starts past (Select low) = Done
answer starts past (Byte v) = Out (byte_out starts past (access past (Byte v)))
answer starts past Look = Level (not (interrupt_low starts past))
