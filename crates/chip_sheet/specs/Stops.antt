-- Where the board stops in place of an answer (this profile's own).
use Rattle.std.specs.Prelude.{ℕ, ◌%◌, ◌/◌, Bool, true, false, not, ◌==◌, ◌&&◌, ◌||◌, nat_lt, List, [], ◌∷◌, length, Option, Some, None}
use Rattle.board_bus.specs.declared.event.BusEvent.{BusEvent}
use Rattle.chip_sheet.specs.declared.stop.ChipStop.{ChipStop}
use Rattle.chip_sheet.specs.declared.stop.ChipStop.TheVariants.{ReservedBlock, Pppoe, SizeWhileOpen, OverwriteInFlight, SendMac, RawEthernet, Multicast, BadBufferSize, SendBusy, SendTooLong, RecvPastEnd}
use Rattle.chip_sheet.specs.declared.phase.Access.{Access}
use Rattle.chip_sheet.specs.declared.phase.Access.TheVariants.{NoAccess, Read, Write}
use Rattle.chip_sheet.specs.declared.block.Block.{Block}
use Rattle.chip_sheet.specs.declared.block.Block.TheVariants.{Common, Registers, TxBuffer, Reserved}
use Rattle.chip_sheet.specs.declared.socket.Status.{Status}
use Rattle.chip_sheet.specs.Past.{Past}
use Rattle.chip_sheet.specs.Frames.{access}
use Rattle.chip_sheet.specs.Bits.{has_bit}
use Rattle.chip_sheet.specs.Names.{mr, sn_cr, tcp, udp, macraw, multi, open_command, send_command, send_mac_command, recv_command}
use Rattle.chip_sheet.specs.Blocks.{sockets, block_of}
use Rattle.chip_sheet.specs.Life.{status, lives, mode, protocol_of, is_closed, is_udp}
use Rattle.chip_sheet.specs.Sizes.{rx_sizes, tx_sizes, sizes_valid, tx_size, resizes_block}
use Rattle.chip_sheet.specs.Streams.{Starts, sent, range_length, released, release_length, sends, is_open}
use Rattle.chip_sheet.specs.Windows.{flight, tx_free, unread, in_flight_at}

-- An access with the block that its select bits name, as the rows below look at it.
pub data BlockAccess : Type 0 where
  -- it reads a byte of a block, whose select bits stand first
  Reads : ℕ → Block → ℕ → BlockAccess
  -- it writes a byte of a block
  Writes : ℕ → Block → ℕ → ℕ → BlockAccess
  -- there is no access
  NoBlock : BlockAccess

abbrev pub block_access : Access → BlockAccess
block_access NoAccess = NoBlock
block_access (Read bits addr) = Reads bits (block_of bits) addr
block_access (Write bits addr v) = Writes bits (block_of bits) addr v

-- A stop exactly where this holds.
abbrev pub where_it : Bool → ChipStop → Option ChipStop
where_it true stop = Some stop
where_it false stop = None

-- A byte of a reserved block is read or written.
abbrev pub reserved_block : BlockAccess → Option ChipStop
reserved_block (Reads bits Reserved addr) = Some (ReservedBlock bits)
reserved_block (Writes bits Reserved addr v) = Some (ReservedBlock bits)
reserved_block other = None

-- MR is written with bit 7 clear and bit 3 set.
abbrev pub pppoe : BlockAccess → Option ChipStop
pppoe (Writes bits Common addr v) = where_it (addr == mr && nat_lt v 128 && v / 8 % 2 == 1) Pppoe
pppoe other = None

abbrev pub any_open : Past → List ℕ → Bool
any_open past [] = false
any_open past (n ∷ more) = not (is_closed (status past n)) || any_open past more

-- A size register is written with another value while any socket is not closed.
abbrev pub size_while_open : Past → BlockAccess → Option ChipStop
size_while_open past (Writes bits (Registers n) addr v) =
    where_it ((resizes_block past rx_sizes (Registers n) addr v || resizes_block past tx_sizes (Registers n) addr v)
    && any_open past sockets) (SizeWhileOpen n)
size_while_open past other = None

-- A byte of the TX buffer is written at the place of a byte in flight.
abbrev pub overwrite : ℕ → ℕ → ℕ → Option ℕ → Option ChipStop
overwrite n size addr None = None
overwrite n size addr (Some j) = Some (OverwriteInFlight n (addr % size))

abbrev pub overwrite_in_flight : Starts → Past → BlockAccess → Option ChipStop
overwrite_in_flight starts past (Writes bits (TxBuffer n) addr v) =
    overwrite n (tx_size past n) addr (in_flight_at starts past n addr)
overwrite_in_flight starts past other = None

-- The stops of a command: rows that look at what is written to Sn_CR, and at facts of the socket.

-- The command SEND_MAC, in any status.
abbrev pub send_mac : ℕ → ℕ → Option ChipStop
send_mac n v = where_it (v == send_mac_command) (SendMac n)

-- OPEN in CLOSED with the protocol MACRAW. The mode is what Sn_MR holds.
abbrev pub raw_ethernet : ℕ → Status → ℕ → ℕ → Option ChipStop
raw_ethernet n status mode v = where_it (v == open_command && is_closed status && protocol_of mode == macraw) (RawEthernet n)

-- OPEN in CLOSED with the protocol UDP and the multicast bit.
abbrev pub multicast : ℕ → Status → ℕ → ℕ → Option ChipStop
multicast n status mode v =
    where_it (v == open_command && is_closed status && protocol_of mode == udp && has_bit mode multi) (Multicast n)

-- OPEN in CLOSED with the protocol TCP or UDP while the sizes of a direction are not valid.
abbrev pub bad_buffer_size : ℕ → Status → ℕ → Bool → ℕ → Option ChipStop
bad_buffer_size n status mode valid v =
    where_it (v == open_command && is_closed status && (protocol_of mode == tcp || protocol_of mode == udp) && not valid)
    (BadBufferSize n)

-- SEND in UDP while so many bytes of a datagram are in flight.
abbrev pub send_busy : ℕ → Status → ℕ → ℕ → Option ChipStop
send_busy n status flight v = where_it (v == send_command && is_udp status && nat_lt 0 flight) (SendBusy n)

-- SEND, in a status that takes it, of a range that is longer than what is free.
abbrev pub send_too_long : ℕ → Status → ℕ → ℕ → ℕ → Option ChipStop
send_too_long n status len free v = where_it (v == send_command && sends status && nat_lt free len) (SendTooLong n len free)

-- RECV, in a status that takes it, past the received bytes.
abbrev pub recv_past_end : ℕ → Status → ℕ → ℕ → ℕ → Option ChipStop
recv_past_end n status asked there v =
    where_it (v == recv_command && is_open status && nat_lt there asked) (RecvPastEnd n asked there)

-- The first row that stops.
abbrev pub first : List (Option ChipStop) → Option ChipStop
first [] = None
first (None ∷ more) = first more
first (Some stop ∷ more) = Some stop

-- What a command finds of its socket.
pub record CommandFacts : Type 0 where
  pub status : Status
  -- what Sn_MR holds
  pub mode : ℕ
  -- the sizes of both directions are valid
  pub valid : Bool
  -- how many bytes are in flight, how many a SEND would take, and how many are free of the TX buffer
  pub flight : ℕ
  pub len : ℕ
  pub free : ℕ
  -- how many bytes a RECV would release, and how many are there
  pub asked : ℕ
  pub there : ℕ

-- The stops of a command in the order in which they are looked at: the first four need no buffer.
abbrev pub command_stop : ℕ → CommandFacts → ℕ → Option ChipStop
command_stop n facts v = first (
    send_mac n v ∷
    raw_ethernet n facts.status facts.mode v ∷
    multicast n facts.status facts.mode v ∷
    bad_buffer_size n facts.status facts.mode facts.valid v ∷
    send_busy n facts.status facts.flight v ∷
    send_too_long n facts.status facts.len facts.free v ∷
    recv_past_end n facts.status facts.asked facts.there v ∷
    [])

-- What a command to socket n finds after this past.
abbrev pub command_facts : Starts → Past → ℕ → CommandFacts
command_facts starts past n = record {
  status = status past n;
  mode = mode past n;
  valid = sizes_valid past tx_sizes && sizes_valid past rx_sizes;
  flight = flight starts past n;
  len = range_length starts past n (length (sent starts past n (lives past n)));
  free = tx_free starts past n;
  asked = release_length starts past n (released starts past n (lives past n));
  there = unread starts past n;
}

-- A command is written that stops.
abbrev pub refused_command : Starts → Past → BlockAccess → Option ChipStop
refused_command starts past (Writes bits (Registers n) addr v) =
    elim (addr == sn_cr) [ true ↦ command_stop n (command_facts starts past n) v | false ↦ None ]
refused_command starts past other = None

-- The stops in the order in which they are looked at, those of commands last.
abbrev pub stop_by : Starts → Past → BlockAccess → Option ChipStop
stop_by starts past made = first (
    reserved_block made ∷
    pppoe made ∷
    size_while_open past made ∷
    overwrite_in_flight starts past made ∷
    refused_command starts past made ∷
    [])

-- The stop of an event after this past, if it has one.
abbrev pub stop : Starts → Past → BusEvent → Option ChipStop
stop starts past e = stop_by starts past (block_access (access past e))
