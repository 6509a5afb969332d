-- The register block of a socket (W5500 datasheet, 3.2 and 4.2), to be laid beside the datasheet's table, and what its places
-- read.
use Rattle.std.specs.Prelude.{ℕ, ◌+◌, ◌-◌, ◌&&◌, nat_le, nat_lt, List, [], ◌∷◌, length, slice_index, unwrap_or, if◌then◌else◌}
use Rattle.chip_sheet.specs.Past.{Past}
use Rattle.chip_sheet.specs.Names.{sn_mr, sn_cr, sn_ir, sn_sr, sn_port, sn_dhar, sn_dipr, sn_dport, sn_mssr, sn_tos, sn_ttl, sn_rxbuf_size, sn_txbuf_size, sn_tx_fsr, sn_tx_rd, sn_tx_wr, sn_rx_rsr, sn_rx_rd, sn_rx_wr, sn_imr, sn_frag, sn_kpalvtr}
use Rattle.chip_sheet.specs.Blocks.{registers_of}
use Rattle.chip_sheet.specs.Registers.{last_written}
use Rattle.chip_sheet.specs.Life.{status, status_code}
use Rattle.chip_sheet.specs.Positions.{byte_of}
use Rattle.chip_sheet.specs.Peers.{peer_byte}
use Rattle.chip_sheet.specs.Streams.{Starts, pointer_byte}
use Rattle.chip_sheet.specs.Windows.{tx_free, unread, tx_rd, rx_wr}
use Rattle.chip_sheet.specs.Interrupts.{interrupt_register}

-- What a register shows.
pub data Shows : Type 0 where
  -- the byte that was last written to the place
  Written : Shows
  -- its value after a reset: a write has no effect on it
  Constant : Shows
  -- what was last written, or the address of the peer that was accepted since
  Peer : Shows
  -- the raised interrupts, of which a write clears those with a 1
  Raised : Shows
  -- the status
  Code : Shows
  -- how many bytes are free of the TX buffer
  TxFree : Shows
  -- the end of the last SEND
  TxRead : Shows
  -- a pointer that is written, and is set when a life opens and when a connection is made
  TxWrite : Shows
  -- how many received bytes are not released
  RxUnread : Shows
  -- a pointer as TxWrite
  RxRead : Shows
  -- the end of the received bytes
  RxWrite : Shows

pub record Register : Type 0 where
  pub place : ℕ
  pub reset : List ℕ
  pub shows : Shows

abbrev register : ℕ → List ℕ → Shows → Register
register place reset shows = record { place = place; reset = reset; shows = shows }

abbrev pub socket_registers : List Register
socket_registers =
    -- mode: the protocol in bits 3..0
    register sn_mr (0x00 ∷ []) Written ∷
    -- command: it is accepted at once and reads 00
    register sn_cr (0x00 ∷ []) Constant ∷
    -- interrupt
    register sn_ir (0x00 ∷ []) Raised ∷
    -- status
    register sn_sr (0x00 ∷ []) Code ∷
    -- source port
    register sn_port (0x00 ∷ 0x00 ∷ []) Written ∷
    -- destination hardware address
    register sn_dhar (0xFF ∷ 0xFF ∷ 0xFF ∷ 0xFF ∷ 0xFF ∷ 0xFF ∷ []) Written ∷
    -- destination address
    register sn_dipr (0x00 ∷ 0x00 ∷ 0x00 ∷ 0x00 ∷ []) Peer ∷
    -- destination port
    register sn_dport (0x00 ∷ 0x00 ∷ []) Peer ∷
    -- maximum segment size
    register sn_mssr (0x00 ∷ 0x00 ∷ []) Written ∷
    -- type of service
    register sn_tos (0x00 ∷ []) Written ∷
    -- time to live
    register sn_ttl (0x80 ∷ []) Written ∷
    -- the sizes of the buffers, in kilobytes
    register sn_rxbuf_size (0x02 ∷ []) Written ∷
    register sn_txbuf_size (0x02 ∷ []) Written ∷
    -- TX free size
    register sn_tx_fsr (0x08 ∷ 0x00 ∷ []) TxFree ∷
    -- TX read pointer
    register sn_tx_rd (0x00 ∷ 0x00 ∷ []) TxRead ∷
    -- TX write pointer
    register sn_tx_wr (0x00 ∷ 0x00 ∷ []) TxWrite ∷
    -- RX received size
    register sn_rx_rsr (0x00 ∷ 0x00 ∷ []) RxUnread ∷
    -- RX read pointer
    register sn_rx_rd (0x00 ∷ 0x00 ∷ []) RxRead ∷
    -- RX write pointer
    register sn_rx_wr (0x00 ∷ 0x00 ∷ []) RxWrite ∷
    -- interrupt mask
    register sn_imr (0xFF ∷ []) Written ∷
    -- fragment field
    register sn_frag (0x40 ∷ 0x00 ∷ []) Written ∷
    -- keep alive time
    register sn_kpalvtr (0x00 ∷ []) Written ∷
    []

-- One place: what it reads after a reset, what it shows, and which byte of its register it is, from 0.
pub record Place : Type 0 where
  pub reset : ℕ
  pub shows : Shows
  pub index : ℕ

-- A place of no register is reserved: it reads 00, and a write has no effect.
abbrev pub reserved : Place
reserved = record { reset = 0x00; shows = Constant; index = 0 }

abbrev pub place_in : List Register → ℕ → Place
place_in [] at = reserved
place_in (r ∷ more) at =
    if nat_le r.place at && nat_lt at (r.place + length r.reset) then
    record { reset = slice_index r.reset (at - r.place); shows = r.shows; index = at - r.place } else
    place_in more at

unfoldable pub socket_place : ℕ → Place
socket_place at = place_in socket_registers at

-- What a place reads, by what it shows.
abbrev pub shown_by : Starts → Past → ℕ → ℕ → ℕ → ℕ → Shows → ℕ
shown_by starts past n at reset index Written = unwrap_or (last_written past (registers_of n) at) reset
shown_by starts past n at reset index Constant = reset
shown_by starts past n at reset index Peer = peer_byte past n at reset
shown_by starts past n at reset index Raised = interrupt_register starts past n
shown_by starts past n at reset index Code = status_code (status past n)
shown_by starts past n at reset index TxFree = byte_of index (tx_free starts past n)
shown_by starts past n at reset index TxRead = byte_of index (tx_rd starts past n)
shown_by starts past n at reset index TxWrite = pointer_byte past n at (byte_of index starts.tx)
shown_by starts past n at reset index RxUnread = byte_of index (unread starts past n)
shown_by starts past n at reset index RxRead = pointer_byte past n at (byte_of index starts.rx)
shown_by starts past n at reset index RxWrite = byte_of index (rx_wr starts past n)

-- What an address of the register block of socket n reads.
abbrev pub socket_register : Starts → Past → ℕ → ℕ → ℕ
socket_register starts past n at =
    let place = socket_place at in shown_by starts past n at place.reset place.index place.shows
