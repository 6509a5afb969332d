-- What one life of a socket sent and received, as lists without bound. Contracts and registers show parts of them.
use Rattle.std.specs.Prelude.{ℕ, ◌+◌, ◌-◌, ◌%◌, zero, suc, Bool, true, false, not, ◌==◌, ◌&&◌, ◌||◌, nat_le, List, [], ◌∷◌, ◌++◌, length, Option, unwrap_or, if◌then◌else◌}
use Rattle.chip_sheet.specs.declared.event.Addr.{Addr}
use Rattle.chip_sheet.specs.declared.phase.Access.{Access}
use Rattle.chip_sheet.specs.declared.phase.Access.TheVariants.{NoAccess, Read, Write}
use Rattle.chip_sheet.specs.declared.socket.Status.{Status}
use Rattle.chip_sheet.specs.declared.socket.Status.TheVariants.{Established, FinWait, CloseWait, LastAck, Udp}
use Rattle.chip_sheet.specs.declared.socket.Cause.{Cause}
use Rattle.chip_sheet.specs.declared.socket.Cause.TheVariants as because
use Rattle.chip_sheet.specs.declared.event.Entry.TheVariants.{Bus, Link, Rest}
use Rattle.chip_sheet.specs.declared.event.LinkEntry.{LinkEntry}
use Rattle.chip_sheet.specs.declared.event.LinkEntry.TheVariants.{Linked, Accepted, Took, Got, Datagram}
use Rattle.chip_sheet.specs.Past.{Past}
use Rattle.chip_sheet.specs.Frames.{access_of}
use Rattle.chip_sheet.specs.Names.{sn_tx_wr, sn_rx_rd}
use Rattle.chip_sheet.specs.Blocks.{registers_of, tx_buffer_of}
use Rattle.chip_sheet.specs.Registers.{is_reset, written_by}
use Rattle.chip_sheet.specs.Life.{cause, status, lives, begins, is_udp}
use Rattle.chip_sheet.specs.Positions.{ahead, byte_of, pair}
use Rattle.chip_sheet.specs.Sending.{bytes_from}
use Rattle.chip_sheet.specs.Sizes.{tx_sizes, tx_size, rx_size, resizes}
use Rattle.chip_sheet.specs.Peers.{peer_bytes, destination}

-- Where the positions of a connection begin, 0 to 65535: a chip's own choice, which the datasheet leaves open.
pub record Starts : Type 0 where
  pub tx : ℕ
  pub rx : ℕ

-- This entry is of socket n in this life.
abbrev pub is_of : Past → ℕ → ℕ → ℕ → Bool
is_of past m n life = m == n && lives past n == life

-- SEND takes bytes in these statuses (this profile's own; the datasheet names ESTABLISHED and CLOSE_WAIT for TCP).
abbrev pub sends : Status → Bool
sends Established = true
sends CloseWait = true
sends Udp = true
sends status = false

-- RECV releases bytes in these statuses, and in no other a window holds any (this profile's own).
abbrev pub is_open : Status → Bool
is_open Established = true
is_open FinWait = true
is_open CloseWait = true
is_open LastAck = true
is_open Udp = true
is_open status = false

abbrev pub is_established : Status → Bool
is_established Established = true
is_established status = false

-- The byte of the TX buffer of socket n at the place of a position, after one more access: a reset, and a write that changes any
-- TX size, clear the memory of the direction.
abbrev pub byte_after : Past → Access → ℕ → ℕ → ℕ → ℕ → ℕ
byte_after past NoAccess n size at before = before
byte_after past (Read block addr) n size at before = before
byte_after past (Write block addr v) n size at before =
    if is_reset (Write block addr v) || resizes past tx_sizes (Write block addr v) then 0 else
    (if block == tx_buffer_of n && addr % size == at % size then v else before)

-- The last byte written to the place of a position, in a buffer of this size.
abbrev pub last_byte : Past → ℕ → ℕ → ℕ → ℕ
last_byte [] n size at = 0
last_byte (entry ∷ past) n size at = byte_after past (access_of past entry) n size at (last_byte past n size at)

abbrev pub byte_in : Past → ℕ → ℕ → ℕ → ℕ
byte_in past n zero at = 0
byte_in past n (suc most) at = last_byte past n (suc most) at

-- The byte of the TX buffer at a position or an address (datasheet, 2.2.2, TX buffer; 3.3 memory): both are taken modulo the
-- buffer's size. A buffer of size 0 reads 00.
abbrev pub tx_byte : Past → ℕ → ℕ → ℕ
tx_byte past n at = byte_in past n (tx_size past n) at

-- So many bytes of it, from a position on.
abbrev pub tx_bytes : Past → ℕ → ℕ → ℕ → List ℕ
tx_bytes past n at count = bytes_from (tx_byte past n) at count

-- A connection was made in a life.
abbrev pub makes : LinkEntry → Bool
makes Linked = true
makes (Accepted from) = true
makes what = false

abbrev pub is_made : Past → ℕ → ℕ → Bool
is_made [] n life = false
is_made (Link m what ∷ past) n life = (makes what && is_of past m n life) || is_made past n life
is_made (Bus e a ∷ past) n life = is_made past n life
is_made (Rest ∷ past) n life = is_made past n life

-- The position of the first byte that is sent, and of the first that is received, in a life.
abbrev pub tx_base : Starts → Past → ℕ → ℕ → ℕ
tx_base starts past n life = if is_made past n life then starts.tx else 0

abbrev pub rx_base : Starts → Past → ℕ → ℕ → ℕ
rx_base starts past n life = if is_made past n life then starts.rx else 0

-- A byte of a pointer register that is written, Sn_TX_WR or Sn_RX_RD, after one more entry: the latest of a write of that byte, an
-- accepted OPEN, which makes it 0, and the making of a connection, which makes it the start; a reset makes it 0.
abbrev pub pointer_after : Cause → Status → ℕ → Option ℕ → ℕ → ℕ
pointer_after because.Reset status start byte before = 0
pointer_after because.Linked status start byte before = start
pointer_after because.Accepted status start byte before = start
pointer_after why status start byte before = if begins why status then 0 else unwrap_or byte before

abbrev pub pointer_byte : Past → ℕ → ℕ → ℕ → ℕ
pointer_byte [] n at start = 0
pointer_byte (entry ∷ past) n at start =
    pointer_after (cause past n entry) (status past n) start (written_by (access_of past entry) (registers_of n) at)
    (pointer_byte past n at start)

-- Sn_TX_WR and Sn_RX_RD (datasheet, 4.2): up to where SEND sends, and up to where RECV releases.
abbrev pub tx_wr : Starts → Past → ℕ → ℕ
tx_wr starts past n =
    pair (pointer_byte past n sn_tx_wr (byte_of 0 starts.tx)) (pointer_byte past n (sn_tx_wr + 1) (byte_of 1 starts.tx))

abbrev pub rx_rd : Starts → Past → ℕ → ℕ
rx_rd starts past n =
    pair (pointer_byte past n sn_rx_rd (byte_of 0 starts.rx)) (pointer_byte past n (sn_rx_rd + 1) (byte_of 1 starts.rx))

-- How many bytes a SEND takes, where so many were sent before in the socket's present life: from their end to Sn_TX_WR.
abbrev pub range_length : Starts → Past → ℕ → ℕ → ℕ
range_length starts past n sent = ahead (tx_base starts past n (lives past n) + sent) (tx_wr starts past n)

-- The bytes that it takes: those in the TX buffer at that moment (datasheet, 4.2 Sn_CR, SEND).
abbrev pub range : Starts → Past → ℕ → ℕ → List ℕ
range starts past n sent =
    tx_bytes past n (tx_base starts past n (lives past n) + sent) (range_length starts past n sent)

-- A SEND of this life, in a status that takes it.
abbrev pub takes_send : Past → ℕ → ℕ → Bool
takes_send past n life = sends (status past n) && lives past n == life

abbrev pub sent_by : Starts → Past → ℕ → ℕ → Cause → List ℕ → List ℕ
sent_by starts past n life because.Send before =
    if takes_send past n life then before ++ range starts past n (length before) else before
sent_by starts past n life why before = before

-- All bytes that were passed to SEND in a life of socket n, in order.
abbrev pub sent : Starts → Past → ℕ → ℕ → List ℕ
sent starts [] n life = []
sent starts (entry ∷ past) n life = sent_by starts past n life (cause past n entry) (sent starts past n life)

abbrev pub ends_by : Starts → Past → ℕ → ℕ → Cause → List ℕ → List ℕ
ends_by starts past n life because.Send before =
    let count = length (sent starts past n life) in
    if takes_send past n life then before ++ (count + range_length starts past n count) ∷ [] else before
ends_by starts past n life why before = before

-- Where each SEND of a life ended: how many bytes were sent once it was made.
abbrev pub ends : Starts → Past → ℕ → ℕ → List ℕ
ends starts [] n life = []
ends starts (entry ∷ past) n life = ends_by starts past n life (cause past n entry) (ends starts past n life)

-- A SEND of this life that sends a datagram: in UDP, of a range that is not empty.
abbrev pub sends_datagram : Starts → Past → ℕ → ℕ → Bool
sends_datagram starts past n life =
    is_udp (status past n) && lives past n == life && not (range_length starts past n (length (sent starts past n life)) == 0)

abbrev pub destinations_by : Starts → Past → ℕ → ℕ → Cause → List Addr → List Addr
destinations_by starts past n life because.Send before =
    if sends_datagram starts past n life then before ++ destination past n ∷ [] else before
destinations_by starts past n life why before = before

-- Where each datagram of a life goes: what Sn_DIPR and Sn_DPORT held at its SEND, in order.
abbrev pub destinations : Starts → Past → ℕ → ℕ → List Addr
destinations starts [] n life = []
destinations starts (entry ∷ past) n life =
    destinations_by starts past n life (cause past n entry) (destinations starts past n life)

-- How many of the sent bytes the link took: the taken count.
abbrev pub taken_by : LinkEntry → ℕ
taken_by (Took count) = count
taken_by what = 0

abbrev pub taken : Past → ℕ → ℕ → ℕ
taken [] n life = 0
taken (Link m what ∷ past) n life = if is_of past m n life then taken past n life + taken_by what else taken past n life
taken (Bus e a ∷ past) n life = taken past n life
taken (Rest ∷ past) n life = taken past n life

-- The bytes that a link event supplies.
abbrev pub bytes_of : LinkEntry → List ℕ
bytes_of (Got bytes) = bytes
bytes_of (Datagram from body) = body
bytes_of what = []

-- All bytes that the link supplied in a life, kept or thrown away: those of a connection, and the bodies of datagrams.
abbrev pub supplied : Past → ℕ → ℕ → List ℕ
supplied [] n life = []
supplied (Link m what ∷ past) n life =
    if is_of past m n life then supplied past n life ++ bytes_of what else supplied past n life
supplied (Bus e a ∷ past) n life = supplied past n life
supplied (Rest ∷ past) n life = supplied past n life

-- How far RECV goes, where so many bytes were released before in the socket's present life: from their end to Sn_RX_RD.
abbrev pub release_length : Starts → Past → ℕ → ℕ → ℕ
release_length starts past n released = ahead (rx_base starts past n (lives past n) + released) (rx_rd starts past n)

abbrev pub released_by : Starts → Past → ℕ → ℕ → Cause → ℕ → ℕ
released_by starts past n life because.Receive before =
    if is_open (status past n) && lives past n == life then before + release_length starts past n before else before
released_by starts past n life why before = before

-- How many of the received bytes RECV has released (datasheet, 4.2 Sn_CR, RECV).
abbrev pub released : Starts → Past → ℕ → ℕ → ℕ
released starts [] n life = 0
released starts (entry ∷ past) n life = released_by starts past n life (cause past n entry) (released starts past n life)

-- The eight bytes that stand before the body of a datagram in the RX buffer: the sender's address and port, and how many bytes the
-- body has, the high byte first (this is how the W5500 hands datagrams on; 8 and the length of the body must be free).
abbrev pub header : Addr → ℕ → List ℕ
header from count = peer_bytes from ++ byte_of 0 count ∷ byte_of 1 count ∷ []

abbrev pub header_length : ℕ
header_length = 8

-- A datagram of so many bytes fits where so many are free.
abbrev pub has_place : ℕ → ℕ → Bool
has_place count free = nat_le (header_length + count) free

-- The bytes that a link event puts into the RX buffer of a socket in a status, where so many are free of it: those that come in
-- ESTABLISHED, and a datagram that fits, with its header. What comes after DISCON is thrown away, and so is a datagram that does
-- not fit (this profile's own).
abbrev pub put_by : Status → ℕ → LinkEntry → List ℕ
put_by Established free (Got bytes) = bytes
put_by Udp free (Datagram from body) = if has_place (length body) free then header from (length body) ++ body else []
put_by status free what = []

-- How many bytes are free of the RX buffer for a life of which so many were received.
abbrev pub free_behind : Starts → Past → ℕ → ℕ → ℕ → ℕ
free_behind starts past n life received = rx_size past n - (received - released starts past n life)

abbrev pub got_by : Starts → Past → ℕ → ℕ → ℕ → LinkEntry → List ℕ → List ℕ
got_by starts past m n life what before =
    if is_of past m n life then before ++ put_by (status past n) (free_behind starts past n life (length before)) what else before

-- The bytes that were received in a life: what was put into the RX buffer, in order.
abbrev pub got : Starts → Past → ℕ → ℕ → List ℕ
got starts [] n life = []
got starts (Link m what ∷ past) n life = got_by starts past m n life what (got starts past n life)
got starts (Bus e a ∷ past) n life = got starts past n life
got starts (Rest ∷ past) n life = got starts past n life
