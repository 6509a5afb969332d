-- Which entries change what a socket sends and what it receives, and what they make of it.
use Rattle.std.specs.Prelude.{◌≡◌, ℕ, ◌+◌, Bool, true, false, not, ◌==◌, ◌&&◌, ◌||◌, nat_lt, ◌∷◌, length, Option}
use Rattle.board_bus.specs.declared.event.BusEvent.{BusEvent}
use Rattle.chip_sheet.specs.declared.event.Entry.{Entry}
use Rattle.chip_sheet.specs.declared.event.Entry.TheVariants.{Link}
use Rattle.chip_sheet.specs.declared.event.LinkEntry.{LinkEntry}
use Rattle.chip_sheet.specs.declared.phase.Access.{Access}
use Rattle.chip_sheet.specs.declared.phase.Access.TheVariants.{NoAccess, Read, Write}
use Rattle.chip_sheet.specs.declared.stop.ChipStop.{ChipStop}
use Rattle.chip_sheet.specs.declared.stop.ChipStop.TheVariants.{SizeWhileOpen}
use Rattle.chip_sheet.specs.declared.socket.Status.{Status}
use Rattle.chip_sheet.specs.declared.socket.Cause.{Cause}
use Rattle.chip_sheet.specs.declared.socket.Cause.TheVariants as because
use Rattle.chip_sheet.specs.Past.{Past}
use Rattle.chip_sheet.specs.Frames.{access, access_of}
use Rattle.chip_sheet.specs.Names.{sn_cr}
use Rattle.chip_sheet.specs.Blocks.{sockets, registers_of, tx_buffer_of}
use Rattle.chip_sheet.specs.Registers.{is_reset}
use Rattle.chip_sheet.specs.Positions.{has_between}
use Rattle.chip_sheet.specs.Life.{cause, status, lives, begins}
use Rattle.chip_sheet.specs.Sizes.{tx_sizes, rx_sizes, tx_size, resizes}
use Rattle.chip_sheet.specs.Streams.{Starts, sends, is_open, is_established, sent, ends, taken, released, range_length, release_length, put_by}
use Rattle.chip_sheet.specs.Sending as sends_of
use Rattle.chip_sheet.specs.Sending.{Sending, after_pointer}
use Rattle.chip_sheet.specs.Receiving as receives
use Rattle.chip_sheet.specs.Receiving.{Receiving, after_got}
use Rattle.chip_sheet.specs.Buffers.{sending, receiving}
use Rattle.chip_sheet.specs.Windows.{unread, rx_free, in_flight, in_flight_at, offered_length}
use Rattle.chip_sheet.specs.Stops.{where_it, overwrite, any_open}
use Rattle.chip_sheet.specs.Quiet.{writes_to}

-- An access writes nothing but a command of socket n.
abbrev pub writes_command_alone : Access → ℕ → Bool
writes_command_alone NoAccess n = true
writes_command_alone (Read block addr) n = true
writes_command_alone (Write block addr v) n = block == registers_of n && addr == sn_cr

-- What happens to a socket in a status neither adds to what it sent, nor takes from it, nor begins it anew.
abbrev pub leaves_sent : Cause → Status → Bool
leaves_sent because.Reset status = false
leaves_sent because.Linked status = false
leaves_sent because.Accepted status = false
leaves_sent (because.Took count) status = false
leaves_sent because.Send status = not (sends status)
leaves_sent why status = not (begins why status)

-- What happens to a socket in a status neither adds to what it received, nor releases of it, nor begins it anew.
abbrev pub leaves_got : Cause → Status → Bool
leaves_got because.Reset status = false
leaves_got because.Linked status = false
leaves_got because.Accepted status = false
leaves_got because.Got status = not (is_established status)
leaves_got (because.Datagram count) status = false
leaves_got because.Receive status = not (is_open status)
leaves_got why status = not (begins why status)

-- Nothing, or a command that is no SEND and no RECV.
abbrev pub is_quiet : Cause → Bool
is_quiet because.Nothing = true
is_quiet because.OpenTcp = true
is_quiet because.OpenUdp = true
is_quiet because.Listen = true
is_quiet because.Connect = true
is_quiet because.Disconnect = true
is_quiet because.Close = true
is_quiet why = false

-- Of one more entry: it is nothing for socket n.
abbrev pub IsNothing : Past → Entry → ℕ → Type 0
IsNothing past entry n = cause past n entry ≡ because.Nothing

-- It writes nothing but a command of socket n.
abbrev pub CommandAlone : Past → Entry → ℕ → Type 0
CommandAlone past entry n = writes_command_alone (access_of past entry) n ≡ true

-- It leaves what socket n sent, and what it received.
abbrev pub LeavesSent : Past → Entry → ℕ → Type 0
LeavesSent past entry n = leaves_sent (cause past n entry) (status past n) ≡ true

abbrev pub LeavesGot : Past → Entry → ℕ → Type 0
LeavesGot past entry n = leaves_got (cause past n entry) (status past n) ≡ true

-- It begins a life of socket n.
abbrev pub BeginsLife : Past → Entry → ℕ → Type 0
BeginsLife past entry n = begins (cause past n entry) (status past n) ≡ true

-- Socket n is open after it as before; it is not open after it.
abbrev pub StaysOpen : Past → Entry → ℕ → Type 0
StaysOpen past entry n = is_open (status (entry ∷ past) n) ≡ is_open (status past n)

abbrev pub IsShutAfter : Past → Entry → ℕ → Type 0
IsShutAfter past entry n = is_open (status (entry ∷ past) n) ≡ false

-- It writes neither to the registers of socket n nor to its TX buffer; it changes no size.
abbrev pub NotToRegisters : Past → Entry → ℕ → Type 0
NotToRegisters past entry n = writes_to (access_of past entry) (registers_of n) ≡ false

abbrev pub NotToBuffer : Past → Entry → ℕ → Type 0
NotToBuffer past entry n = writes_to (access_of past entry) (tx_buffer_of n) ≡ false

abbrev pub KeepsTxSizes : Past → Entry → Type 0
KeepsTxSizes past entry = resizes past tx_sizes (access_of past entry) ≡ false

abbrev pub KeepsRxSizes : Past → Entry → Type 0
KeepsRxSizes past entry = resizes past rx_sizes (access_of past entry) ≡ false

-- What socket n sends after it is this step of what it sent before, and what it receives.
abbrev pub SendsBy : Starts → Past → Entry → ℕ → (Sending → Sending) → Type 0
SendsBy starts past entry n step = sending starts (entry ∷ past) n ≡ step (sending starts past n)

abbrev pub ReceivesBy : Starts → Past → Entry → ℕ → (Receiving → Receiving) → Type 0
ReceivesBy starts past entry n step = receiving starts (entry ∷ past) n ≡ step (receiving starts past n)

-- It leaves what socket n sends, and what it receives.
abbrev pub SendsSame : Starts → Past → Entry → ℕ → Type 0
SendsSame starts past entry n = sending starts (entry ∷ past) n ≡ sending starts past n

abbrev pub ReceivesSame : Starts → Past → Entry → ℕ → Type 0
ReceivesSame starts past entry n = receiving starts (entry ∷ past) n ≡ receiving starts past n

-- The length of the range that a SEND on socket n would pass.
abbrev pub due_length : Starts → Past → ℕ → ℕ
due_length starts past n = range_length starts past n (length (sent starts past n (lives past n)))

-- A link event puts behind what socket n received what it has room for.
abbrev pub ReceivesPut : Starts → Past → ℕ → LinkEntry → Type 0
ReceivesPut starts past n what = ReceivesBy starts past (Link n what) n (λ g. after_got g (put_by (status past n) (rx_free starts past n) what))

-- It is a SEND on socket n; a RECV.
abbrev pub IsSend : Past → Entry → ℕ → Type 0
IsSend past entry n = cause past n entry ≡ because.Send

abbrev pub IsReceive : Past → Entry → ℕ → Type 0
IsReceive past entry n = cause past n entry ≡ because.Receive

-- It is no reset of the chip; it writes this byte to a register of socket n.
abbrev pub IsNoReset : Past → Entry → Type 0
IsNoReset past entry = is_reset (access_of past entry) ≡ false

abbrev pub WritesRegister : Past → Entry → (n addr v : ℕ) → Type 0
WritesRegister past entry n addr v = access_of past entry ≡ Write (registers_of n) addr v

-- Before it socket n is open; its status takes a SEND.
abbrev pub IsOpen : Past → ℕ → Type 0
IsOpen past n = is_open (status past n) ≡ true

abbrev pub TakesSend : Past → ℕ → Type 0
TakesSend past n = sends (status past n) ≡ true

-- It sets a byte of a pointer of what socket n sends, and of what it receives.
abbrev pub SendsPointer : Starts → Past → Entry → (n addr v : ℕ) → Type 0
SendsPointer starts past entry n addr v = SendsBy starts past entry n (λ (s : Sending). after_pointer s addr v)

abbrev pub ReceivesPointer : Starts → Past → Entry → (n addr v : ℕ) → Type 0
ReceivesPointer starts past entry n addr v = ReceivesBy starts past entry n (λ (g : Receiving). receives.after_pointer g addr v)

-- How many bytes a RECV on socket n would release.
abbrev pub due_release : Starts → Past → ℕ → ℕ
due_release starts past n = release_length starts past n (released starts past n (lives past n))

-- Bytes remain unread after it on a socket that was open before.
abbrev pub is_left_unread : Starts → Past → Entry → ℕ → Bool
is_left_unread starts past entry n = is_open (status past n) && nat_lt 0 (unread starts (entry ∷ past) n)

-- What is in flight, and how much of it is offered at once, is by what socket n sends what it is by the past.
abbrev pub OffersSame : Starts → Past → ℕ → Type 0
OffersSame starts past n =
    (sends_of.in_flight (sending starts past n) ≡ in_flight starts past n) × (sends_of.offered_length (sending starts past n) ≡ offered_length starts past n)

-- The stop of a byte that would overwrite one in flight; the stop of a change of a size while a socket is open.
abbrev pub overwrite_at : Starts → Past → ℕ → ℕ → Option ChipStop
overwrite_at starts past n addr = overwrite n (tx_size past n) addr (in_flight_at starts past n addr)

abbrev pub resize_at : Past → BusEvent → ℕ → Option ChipStop
resize_at past e n = where_it ((resizes past rx_sizes (access past e) || resizes past tx_sizes (access past e)) && any_open past sockets) (SizeWhileOpen n)

-- A SEND of no bytes in a status that takes it.
abbrev pub SendsNothing : Starts → Past → Entry → ℕ → Type 0
SendsNothing starts past entry n = (cause past n entry ≡ because.Send) × (sends (status past n) ≡ true) × (due_length starts past n ≡ 0)

-- The taken count reaches or passes the end of a SEND.
abbrev pub ReachesAnEnd : Starts → Past → Entry → ℕ → Type 0
ReachesAnEnd starts past entry n =
    (k : ℕ) × (cause past n entry ≡ because.Took k)
    × (has_between (taken past n (lives past n)) (taken past n (lives past n) + k) (ends starts past n (lives past n)) ≡ true)
