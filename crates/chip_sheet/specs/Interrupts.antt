-- Interrupts (W5500 datasheet, 4.2 Sn_IR and Sn_IMR, 4.1 SIR and SIMR). The moments at which a bit rises are this profile's own.
use Rattle.std.specs.Prelude.{ℕ, ◌+◌, ◌*◌, Bool, true, false, not, ◌==◌, ◌&&◌, ◌||◌, nat_lt, List, [], ◌∷◌, length, unwrap_or, if◌then◌else◌}
use Rattle.chip_sheet.specs.declared.phase.Access.{Access}
use Rattle.chip_sheet.specs.declared.phase.Access.TheVariants.{NoAccess, Read, Write}
use Rattle.chip_sheet.specs.declared.socket.Status.{Status}
use Rattle.chip_sheet.specs.declared.socket.Status.TheVariants.{Closed, Init, Listen, SynSent, Established, FinWait, Udp}
use Rattle.chip_sheet.specs.declared.socket.Cause.{Cause}
use Rattle.chip_sheet.specs.declared.socket.Cause.TheVariants as because
use Rattle.chip_sheet.specs.declared.socket.Interrupt.{Interrupt}
use Rattle.chip_sheet.specs.declared.socket.Interrupt.TheVariants.{Connected, Disconnected, Received, TimedOut, SendOk}
use Rattle.chip_sheet.specs.declared.event.Entry.{Entry}
use Rattle.chip_sheet.specs.Past.{Past}
use Rattle.chip_sheet.specs.Frames.{access_of}
use Rattle.chip_sheet.specs.Bits.{has_bit}
use Rattle.chip_sheet.specs.Names.{sn_ir, sn_imr, simr}
use Rattle.chip_sheet.specs.Blocks.{sockets, registers_of}
use Rattle.chip_sheet.specs.Registers.{is_reset, last_written}
use Rattle.chip_sheet.specs.Life.{cause, status, lives}
use Rattle.chip_sheet.specs.Positions.{has_between}
use Rattle.chip_sheet.specs.Streams.{Starts, sent, ends, taken, range_length, sends, is_open, has_place}
use Rattle.chip_sheet.specs.Windows.{unread, rx_free}

-- The bits of Sn_IR, and the value of each.
abbrev pub interrupts : List Interrupt
interrupts = Connected ∷ Disconnected ∷ Received ∷ TimedOut ∷ SendOk ∷ []

abbrev pub bit_value : Interrupt → ℕ
bit_value Connected = 1
bit_value Disconnected = 2
bit_value Received = 4
bit_value TimedOut = 8
bit_value SendOk = 16

-- What happens in a status raises a bit by the table of socket life.
abbrev pub raised_by_life : Cause → Interrupt → Status → Bool
raised_by_life because.Accepted Connected Listen = true
raised_by_life because.Linked Connected SynSent = true
raised_by_life because.Ended Disconnected Established = true
raised_by_life because.Ended Disconnected FinWait = true
raised_by_life because.TimedOut TimedOut SynSent = true
raised_by_life because.Failed TimedOut Closed = false
raised_by_life because.Failed TimedOut Init = false
raised_by_life because.Failed TimedOut status = true
raised_by_life why bit status = false

-- RECV rises when bytes are put into the buffer, a datagram only where it fits, and at a RECV after which bytes remain. SENDOK rises
-- at a SEND of no bytes, and when the taken count reaches or passes the end of a SEND.
abbrev pub raised_by_bytes : Starts → Past → ℕ → Entry → Cause → Interrupt → Status → Bool
raised_by_bytes starts past n entry because.Got Received Established = true
raised_by_bytes starts past n entry (because.Datagram count) Received Udp = has_place count (rx_free starts past n)
raised_by_bytes starts past n entry because.Receive Received status =
    is_open status && nat_lt 0 (unread starts (entry ∷ past) n)
raised_by_bytes starts past n entry because.Send SendOk status =
    sends status && range_length starts past n (length (sent starts past n (lives past n))) == 0
raised_by_bytes starts past n entry (because.Took count) SendOk status =
    let before = taken past n (lives past n) in
    has_between before (before + count) (ends starts past n (lives past n))
raised_by_bytes starts past n entry why bit status = false

abbrev pub raised_by : Starts → Past → ℕ → Interrupt → Entry → Bool
raised_by starts past n bit entry =
    raised_by_life (cause past n entry) bit (status past n)
    || raised_by_bytes starts past n entry (cause past n entry) bit (status past n)

-- The bits that an entry raises, as a byte.
abbrev pub bits_by : Starts → Past → ℕ → Entry → List Interrupt → ℕ
bits_by starts past n entry [] = 0
bits_by starts past n entry (bit ∷ more) =
    (if raised_by starts past n bit entry then bit_value bit else 0) + bits_by starts past n entry more

abbrev pub interrupts_by : Starts → Past → ℕ → Entry → ℕ
interrupts_by starts past n entry = bits_by starts past n entry interrupts

-- A reset, or a write of Sn_IR with this bit 1 (datasheet, 4.2 Sn_IR).
abbrev pub clears : Access → ℕ → Interrupt → Bool
clears NoAccess n bit = false
clears (Read block addr) n bit = false
clears (Write block addr v) n bit =
    is_reset (Write block addr v) || (block == registers_of n && addr == sn_ir && has_bit v (bit_value bit))

-- A bit of Sn_IR is raised: an entry raised it, and none cleared it since. The mask Sn_IMR has no part in it.
abbrev pub raised : Starts → Past → ℕ → Interrupt → Bool
raised starts [] n bit = false
raised starts (entry ∷ past) n bit =
    not (clears (access_of past entry) n bit) && (raised_by starts past n bit entry || raised starts past n bit)

abbrev pub sum_of : Starts → Past → ℕ → List Interrupt → ℕ
sum_of starts past n [] = 0
sum_of starts past n (bit ∷ more) =
    (if raised starts past n bit then bit_value bit else 0) + sum_of starts past n more

-- What Sn_IR reads.
abbrev pub interrupt_register : Starts → Past → ℕ → ℕ
interrupt_register starts past n = sum_of starts past n interrupts

-- The mask Sn_IMR: FF after a reset.
abbrev pub mask : Past → ℕ → ℕ
mask past n = unwrap_or (last_written past (registers_of n) sn_imr) 0xFF

abbrev pub any_masked_in : Starts → Past → ℕ → List Interrupt → Bool
any_masked_in starts past n [] = false
any_masked_in starts past n (bit ∷ more) =
    (has_bit (mask past n) (bit_value bit) && raised starts past n bit) || any_masked_in starts past n more

-- A socket asks for an interrupt: one of its raised bits is 1 in its mask.
abbrev pub asks : Starts → Past → ℕ → Bool
asks starts past n = any_masked_in starts past n interrupts

abbrev pub sir_from : Starts → Past → List ℕ → ℕ → ℕ
sir_from starts past [] value = 0
sir_from starts past (n ∷ more) value =
    (if asks starts past n then value else 0) + sir_from starts past more (2 * value)

-- What SIR reads: bit n for socket n (datasheet, 4.1 SIR).
abbrev pub sir_register : Starts → Past → ℕ
sir_register starts past = sir_from starts past sockets 1

-- The mask SIMR: 00 after a reset.
abbrev pub enabled_sockets : Past → ℕ
enabled_sockets past = unwrap_or (last_written past 0 simr) 0x00

abbrev pub any_enabled : Starts → Past → List ℕ → ℕ → ℕ → Bool
any_enabled starts past [] enabled value = false
any_enabled starts past (n ∷ more) enabled value =
    (has_bit enabled value && asks starts past n) || any_enabled starts past more enabled (2 * value)

-- INTn is low exactly where a socket asks whose bit is 1 in SIMR (datasheet, 4.1 SIMR): IR shows no bit in this profile, so
-- it has no part.
abbrev pub interrupt_low : Starts → Past → Bool
interrupt_low starts past = any_enabled starts past sockets (enabled_sockets past) 1
