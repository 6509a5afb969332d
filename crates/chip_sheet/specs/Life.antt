-- The life of a socket (W5500 datasheet, 4.2 Sn_CR and Sn_SR, figure 4 state diagram; the rules on links are this profile's own).
use Rattle.std.specs.Prelude.{ℕ, ◌+◌, ◌%◌, Bool, true, false, not, ◌==◌, ◌&&◌, ◌||◌, [], ◌∷◌, length, Option, Some, None, unwrap_or, if◌then◌else◌}
use Rattle.chip_sheet.specs.declared.phase.Access.{Access}
use Rattle.chip_sheet.specs.declared.phase.Access.TheVariants.{NoAccess, Read, Write}
use Rattle.chip_sheet.specs.declared.socket.Status.{Status}
use Rattle.chip_sheet.specs.declared.socket.Status.TheVariants.{Closed, Init, Listen, SynSent, Established, FinWait, CloseWait, LastAck, Udp}
use Rattle.chip_sheet.specs.declared.socket.Cause.{Cause}
use Rattle.chip_sheet.specs.declared.socket.Cause.TheVariants as because
use Rattle.chip_sheet.specs.declared.event.Entry.{Entry}
use Rattle.chip_sheet.specs.declared.event.Entry.TheVariants.{Bus, Link, Rest}
use Rattle.chip_sheet.specs.declared.event.LinkEntry.{LinkEntry}
use Rattle.chip_sheet.specs.declared.event.LinkEntry.TheVariants.{Linked, Accepted, Refused, TimedOut, Took, Got, Datagram, Ended, Shut, Failed, Dropped}
use Rattle.chip_sheet.specs.Past.{Past}
use Rattle.chip_sheet.specs.Frames.{access_of}
use Rattle.chip_sheet.specs.Names.{sn_mr, sn_cr, tcp, udp, open_command, listen_command, connect_command, discon_command, close_command, send_command, recv_command}
use Rattle.chip_sheet.specs.Blocks.{registers_of}
use Rattle.chip_sheet.specs.Registers.{is_reset, written}

-- What the mode register Sn_MR holds, and the protocol in its bits 3..0 (datasheet, 4.2 Sn_MR).
abbrev pub mode : Past → ℕ → ℕ
mode past n = written past n sn_mr

abbrev pub protocol_of : ℕ → ℕ
protocol_of mode = mode % 16

abbrev pub protocol : Past → ℕ → ℕ
protocol past n = protocol_of (mode past n)

-- What OPEN asks of a socket with this protocol. Nothing but TCP and UDP is opened: MACRAW stops the board.
abbrev pub opening : ℕ → Cause
opening protocol = if protocol == tcp then because.OpenTcp else (if protocol == udp then because.OpenUdp else because.Nothing)

-- What a command byte asks of a socket with this protocol (datasheet, 4.2 Sn_CR). SEND_KEEP and values that are no command do
-- nothing; SEND_MAC stops the board.
abbrev pub command : ℕ → ℕ → Cause
command protocol v =
    if v == open_command then opening protocol else
    (if v == listen_command then because.Listen else
    (if v == connect_command then because.Connect else
    (if v == discon_command then because.Disconnect else
    (if v == close_command then because.Close else
    (if v == send_command then because.Send else
    (if v == recv_command then because.Receive else because.Nothing))))))

-- What an access is for socket n: a reset of the chip, or a command, which is accepted within the byte that writes it (this
-- profile's own).
abbrev pub cause_by : Past → ℕ → Access → Cause
cause_by past n NoAccess = because.Nothing
cause_by past n (Read block addr) = because.Nothing
cause_by past n (Write block addr v) =
    if is_reset (Write block addr v) then because.Reset else
    (if block == registers_of n && addr == sn_cr then command (protocol past n) v else because.Nothing)

-- What a link event is for its own socket.
abbrev pub happening : LinkEntry → Cause
happening Linked = because.Linked
happening (Accepted from) = because.Accepted
happening Refused = because.Refused
happening TimedOut = because.TimedOut
happening (Took count) = because.Took count
happening (Got bytes) = because.Got
happening (Datagram from body) = because.Datagram (length body)
happening Ended = because.Ended
happening Shut = because.Shut
happening Failed = because.Failed
happening Dropped = because.Dropped

-- What an entry is for socket n.
abbrev pub cause : Past → ℕ → Entry → Cause
cause past n (Bus e a) = cause_by past n (access_of past (Bus e a))
cause past n (Link m what) = if m == n then happening what else because.Nothing
cause past n Rest = because.Nothing

-- What the table of socket life looks at beside a status and what happens.
pub record Facts : Type 0 where
  -- the other of Ended and Shut came before in this life
  pub both : Bool

-- A table of socket life: status, what happens, facts, and the next status, where a line fits.
abbrev pub Table : Type 0
Table = Status → Cause → Facts → Option Status

-- The table of socket life; the first line that fits counts, and where none does the status stays.
abbrev pub row : Table
-- a reset of the chip closes every socket
row status because.Reset facts = Some Closed
-- OPEN with the protocol TCP or UDP begins a new life
row Closed because.OpenTcp facts = Some Init
row Closed because.OpenUdp facts = Some Udp
row Init because.Listen facts = Some Listen
row Init because.Connect facts = Some SynSent
row Listen because.Accepted facts = Some Established
row SynSent because.Linked facts = Some Established
row SynSent because.Refused facts = Some Closed
row SynSent because.TimedOut facts = Some Closed
row Established because.Ended facts = Some CloseWait
row Established because.Disconnect facts = Some FinWait
row CloseWait because.Disconnect facts = Some LastAck
row FinWait because.Ended facts = Some (if facts.both then Closed else FinWait)
row FinWait because.Shut facts = Some (if facts.both then Closed else FinWait)
row LastAck because.Shut facts = Some Closed
-- in all but CLOSED
row Closed other facts = None
row status because.Close facts = Some Closed
-- in all but CLOSED and INIT
row Init other facts = None
row status because.Failed facts = Some Closed
row status other facts = None

-- The status after something happened, by a table.
abbrev pub next_by : Table → Status → Cause → Facts → Status
next_by table status why facts = unwrap_or (table status why facts) status

abbrev pub next : Status → Cause → Facts → Status
next status why facts = next_by row status why facts

-- A new life begins: OPEN is accepted.
abbrev pub begins : Cause → Status → Bool
begins because.OpenTcp Closed = true
begins because.OpenUdp Closed = true
begins why status = false

abbrev pub is_closed : Status → Bool
is_closed Closed = true
is_closed status = false

abbrev pub is_udp : Status → Bool
is_udp Udp = true
is_udp status = false

-- In these statuses the link is asked for a connection or for datagrams.
abbrev pub asks_link : Status → Bool
asks_link Listen = true
asks_link SynSent = true
asks_link Udp = true
asks_link status = false

abbrev pub is_end : Cause → Bool
is_end because.Ended = true
is_end why = false

abbrev pub is_shut : Cause → Bool
is_shut because.Shut = true
is_shut why = false

-- The life that the link is still to forget, after something happened: a life that closes, where the link was asked in it and no
-- older one is there; `closing` is the number of the life that closes so. A drop ends it.
abbrev pub old_after : Cause → Option ℕ → Option ℕ → Option ℕ
old_after because.Dropped closing old = None
old_after why closing (Some life) = Some life
old_after why closing None = closing

-- A socket after some events: its status, how many lives have begun, whether the peer has ended and the link was shut in this
-- one, whether the link was asked in it, and which life the link is still to forget.
pub record Life : Type 0 where
  pub status : Status
  pub lives : ℕ
  pub ended : Bool
  pub shut : Bool
  pub asked : Bool
  pub old : Option ℕ

-- Before all events: closed, and no life has begun.
abbrev pub unborn : Life
unborn = record { status = Closed; lives = 0; ended = false; shut = false; asked = false; old = None }

-- The other of Ended and Shut came before in this life.
abbrev pub other_came : Cause → Life → Bool
other_came because.Ended life = life.shut
other_came because.Shut life = life.ended
other_came why life = false

abbrev pub facts_of : Cause → Life → Facts
facts_of why life = record { both = other_came why life }

-- The number of a life that closes now, where the link was asked in it.
abbrev pub closing : Life → Status → Option ℕ
closing life after = if not (is_closed life.status) && is_closed after && life.asked then Some life.lives else None

-- A life that goes on.
abbrev pub lives_on : Life → Cause → Status → Life
lives_on life why after = record {
  status = after;
  lives = life.lives;
  ended = life.ended || is_end why;
  shut = life.shut || is_shut why;
  asked = life.asked || asks_link after;
  old = old_after why (closing life after) life.old;
}

-- A new life, in the status that OPEN leads to. A reset restores nothing of this: the numbers of lives go on (this profile's own).
abbrev pub new_life : Life → Status → Life
new_life life after = record {
  status = after;
  lives = life.lives + 1;
  ended = false;
  shut = false;
  asked = asks_link after;
  old = life.old;
}

abbrev pub life_after_by : Table → Life → Cause → Life
life_after_by table life why =
    let after = next_by table life.status why (facts_of why life) in
    if begins why life.status then new_life life after else lives_on life why after

-- A socket once one more thing happened to it.
abbrev pub life_after : Life → Cause → Life
life_after life why = life_after_by row life why

-- Socket n after this past, by a table of socket life.
abbrev pub life_by : Table → Past → ℕ → Life
life_by table [] n = unborn
life_by table (entry ∷ past) n = life_after_by table (life_by table past n) (cause past n entry)

-- Socket n after this past.
abbrev pub life : Past → ℕ → Life
life past n = life_by row past n

-- Its status (datasheet, 4.2 Sn_SR), the number of its lives so far, and the life that its link is still to forget.
abbrev pub status : Past → ℕ → Status
status past n = (life past n).status

abbrev pub lives : Past → ℕ → ℕ
lives past n = (life past n).lives

abbrev pub old : Past → ℕ → Option ℕ
old past n = (life past n).old

-- What Sn_SR reads for a status.
abbrev pub status_code : Status → ℕ
status_code Closed = 0x00
status_code Init = 0x13
status_code Listen = 0x14
status_code SynSent = 0x15
status_code Established = 0x17
status_code FinWait = 0x18
status_code CloseWait = 0x1C
status_code LastAck = 0x1D
status_code Udp = 0x22
