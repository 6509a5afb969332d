-- Which link call is due, and which link events fit (this profile's own).
use Rattle.std.specs.Prelude.{ℕ, ◌/◌, ◌%◌, Bool, true, false, ◌==◌, ◌&&◌, ◌||◌, nat_le, nat_lt, min, [], ◌∷◌, length, Some, None, if◌then◌else◌}
use Rattle.chip_sheet.specs.declared.event.Addr.{Addr}
use Rattle.chip_sheet.specs.declared.event.ConnId.{ConnId}
use Rattle.chip_sheet.specs.declared.socket.Status.{Status}
use Rattle.chip_sheet.specs.declared.socket.Status.TheVariants.{Closed, Init, Listen, SynSent, Established, FinWait, CloseWait, LastAck, Udp}
use Rattle.chip_sheet.specs.declared.socket.Cause.{Cause}
use Rattle.chip_sheet.specs.declared.socket.Cause.TheVariants as because
use Rattle.chip_sheet.specs.declared.socket.Due.{Due}
use Rattle.chip_sheet.specs.declared.socket.Due.TheVariants as due
use Rattle.chip_sheet.specs.declared.event.LinkEntry.{LinkEntry}
use Rattle.chip_sheet.specs.declared.event.LinkEntry.TheVariants.{Linked, Accepted, Refused, TimedOut, Took, Got, Datagram, Ended, Shut, Failed, Dropped}
use Rattle.chip_sheet.specs.Past.{Past}
use Rattle.chip_sheet.specs.Life.{Life, life, cause, status}
use Rattle.chip_sheet.specs.Peers.{destination, source_port}
use Rattle.chip_sheet.specs.Streams.{Starts}
use Rattle.chip_sheet.specs.Windows.{flight, rx_free, most_read}

abbrev pub no_address : Addr
no_address = record { ip = 0 ∷ 0 ∷ 0 ∷ 0 ∷ []; port = 0 }

-- CONNECT in INIT keeps the destination, and so does SEND in UDP, where the datagram goes there.
abbrev pub keeps_address : Cause → Status → Bool
keeps_address because.Connect Init = true
keeps_address because.Send Udp = true
keeps_address why status = false

-- The address kept at the last of these: what Sn_DIPR and Sn_DPORT held then.
abbrev pub kept_address : Past → ℕ → Addr
kept_address [] n = no_address
kept_address (entry ∷ past) n =
    if keeps_address (cause past n entry) (status past n) then destination past n else kept_address past n

-- LISTEN in INIT keeps the socket's own port, and so does OPEN in CLOSED for UDP.
abbrev pub keeps_port : Cause → Status → Bool
keeps_port because.Listen Init = true
keeps_port because.OpenUdp Closed = true
keeps_port why status = false

-- The port kept at the last of these: what Sn_PORT held then.
abbrev pub kept_port : Past → ℕ → ℕ
kept_port [] n = 0
kept_port (entry ∷ past) n =
    if keeps_port (cause past n entry) (status past n) then source_port past n else kept_port past n

-- What is due at the outgoing place of a socket in a status, where this address and this port are kept and so many bytes are in
-- flight.
abbrev pub outgoing_in : Status → ConnId → Addr → ℕ → ℕ → Bool → Due
outgoing_in SynSent c to port flight shut = due.Connect c to
outgoing_in Established c to port flight shut = if nat_lt 0 flight then due.Write c else due.Nothing
outgoing_in CloseWait c to port flight shut = if nat_lt 0 flight then due.Write c else due.Nothing
outgoing_in FinWait c to port flight shut = if nat_lt 0 flight then due.Write c else (if shut then due.Nothing else due.Shut c)
outgoing_in LastAck c to port flight shut = if nat_lt 0 flight then due.Write c else (if shut then due.Nothing else due.Shut c)
outgoing_in Udp c to port flight shut = if nat_lt 0 flight then due.SendTo c port to else due.Nothing
outgoing_in status c to port flight shut = due.Nothing

-- What is due at its incoming place, where this port is kept and so many bytes are free of the RX buffer.
abbrev pub incoming_in : Status → ConnId → ℕ → ℕ → Bool → Due
incoming_in Listen c port free ended = due.Accept c port
incoming_in Established c port free ended = if nat_lt 0 free then due.Read c else due.Nothing
incoming_in FinWait c port free ended = if ended then due.Nothing else due.ReadAway c
incoming_in Udp c port free ended = due.RecvFrom c port
incoming_in status c port free ended = due.Nothing

abbrev pub connection : ℕ → ℕ → ConnId
connection n life = record { sn = n; life = life }

-- The link call that is due at the outgoing place of socket n, by its life, the kept address and port, and how many bytes are in
-- flight. While a life that has closed is not forgotten, nothing but its drop is due on the socket.
abbrev pub outgoing_of : ℕ → Life → Addr → ℕ → ℕ → Due
outgoing_of n at to port flight =
    elim at.old [
      | Some life ↦ due.Drop (connection n life)
      | None ↦ outgoing_in at.status (connection n at.lives) to port flight at.shut
    ]

abbrev pub outgoing : Starts → Past → ℕ → Due
outgoing starts past n = outgoing_of n (life past n) (kept_address past n) (kept_port past n) (flight starts past n)

-- The link call that is due at the incoming place of socket n, by its life, the kept port, and how many bytes are free of the RX
-- buffer.
abbrev pub incoming_of : ℕ → Life → ℕ → ℕ → Due
incoming_of n at port free =
    elim at.old [
      | Some life ↦ due.Nothing
      | None ↦ incoming_in at.status (connection n at.lives) port free at.ended
    ]

abbrev pub incoming : Starts → Past → ℕ → Due
incoming starts past n = incoming_of n (life past n) (kept_port past n) (rx_free starts past n)

-- The link call that is due at a place, 0 to 15: place 2n is the outgoing one of socket n, and 2n + 1 the incoming one.
abbrev pub due_at : Starts → Past → ℕ → Due
due_at starts past place =
    if place % 2 == 0 then outgoing starts past (place / 2) else incoming starts past (place / 2)

-- The number lies from 1 to this.
abbrev pub one_to : ℕ → ℕ → Bool
one_to most count = nat_le 1 count && nat_le count most

-- A link event is an answer to a call, where so many bytes are in flight and so many are free of the RX buffer. A datagram is taken
-- whole.
abbrev pub answers_call : Due → ℕ → ℕ → LinkEntry → Bool
answers_call (due.Drop c) flight free Dropped = true
answers_call (due.Connect c to) flight free Linked = true
answers_call (due.Connect c to) flight free Refused = true
answers_call (due.Connect c to) flight free TimedOut = true
answers_call (due.Connect c to) flight free Failed = true
answers_call (due.Write c) flight free (Took count) = one_to flight count
answers_call (due.Write c) flight free Failed = true
answers_call (due.SendTo c port to) flight free (Took count) = count == flight
answers_call (due.SendTo c port to) flight free Failed = true
answers_call (due.Shut c) flight free Shut = true
answers_call (due.Shut c) flight free Failed = true
answers_call (due.Accept c port) flight free (Accepted from) = true
answers_call (due.Accept c port) flight free Failed = true
answers_call (due.Read c) flight free (Got bytes) = one_to (min free most_read) (length bytes)
answers_call (due.Read c) flight free Ended = true
answers_call (due.Read c) flight free Failed = true
answers_call (due.ReadAway c) flight free (Got bytes) = one_to most_read (length bytes)
answers_call (due.ReadAway c) flight free Ended = true
answers_call (due.ReadAway c) flight free Failed = true
answers_call (due.RecvFrom c port) flight free (Datagram from body) = nat_le (length body) most_read
answers_call (due.RecvFrom c port) flight free Failed = true
answers_call other flight free what = false

-- A link event of socket n fits, by the calls that are due at the socket's two places.
abbrev pub fits_either : Due → Due → ℕ → ℕ → LinkEntry → Bool
fits_either out in_ flight free what = answers_call out flight free what || answers_call in_ flight free what

-- A link event of socket n fits: it is an answer to the call that is due at one of the socket's two places.
abbrev pub fits : Starts → Past → ℕ → LinkEntry → Bool
fits starts past n what =
    fits_either (outgoing starts past n) (incoming starts past n) (flight starts past n) (rx_free starts past n) what
