-- The calls on links, with their arguments, and what each answer is in the words of the chip's definitions.
use Rattle.std.specs.Prelude.{ℕ, ◌≤◌, Bool, false, ◌==◌, ◌&&◌, List, length, take}
use Rattle.chip_sheet.specs.declared.event.Addr.{Addr}
use Rattle.chip_sheet.specs.declared.event.ConnId.{ConnId}
use Rattle.chip_sheet.specs.LinkAnswers.{LinkAnswer, Done, DoneFrom, DoneWith, DoneBytes, DoneDatagram, NotYet, Refused, TimedOut, End, Failed}
use Rattle.chip_sheet.specs.Windows.{most_read}
use Rattle.link_trait.specs.declared.links.Linking.{Linking}
use Rattle.link_trait.specs.declared.links.Linking.TheVariants as linked
use Rattle.link_trait.specs.declared.links.Accepting.{Accepting}
use Rattle.link_trait.specs.declared.links.Accepting.TheVariants as accepted
use Rattle.link_trait.specs.declared.links.Writing.{Writing}
use Rattle.link_trait.specs.declared.links.Writing.TheVariants as wrote
use Rattle.link_trait.specs.declared.links.Reading.{Reading}
use Rattle.link_trait.specs.declared.links.Reading.TheVariants as has_read
use Rattle.link_trait.specs.declared.links.Sending.{Sending}
use Rattle.link_trait.specs.declared.links.Sending.TheVariants as sent
use Rattle.link_trait.specs.declared.links.Receiving.{Receiving}
use Rattle.link_trait.specs.declared.links.Receiving.TheVariants as received
use Rattle.link_trait.specs.declared.links.Shutting.{Shutting}
use Rattle.link_trait.specs.declared.links.Shutting.TheVariants as shut
use Rattle.link_trait.specs.Routes.{RouteLists}

-- A call with its arguments.
pub data Call : Type 0 where
  SetRoutes : RouteLists → Call
  -- the address
  Connect : ConnId → Addr → Call
  -- the port
  Accept : ConnId → ℕ → Call
  -- the bytes that are offered
  Write : ConnId → List ℕ → Call
  -- how many bytes the buffer holds
  Read : ConnId → ℕ → Call
  -- the port, the address that the datagram goes to, and its body
  SendTo : ConnId → ℕ → Addr → List ℕ → Call
  -- the port, and how many bytes the buffer holds
  RecvFrom : ConnId → ℕ → ℕ → Call
  Shut : ConnId → Call
  DropConn : ConnId → Call

-- The same connection.
abbrev pub same : ConnId → ConnId → Bool
same c d = c.sn == d.sn && c.life == d.life

-- The call is made on this connection.
abbrev pub is_on : Call → ConnId → Bool
is_on (SetRoutes routes) d = false
is_on (Connect c to) d = same c d
is_on (Accept c port) d = same c d
is_on (Write c piece) d = same c d
is_on (Read c count) d = same c d
is_on (SendTo c port to body) d = same c d
is_on (RecvFrom c port count) d = same c d
is_on (Shut c) d = same c d
is_on (DropConn c) d = same c d

-- What each call's answer is, with the bytes that the call put into its buffer.
abbrev pub linking : Linking → LinkAnswer
linking linked.Done = Done
linking linked.NotYet = NotYet
linking linked.Refused = Refused
linking linked.TimedOut = TimedOut
linking linked.Failed = Failed

abbrev pub accepting : Accepting → LinkAnswer
accepting (accepted.Done from) = DoneFrom from
accepting accepted.NotYet = NotYet
accepting accepted.Failed = Failed

abbrev pub writing : Writing → LinkAnswer
writing (wrote.Done count) = DoneWith count
writing wrote.NotYet = NotYet
writing wrote.Failed = Failed

abbrev pub reading : Reading → List ℕ → LinkAnswer
reading (has_read.Done count) buf = DoneBytes (take count buf)
reading has_read.NotYet buf = NotYet
reading has_read.End buf = End
reading has_read.Failed buf = Failed

abbrev pub sending : Sending → LinkAnswer
sending sent.Done = Done
sending sent.NotYet = NotYet
sending sent.Failed = Failed

abbrev pub receiving : Receiving → List ℕ → LinkAnswer
receiving (received.Done count from) buf = DoneDatagram from (take count buf)
receiving received.NotYet buf = NotYet
receiving received.Failed buf = Failed

abbrev pub shutting : Shutting → LinkAnswer
shutting shut.Done = Done
shutting shut.Failed = Failed

-- A write takes at least one byte and no more than are offered; a read gives at least one and no more than the buffer holds; a
-- datagram has at most 1472 bytes.
abbrev pub WriteFits : Writing → List ℕ → Type 0
WriteFits (wrote.Done count) piece = (1 ≤ count) × (count ≤ length piece)
WriteFits answer piece = Unit {0}

abbrev pub ReadFits : Reading → List ℕ → Type 0
ReadFits (has_read.Done count) buf = (1 ≤ count) × (count ≤ length buf)
ReadFits answer buf = Unit {0}

abbrev pub ReceiveFits : Receiving → Type 0
ReceiveFits (received.Done count from) = count ≤ most_read
ReceiveFits answer = Unit {0}
