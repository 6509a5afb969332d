-- What a link call is answered, and the entry that the answer adds to the history (this profile's own).
use Rattle.std.specs.Prelude.{ℕ, Bool, true, false, nat_le, List, length}
use Rattle.chip_sheet.specs.declared.event.Addr.{Addr}
use Rattle.chip_sheet.specs.declared.socket.Due.{Due}
use Rattle.chip_sheet.specs.declared.socket.Due.TheVariants as due
use Rattle.chip_sheet.specs.declared.event.Entry.{Entry}
use Rattle.chip_sheet.specs.declared.event.Entry.TheVariants.{Link, Rest}
use Rattle.chip_sheet.specs.declared.event.LinkEntry.TheVariants as entry
use Rattle.chip_sheet.specs.Windows.{most_read}
use Rattle.chip_sheet.specs.LinkCalls.{one_to}

-- What a link call is answered, with what it brings.
pub data LinkAnswer : Type 0 where
  -- it was made; of `connect`, `send_to`, `shut` and `drop_conn` there is no more to say
  Done : LinkAnswer
  -- `accept`: a peer at this address connected
  DoneFrom : Addr → LinkAnswer
  -- `write`: so many bytes were taken
  DoneWith : ℕ → LinkAnswer
  -- `read`: these bytes came
  DoneBytes : List ℕ → LinkAnswer
  -- `recv_from`: a datagram with this body came from this address
  DoneDatagram : Addr → List ℕ → LinkAnswer
  NotYet : LinkAnswer
  Refused : LinkAnswer
  TimedOut : LinkAnswer
  End : LinkAnswer
  Failed : LinkAnswer

-- The entry of socket n that an answer to the call that was due adds, where so many bytes are in flight; a turn in which nothing
-- happened where the answer brings nothing.
abbrev pub entry_by : ℕ → ℕ → Due → LinkAnswer → Entry
entry_by n flight (due.Connect c to) Done = Link n entry.Linked
entry_by n flight (due.Accept c port) (DoneFrom from) = Link n (entry.Accepted from)
entry_by n flight (due.Write c) (DoneWith count) = Link n (entry.Took count)
entry_by n flight (due.SendTo c port to) Done = Link n (entry.Took flight)
entry_by n flight (due.Shut c) Done = Link n entry.Shut
entry_by n flight (due.Read c) (DoneBytes bytes) = Link n (entry.Got bytes)
entry_by n flight (due.ReadAway c) (DoneBytes bytes) = Link n (entry.Got bytes)
entry_by n flight (due.RecvFrom c port) (DoneDatagram from body) = Link n (entry.Datagram from body)
entry_by n flight (due.Drop c) Done = Link n entry.Dropped
entry_by n flight due.Nothing answer = Rest
entry_by n flight call Refused = Link n entry.Refused
entry_by n flight call TimedOut = Link n entry.TimedOut
entry_by n flight call End = Link n entry.Ended
entry_by n flight call Failed = Link n entry.Failed
entry_by n flight call answer = Rest

-- A link may answer so to a call that is due, where so many bytes are offered to it and so many may be read at once.
abbrev pub may_answer : Due → ℕ → ℕ → LinkAnswer → Bool
may_answer due.Nothing offered room answer = false
may_answer (due.Connect c to) offered room Done = true
may_answer (due.Connect c to) offered room Refused = true
may_answer (due.Connect c to) offered room TimedOut = true
may_answer (due.Accept c port) offered room (DoneFrom from) = true
may_answer (due.Write c) offered room (DoneWith count) = one_to offered count
may_answer (due.SendTo c port to) offered room Done = true
may_answer (due.Shut c) offered room Done = true
may_answer (due.Read c) offered room (DoneBytes bytes) = one_to room (length bytes)
may_answer (due.Read c) offered room End = true
may_answer (due.ReadAway c) offered room (DoneBytes bytes) = one_to most_read (length bytes)
may_answer (due.ReadAway c) offered room End = true
may_answer (due.RecvFrom c port) offered room (DoneDatagram from body) = nat_le (length body) most_read
may_answer (due.Drop c) offered room Done = true
may_answer (due.Drop c) offered room answer = false
may_answer call offered room NotYet = true
may_answer call offered room Failed = true
may_answer call offered room answer = false
