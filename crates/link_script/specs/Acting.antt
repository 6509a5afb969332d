-- A peer that acts by its script: how far it is, what it answers to a call on the connection that it serves, and what the call makes
-- of it. All of it is this profile's own.
use Rattle.std.specs.Prelude.{ℕ, ◌+◌, ◌-◌, zero, suc, Bool, true, false, not, ◌==◌, ◌&&◌, nat_le, nat_lt, min, List, [], ◌∷◌, ◌++◌, length, take, drop, get_or, slice_get, Option, None, Some, if◌then◌else◌}
use Rattle.std.specs.List.{position}
use Rattle.chip_sheet.specs.declared.event.Addr.{Addr}
use Rattle.chip_sheet.specs.declared.event.ConnId.{ConnId}
use Rattle.chip_sheet.specs.LinkAnswers.{LinkAnswer, Done, DoneFrom, DoneWith, DoneBytes, DoneDatagram, NotYet, End, Failed}
use Rattle.chip_sheet.specs.Windows.{most_read}
use Rattle.link_trait.specs.Calls.{Call, SetRoutes, Connect, Accept, Write, Read, SendTo, RecvFrom, Shut, DropConn, same}
use Rattle.link_script.specs.declared.peer.PeerKind.{PeerKind}
use Rattle.link_script.specs.declared.peer.PeerKind.TheVariants.{Client, Server, Udp}
use Rattle.link_script.specs.declared.peer.Connects.{Connects}
use Rattle.link_script.specs.declared.peer.Connects.TheVariants as word
use Rattle.link_script.specs.Scripts.{Said, Script}

pub record Acting : Type 0 where
  pub script : Script
  -- the connection that it met, if any, and whether that connection was quiet then, so that its bytes are told
  pub conn : Option ConnId
  pub tells : Bool
  -- that connection is made, and not dropped
  pub made : Bool
  -- how many calls were made on it, and how many entries of `takes` are used
  pub calls : ℕ
  pub used : ℕ
  -- what it was given, and the addresses of the datagrams among it
  pub given : List ℕ
  pub dests : List Addr
  -- how many chunks are read or passed over, and how many bytes of the next one are read
  pub next : ℕ
  pub at : ℕ
  -- how many times it still answers NotYet before it makes its connection, begins a chunk, or ends
  pub owes : ℕ

-- Which peer serves a connection.

abbrev pub is_udp : PeerKind → Bool
is_udp Udp = true
is_udp kind = false

abbrev pub is_server : PeerKind → Bool
is_server Server = true
is_server kind = false

abbrev pub is_client : PeerKind → Bool
is_client Client = true
is_client kind = false

abbrev pub is_fine : Connects → Bool
is_fine word.Fine = true
is_fine other = false

-- A server that refuses or never answers serves no connection.
abbrev pub is_willing : Script → Bool
is_willing script = if is_server script.kind then is_fine script.connect else true

abbrev pub is_unused : Option ConnId → Bool
is_unused None = true
is_unused (Some c) = false

abbrev pub met : Option ConnId → ConnId → Bool
met None c = false
met (Some d) c = same d c

abbrev pub is_serving : ConnId → Acting → Bool
is_serving c p = met p.conn c && is_willing p.script

-- A peer that meets a connection, and begins its script. It owes all its NotYets again.
abbrev pub begun : ConnId → Bool → Acting → Acting
begun c tells p = record {
  script = p.script;
  conn = Some c;
  tells = tells;
  made = false;
  calls = 0;
  used = 0;
  given = [];
  dests = [];
  next = 0;
  at = 0;
  owes = p.script.lag;
}

-- What it owes.

abbrev pub is_owing : Acting → Bool
is_owing p = nat_lt 0 p.owes

-- One NotYet of those that it owed was answered.
abbrev pub lowered : Acting → Acting
lowered p = record p { owes = p.owes - 1 }

-- A client or a server that owes keeps the connection that it is to meet waiting. A datagram peer makes no connection.
abbrev pub keeps_waiting : Acting → Bool
keeps_waiting p = not (is_udp p.script.kind) && is_owing p

-- A peer that a connection is to meet, once it was asked: it answered a NotYet that it owed, or met the connection.
abbrev pub asked : ConnId → Bool → Acting → Acting
asked c tells p = if keeps_waiting p then lowered p else begun c tells p

-- What it takes.

-- The next entry of `takes`: the most that it takes now, and none after the end of the list.
abbrev pub entry : Acting → Option ℕ
entry p = slice_get p.script.takes p.used

abbrev pub used_after : Option ℕ → ℕ → ℕ
used_after None used = used
used_after (Some most) used = used + 1

abbrev pub within : Option ℕ → ℕ → ℕ
within None count = count
within (Some most) count = min most count

abbrev pub room_left : Acting → ℕ
room_left p = p.script.room - length p.given

-- How many bytes of a piece a write takes.
abbrev pub takes_of : Acting → ℕ → ℕ
takes_of p offered = min (within (entry p) offered) (room_left p)

abbrev pub wrote : ℕ → LinkAnswer
wrote count = if count == 0 then NotYet else DoneWith count

abbrev pub write_answer : Acting → List ℕ → LinkAnswer
write_answer p piece = wrote (takes_of p (length piece))

abbrev pub write_after : Acting → List ℕ → Acting
write_after p piece = record p {
  used = used_after (entry p) p.used;
  given = p.given ++ take (takes_of p (length piece)) piece;
}

-- At most so many datagrams are taken.
abbrev pub most_datagrams : ℕ
most_datagrams = 1024

abbrev pub allows : Option ℕ → Bool
allows None = true
allows (Some most) = nat_lt 0 most

-- A datagram is taken whole, or not.
abbrev pub takes_whole : Acting → ℕ → Bool
takes_whole p count = allows (entry p) && nat_le count (room_left p) && nat_lt (length p.dests) most_datagrams

abbrev pub send_answer : Acting → List ℕ → LinkAnswer
send_answer p body = if takes_whole p (length body) then Done else NotYet

abbrev pub send_after : Acting → Addr → List ℕ → Acting
send_after p to body =
    if takes_whole p (length body)
    then record p { used = used_after (entry p) p.used; given = p.given ++ body; dests = p.dests ++ to ∷ [] }
    else record p { used = used_after (entry p) p.used }

-- What it says.

-- A chunk that counts as read at once: of no bytes, or for datagrams one that no datagram holds.
abbrev pub is_void : PeerKind → Said → Bool
is_void kind chunk = if is_udp kind then nat_lt most_read (length chunk.bytes) else length chunk.bytes == 0

-- How many chunks are passed over before the one that is to be read next, if there is one.
abbrev pub front : Acting → Option ℕ
front p = position (λ chunk. not (is_void p.script.kind chunk)) (drop p.next p.script.say)

abbrev pub no_chunk : Said
no_chunk = record { after = 0; bytes = [] }

-- The chunk after so many that are passed over, how many bytes of it are read, and the next ones of it.
abbrev pub chunk_at : Acting → ℕ → Said
chunk_at p passed = get_or (drop p.next p.script.say) passed no_chunk

abbrev pub read_of : Acting → ℕ → ℕ
read_of p passed = if passed == 0 then p.at else 0

abbrev pub part : Acting → ℕ → ℕ → List ℕ
part p passed count = take count (drop (read_of p passed) (chunk_at p passed).bytes)

abbrev pub is_ready : Acting → ℕ → Bool
is_ready p passed = nat_le (chunk_at p passed).after (length p.given)

-- Where a chunk is read to its end, the peer owes all its NotYets again.
abbrev pub moved_to : Acting → ℕ → ℕ → ℕ → Acting
moved_to p chunk at most = record p {
  next = (if at == most then chunk + 1 else chunk);
  at = (if at == most then 0 else at);
  owes = (if at == most then p.script.lag else p.owes);
}

-- After so many bytes of that chunk were read.
abbrev pub moved : Acting → ℕ → ℕ → Acting
moved p passed count = moved_to p (p.next + passed) (read_of p passed + count) (length (chunk_at p passed).bytes)

abbrev pub has_ended : Option ℕ → ℕ → Bool
has_ended None given = false
has_ended (Some end) given = nat_le end given

-- A read begins a chunk, or is answered End.
abbrev pub is_move : Acting → Option ℕ → Bool
is_move p None = not (is_udp p.script.kind) && has_ended p.script.end (length p.given)
is_move p (Some passed) = is_ready p passed && read_of p passed == 0

-- That is what a peer puts off while it owes.
abbrev pub puts_off : Acting → Bool
puts_off p = is_owing p && is_move p (front p)

-- A read gives no more bytes than its answer can count.
abbrev pub countable : ℕ → ℕ
countable count = min count 4294967295

abbrev pub read_from : Acting → ℕ → Option ℕ → LinkAnswer
read_from p count None = if has_ended p.script.end (length p.given) then End else NotYet
read_from p count (Some passed) = if is_ready p passed then DoneBytes (part p passed (countable count)) else NotYet

abbrev pub read_answer : Acting → ℕ → LinkAnswer
read_answer p count = if puts_off p then NotYet else read_from p count (front p)

abbrev pub receive_from : Acting → Option ℕ → LinkAnswer
receive_from p None = NotYet
receive_from p (Some passed) = if is_ready p passed then DoneDatagram p.script.addr (part p passed most_read) else NotYet

abbrev pub receive_answer : Acting → LinkAnswer
receive_answer p = if puts_off p then NotYet else receive_from p (front p)

abbrev pub left_by : Acting → ℕ → Option ℕ → Acting
left_by p count None = p
left_by p count (Some passed) = if is_ready p passed then moved p passed (length (part p passed count)) else p

abbrev pub read_after : Acting → ℕ → Acting
read_after p count = if puts_off p then lowered p else left_by p (countable count) (front p)

-- All that was read of it.
abbrev pub fed_by : PeerKind → List Said → ℕ → ℕ → List ℕ
fed_by kind [] next at = []
fed_by kind (chunk ∷ say) zero at = if is_void kind chunk then [] else take at chunk.bytes
fed_by kind (chunk ∷ say) (suc next) at = (if is_void kind chunk then [] else chunk.bytes) ++ fed_by kind say next at

abbrev pub fed : Acting → List ℕ
fed p = fed_by p.script.kind p.script.say p.next p.at

-- The calls.

abbrev pub counted : Acting → Acting
counted p = record p { calls = min (p.calls + 1) 18446744073709551615 }

abbrev pub fails : Acting → Bool
fails p = min (p.calls + 1) 18446744073709551615 == p.script.fail

-- Bytes go to a client and a server, datagrams to a datagram peer: a call of the other kind is answered NotYet, and changes nothing.
-- Writes, reads, datagrams and shuts are counted together, and the one whose number is `fail` fails.
abbrev pub counted_answer : Bool → Acting → LinkAnswer → LinkAnswer
counted_answer is_apt p answer = if is_apt then (if fails p then Failed else answer) else NotYet

abbrev pub counted_after : Bool → Acting → Acting → Acting
counted_after is_apt p after = if is_apt then (if fails p then counted p else after) else p

abbrev pub peer_answer : Acting → Call → LinkAnswer
peer_answer p (SetRoutes routes) = Done
peer_answer p (Connect c to) = Done
peer_answer p (Accept c port) = DoneFrom p.script.addr
peer_answer p (Write c piece) = counted_answer (not (is_udp p.script.kind)) p (write_answer (counted p) piece)
peer_answer p (Read c count) = counted_answer (not (is_udp p.script.kind)) p (read_answer (counted p) count)
peer_answer p (SendTo c port to body) = counted_answer (is_udp p.script.kind) p (send_answer (counted p) body)
peer_answer p (RecvFrom c port count) = counted_answer (is_udp p.script.kind) p (receive_answer (counted p))
peer_answer p (Shut c) = counted_answer true p Done
peer_answer p (DropConn c) = Done

abbrev pub peer_after : Acting → Call → Acting
peer_after p (SetRoutes routes) = p
peer_after p (Connect c to) = record p { made = true }
peer_after p (Accept c port) = record p { made = true }
peer_after p (Write c piece) = counted_after (not (is_udp p.script.kind)) p (write_after (counted p) piece)
peer_after p (Read c count) = counted_after (not (is_udp p.script.kind)) p (read_after (counted p) count)
peer_after p (SendTo c port to body) = counted_after (is_udp p.script.kind) p (send_after (counted p) to body)
peer_after p (RecvFrom c port count) = counted_after (is_udp p.script.kind) p (read_after (counted p) most_read)
peer_after p (Shut c) = counted_after true p (counted p)
peer_after p (DropConn c) = record p { made = false }

-- How many of its calls failed.
abbrev pub faults_of : Acting → ℕ
faults_of p = if nat_lt 0 p.script.fail && nat_le p.script.fail p.calls then 1 else 0
