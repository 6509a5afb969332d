-- All peers together: which peer a call meets, and what it is answered.
use Rattle.std.specs.Prelude.{◌≡◌, ℕ, ◌+◌, Bool, true, false, not, ◌==◌, ◌&&◌, nat_le, min, max, List, [], ◌∷◌, set, get_or, Option, None, Some, nat_eq, if◌then◌else◌}
use Rattle.std.specs.Option.{option_map_or}
use Rattle.std.specs.List.{find}
use Rattle.std.specs.Cmp.Lexicographic.{pointwise}
use Rattle.chip_sheet.specs.declared.event.Addr.{Addr}
use Rattle.chip_sheet.specs.declared.event.ConnId.{ConnId}
use Rattle.chip_sheet.specs.LinkAnswers.{LinkAnswer, Done, NotYet, Refused, TimedOut, Failed}
use Rattle.link_trait.specs.Calls.{Call, SetRoutes, Connect, Accept, Write, Read, SendTo, RecvFrom, Shut, DropConn}
use Rattle.link_trait.specs.Shown.{Shown}
use Rattle.link_script.specs.declared.peer.Connects.{Connects}
use Rattle.link_script.specs.declared.peer.Connects.TheVariants as word
use Rattle.link_script.specs.declared.wanted.Wanted.{Wanted}
use Rattle.link_script.specs.declared.wanted.Wanted.TheVariants.{ServerAt, ClientOf, UdpOf}
use Rattle.link_script.specs.Scripts.{Script}
use Rattle.link_script.specs.Acting.{Acting, is_udp, is_server, is_client, is_unused, is_serving, asked, keeps_waiting, fed, peer_answer, peer_after}

pub record Played : Type 0 where
  pub peers : List Acting
  -- of each socket: the latest life on which a datagram went to nobody
  pub lost : List (Option ℕ)
  -- of each socket: the life on which its last write or send_to was made, where that call was answered NotYet; else 0
  pub stalled : List ℕ
  pub faults : ℕ
  pub waits : ℕ
  pub stalls : ℕ

-- Which peer a call meets: the first unused one of its kind with its address or its port.

abbrev pub same_address : Addr → Addr → Bool
same_address a b = pointwise nat_eq a.ip b.ip && a.port == b.port

abbrev pub is_wanted : Wanted → Script → Bool
is_wanted (ServerAt to) script = is_server script.kind && same_address script.addr to
is_wanted (ClientOf port) script = is_client script.kind && script.chip == port
is_wanted (UdpOf port) script = is_udp script.kind && script.chip == port

abbrev pub suits : Wanted → Acting → Bool
suits wanted p = is_unused p.conn && is_wanted wanted p.script

abbrev pub wanted_by : Call → Option Wanted
wanted_by (Connect c to) = Some (ServerAt to)
wanted_by (Accept c port) = Some (ClientOf port)
wanted_by (SendTo c port to body) = Some (UdpOf port)
wanted_by (RecvFrom c port count) = Some (UdpOf port)
wanted_by call = None

-- A list in which the first member that passes a test is changed.
abbrev pub change_first : (Acting → Bool) → (Acting → Acting) → List Acting → List Acting
change_first test change [] = []
change_first test change (p ∷ ps) = if test p then change p ∷ ps else p ∷ change_first test change ps

abbrev pub is_there : Option Acting → Bool
is_there None = false
is_there (Some p) = true

abbrev pub server_in : List Acting → ConnId → Option Acting
server_in peers c = find (is_serving c) peers

abbrev pub reaches : Option ℕ → ℕ → Bool
reaches None life = false
reaches (Some latest) life = nat_le life latest

-- A datagram of its life or a later one of its socket went to nobody.
abbrev pub is_lost : List (Option ℕ) → ConnId → Bool
is_lost lost c = reaches (get_or lost c.sn None) c.life

-- A connection that no peer serves asks the first that suits, which meets it or keeps it waiting; one that a peer serves asks no
-- other. The peer that it meets tells all bytes if the connection was quiet until then.
abbrev pub met_by : Bool → List Acting → ConnId → Wanted → Option Acting → List Acting
met_by tells peers c wanted None = change_first (suits wanted) (asked c tells) peers
met_by tells peers c wanted (Some p) = peers

abbrev pub meeting : Played → ConnId → Option Wanted → List Acting
meeting s c None = s.peers
meeting s c (Some wanted) = met_by (not (is_lost s.lost c)) s.peers c wanted (server_in s.peers c)

-- What a call on a connection that no peer serves is answered. A connect asked a server that still owes NotYets, that refused or
-- that never answers, or there was none.
abbrev pub refusal : Connects → LinkAnswer
refusal word.Refused = Refused
refusal other = TimedOut

abbrev pub refused_by : Option Acting → LinkAnswer
refused_by None = TimedOut
refused_by (Some p) = if keeps_waiting p then NotYet else refusal p.script.connect

abbrev pub unserved : List Acting → Call → LinkAnswer
unserved peers (Connect c to) = refused_by (find (suits (ServerAt to)) peers)
unserved peers (SendTo c port to body) = Done
unserved peers (Shut c) = Done
unserved peers (DropConn c) = Done
unserved peers (SetRoutes routes) = Done
unserved peers call = NotYet

abbrev pub later : Option ℕ → ℕ → ℕ
later None life = life
later (Some latest) life = max latest life

abbrev pub lost_after : List (Option ℕ) → Call → List (Option ℕ)
lost_after lost (SendTo c port to body) = set lost c.sn (Some (later (get_or lost c.sn None) c.life))
lost_after lost call = lost

-- The answer to a call, by the peer that serves its connection once one was met, and what the call makes of the peers and of the
-- datagrams that went to nobody.
abbrev pub answer_or : LinkAnswer → Call → Option Acting → LinkAnswer
answer_or otherwise call None = otherwise
answer_or otherwise call (Some p) = peer_answer p call

abbrev pub peers_by : List Acting → ConnId → Call → Option Acting → List Acting
peers_by peers c call None = peers
peers_by peers c call (Some p) = change_first (is_serving c) (λ q. peer_after q call) peers

abbrev pub lost_by : List (Option ℕ) → Call → Option Acting → List (Option ℕ)
lost_by lost call None = lost_after lost call
lost_by lost call (Some p) = lost

-- The counts.

abbrev pub has_failed : LinkAnswer → Bool
has_failed Failed = true
has_failed answer = false

abbrev pub has_waited : LinkAnswer → Bool
has_waited NotYet = true
has_waited answer = false

abbrev pub is_outgoing : Call → Bool
is_outgoing (Write c piece) = true
is_outgoing (SendTo c port to body) = true
is_outgoing call = false

-- A count that rises, or stands at the last number of 64 bits.
abbrev pub risen : Bool → ℕ → ℕ
risen rises count = if rises then max count (min (count + 1) 18446744073709551615) else count

abbrev pub stalled_by : List ℕ → Call → Bool → List ℕ
stalled_by stalled (Write c piece) waited = set stalled c.sn (if waited then c.life else 0)
stalled_by stalled (SendTo c port to body) waited = set stalled c.sn (if waited then c.life else 0)
stalled_by stalled call waited = stalled

-- Once the peers and what was lost are as the call leaves them, its answer is counted.
abbrev pub counted_by : Played → Call → Bool → Bool → Played
counted_by s call failed waited = record s {
  faults = risen failed s.faults;
  waits = risen waited s.waits;
  stalls = risen (is_outgoing call && waited) s.stalls;
  stalled = stalled_by s.stalled call waited;
}

abbrev pub acted_by : Played → ConnId → Call → List Acting → Option Acting → Played
acted_by s c call peers server = record s { peers = peers_by peers c call server; lost = lost_by s.lost call server }

abbrev pub after_by : Played → ConnId → Call → List Acting → Option Acting → Played
after_by s c call peers server =
    counted_by (acted_by s c call peers server) call
    (has_failed (answer_or (unserved s.peers call) call server)) (has_waited (answer_or (unserved s.peers call) call server))

-- A call on a connection, whole.
abbrev pub answer_on : Played → ConnId → Call → LinkAnswer
answer_on s c call = answer_or (unserved s.peers call) call (server_in (meeting s c (wanted_by call)) c)

abbrev pub after_on : Played → ConnId → Call → Played
after_on s c call = after_by s c call (meeting s c (wanted_by call)) (server_in (meeting s c (wanted_by call)) c)

-- What any call is answered, and what it makes of the links.
abbrev pub answer_to : Played → Call → LinkAnswer
answer_to s (SetRoutes routes) = Done
answer_to s (Connect c to) = answer_on s c (Connect c to)
answer_to s (Accept c port) = answer_on s c (Accept c port)
answer_to s (Write c piece) = answer_on s c (Write c piece)
answer_to s (Read c count) = answer_on s c (Read c count)
answer_to s (SendTo c port to body) = answer_on s c (SendTo c port to body)
answer_to s (RecvFrom c port count) = answer_on s c (RecvFrom c port count)
answer_to s (Shut c) = answer_on s c (Shut c)
answer_to s (DropConn c) = answer_on s c (DropConn c)

abbrev pub after : Played → Call → Played
after s (SetRoutes routes) = s
after s (Connect c to) = after_on s c (Connect c to)
after s (Accept c port) = after_on s c (Accept c port)
after s (Write c piece) = after_on s c (Write c piece)
after s (Read c count) = after_on s c (Read c count)
after s (SendTo c port to body) = after_on s c (SendTo c port to body)
after s (RecvFrom c port count) = after_on s c (RecvFrom c port count)
after s (Shut c) = after_on s c (Shut c)
after s (DropConn c) = after_on s c (DropConn c)

-- The answer and what is left of the links are those of the scripts.
pub record Plays (s : Played) (call : Call) (answer : LinkAnswer) (t : Played) : Type 0 where
  pub answered : answer ≡ answer_to s call
  pub left : t ≡ after s call

-- What the links show: a connection is told where a peer serves it and it was quiet when that peer met it; it is quiet where no
-- peer serves it and no datagram of its life or a later one went to nobody.
abbrev pub shown : Played → Shown
shown s = record {
  faults = s.faults;
  waits = s.waits;
  stalls = s.stalls;
  stalled = λ n. get_or s.stalled n 0;
  made = λ c. option_map_or (λ p. p.made) (server_in s.peers c) false;
  told = λ c. option_map_or (λ p. p.tells) (server_in s.peers c) false;
  given = λ c. option_map_or (λ p. p.given) (server_in s.peers c) [];
  dests = λ c. option_map_or (λ p. p.dests) (server_in s.peers c) [];
  fed = λ c. option_map_or fed (server_in s.peers c) [];
  quiet = λ c. not (is_there (server_in s.peers c)) && not (is_lost s.lost c);
}
