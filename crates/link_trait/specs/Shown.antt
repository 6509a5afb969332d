-- What links show of themselves, and what a call with its answer makes of it. One rule for all calls and answers each.
use Rattle.std.specs.Prelude.{◌≡◌, ◌⊎◌, ℕ, Bool, true, false, ◌==◌, ◌&&◌, List, [], ◌∷◌, ◌++◌, take, if◌then◌else◌}
use Rattle.chip_sheet.specs.declared.event.Addr.{Addr}
use Rattle.chip_sheet.specs.declared.event.ConnId.{ConnId}
use Rattle.chip_sheet.specs.LinkAnswers.{LinkAnswer, Done, DoneFrom, DoneWith, DoneBytes, DoneDatagram, NotYet, Failed}
use Rattle.wz_base.specs.Outside.{RisesOnly}
use Rattle.link_trait.specs.Calls.{Call, Connect, Accept, Write, SendTo, DropConn, same, is_on}

-- What links show.
pub record Shown : Type 0 where
  -- how many calls failed, were answered NotYet, and were a write or a send_to that was answered NotYet
  pub faults : ℕ
  pub waits : ℕ
  pub stalls : ℕ
  -- of each socket: the life on which its last write or send_to was made, where that call was answered NotYet; else 0
  pub stalled : ℕ → ℕ
  -- which connections are made, and not dropped
  pub made : ConnId → Bool
  -- of which connections the bytes and addresses are told
  pub told : ConnId → Bool
  -- the bytes that a told connection was given, and the addresses of its datagrams
  pub given : ConnId → List ℕ
  pub dests : ConnId → List Addr
  -- the bytes that it gave
  pub fed : ConnId → List ℕ
  -- which connections may still become told; it may hold of none
  pub quiet : ConnId → Bool

-- Links that tell no bytes.
abbrev pub untold : ℕ → ℕ → ℕ → (ℕ → ℕ) → (ConnId → Bool) → Shown
untold faults waits stalls stalled made = record {
  faults = faults;
  waits = waits;
  stalls = stalls;
  stalled = stalled;
  made = made;
  told = λ c. false;
  given = λ c. [];
  dests = λ c. [];
  fed = λ c. [];
  quiet = λ c. false;
}

-- The lists of a connection are empty.
pub record IsBlank (shown : Shown) (c : ConnId) : Type 0 where
  pub given : shown.given c ≡ []
  pub dests : shown.dests c ≡ []
  pub fed : shown.fed c ≡ []

-- Links on which no call was made: the lists of every told connection are empty.
abbrev pub IsFresh : Shown → Type 0
IsFresh shown = (c : ConnId) → shown.told c ≡ true → IsBlank shown c

-- Where counts rise.

abbrev pub Fails : LinkAnswer → Type 0
Fails Failed = Unit {0}
Fails answer = ⊥

abbrev pub Waits : LinkAnswer → Type 0
Waits NotYet = Unit {0}
Waits answer = ⊥

abbrev pub Stalls : Call → LinkAnswer → Type 0
Stalls (Write c piece) answer = Waits answer
Stalls (SendTo c port to body) answer = Waits answer
Stalls call answer = ⊥

-- The life of a connection whose write was answered NotYet, else 0.
abbrev pub stalled_at : ConnId → LinkAnswer → ℕ
stalled_at c NotYet = c.life
stalled_at c answer = 0

abbrev pub stalled_after : (ℕ → ℕ) → Call → LinkAnswer → ℕ → ℕ
stalled_after stalled (Write c piece) answer n = if c.sn == n then stalled_at c answer else stalled n
stalled_after stalled (SendTo c port to body) answer n = if c.sn == n then stalled_at c answer else stalled n
stalled_after stalled call answer n = stalled n

-- Each count never falls, and rises exactly where its cause holds; only a write or a send_to changes what stalled, and only of its
-- own socket.
pub record Counts (old : Shown) (call : Call) (answer : LinkAnswer) (new : Shown) : Type 0 where
  pub faults : RisesOnly (Fails answer) old.faults new.faults
  pub waits : RisesOnly (Waits answer) old.waits new.waits
  pub stalls : RisesOnly (Stalls call answer) old.stalls new.stalls
  pub stalled : (n : ℕ) → new.stalled n ≡ stalled_after old.stalled call answer n

-- Which connections are made.

-- The call makes this connection.
abbrev pub makes : Call → LinkAnswer → ConnId → Bool
makes (Connect c to) Done d = same c d
makes (Accept c port) (DoneFrom from) d = same c d
makes call answer d = false

-- The call may end it.
abbrev pub ends : Call → ConnId → Bool
ends (DropConn c) d = same c d
ends call d = false

-- A connection is made by a connect or an accept that is answered Done, and by nothing else; only a drop_conn of it may end it.
pub record Makes (old : Shown) (call : Call) (answer : LinkAnswer) (new : Shown) : Type 0 where
  pub made : (d : ConnId) → makes call answer d ≡ true → new.made d ≡ true
  pub stays : (d : ConnId) → old.made d ≡ true → ends call d ≡ false → new.made d ≡ true
  pub only : (d : ConnId) → new.made d ≡ true → (old.made d ≡ true) ⊎ (makes call answer d ≡ true)

-- The lists of told connections.

-- The bytes that a call gave its connection.
abbrev pub gives : Call → LinkAnswer → List ℕ
gives (Write c piece) (DoneWith count) = take count piece
gives (SendTo c port to body) Done = body
gives call answer = []

-- The address that it sent a datagram to.
abbrev pub addresses : Call → LinkAnswer → List Addr
addresses (SendTo c port to body) Done = to ∷ []
addresses call answer = []

-- The bytes that it got of its connection.
abbrev pub gets : LinkAnswer → List ℕ
gets (DoneBytes bytes) = bytes
gets (DoneDatagram from body) = body
gets answer = []

-- It moved bytes, or a datagram.
abbrev pub moves : Call → LinkAnswer → Bool
moves call (DoneWith count) = true
moves call (DoneBytes bytes) = true
moves call (DoneDatagram from body) = true
moves (SendTo c port to body) Done = true
moves call answer = false

-- What a call adds to a list of this connection: nothing where it is made on another one.
abbrev pub added : {A : Type 0} → Call → ConnId → List A → List A
added call d more = if is_on call d then more else []

-- A told connection stays told, and becomes told only where it was quiet and its lists were empty. The lists of every told connection have what the call
-- adds, and nothing else. A connection becomes quiet in no call, and is no longer quiet where bytes or a datagram moved on it; while
-- it is quiet its lists are empty.
pub record Lists (old : Shown) (call : Call) (answer : LinkAnswer) (new : Shown) : Type 0 where
  pub told : (d : ConnId) → old.told d ≡ true → new.told d ≡ true
  pub newly : (d : ConnId) → new.told d ≡ true → (old.told d ≡ true) ⊎ ((old.quiet d ≡ true) × IsBlank old d)
  pub given : (d : ConnId) → new.told d ≡ true → new.given d ≡ old.given d ++ added call d (gives call answer)
  pub dests : (d : ConnId) → new.told d ≡ true → new.dests d ≡ old.dests d ++ added call d (addresses call answer)
  pub fed : (d : ConnId) → new.told d ≡ true → new.fed d ≡ old.fed d ++ added call d (gets answer)
  pub quiet : (d : ConnId) → new.quiet d ≡ true → (old.quiet d ≡ true) × (is_on call d && moves call answer ≡ false)
  pub blank : (d : ConnId) → new.quiet d ≡ true → IsBlank new d
