-- What a link step makes of the shared state: the call that is due first, and its answer.
use Rattle.std.specs.Prelude.{◌≡◌, ◌⊎◌, ℕ, ◌≤◌, ◌<◌, ◌+◌, ◌/◌, Bool, true, false, List, [], ◌∷◌, drop, Result, Ok, Err, Option, Some, None, MatchOption, if◌then◌else◌}
use Rattle.chip_sheet.specs.declared.socket.Due.{Due}
use Rattle.chip_sheet.specs.declared.socket.Due.TheVariants as due
use Rattle.chip_sheet.specs.declared.event.Entry.{Entry}
use Rattle.chip_sheet.specs.declared.event.Entry.TheVariants.{Rest}
use Rattle.chip_sheet.specs.Past.{Past}
use Rattle.chip_sheet.specs.Streams.{Starts}
use Rattle.chip_sheet.specs.Windows.{flight, in_flight, offered, offered_length, room_length, most_read}
use Rattle.chip_sheet.specs.LinkCalls.{due_at}
use Rattle.chip_sheet.specs.LinkAnswers.{LinkAnswer, NotYet, Failed, entry_by, may_answer}
use Rattle.link_trait.specs.Calls.{Call, Connect, Accept, Write, Read, SendTo, RecvFrom, Shut, DropConn}
use Rattle.chip_shared.specs.State.{State, Keeps}
use Rattle.chip_shared.specs.Asking.{IsOpen, Refused}
use Rattle.chip_shared.specs.declared.shared.StepEnd.{StepEnd}
use Rattle.chip_shared.specs.declared.shared.LinkDid.{LinkDid}
use Rattle.chip_shared.specs.declared.shared.LinkDid.TheVariants as did

abbrev pub is_due : Due → Bool
is_due due.Nothing = false
is_due other = true

-- The sixteen places: 2n is the outgoing one of socket n, and 2n + 1 its incoming one.
abbrev pub places : List ℕ
places = 0 ∷ 1 ∷ 2 ∷ 3 ∷ 4 ∷ 5 ∷ 6 ∷ 7 ∷ 8 ∷ 9 ∷ 10 ∷ 11 ∷ 12 ∷ 13 ∷ 14 ∷ 15 ∷ []

-- The first of some places at which a call is due.
abbrev pub first_of : Starts → Past → List ℕ → Option ℕ
first_of starts past [] = None
first_of starts past (place ∷ more) = if is_due (due_at starts past place) then Some place else first_of starts past more

-- The first place at which a call is due, from a place on.
abbrev pub first_due : Starts → Past → ℕ → Option ℕ
first_due starts past from = first_of starts past (drop from places)

-- A call that is due, with its arguments: a stream is offered the bytes in flight up to the end of the buffer, a datagram is all
-- bytes in flight, and bytes that are kept are read into what is free of the RX buffer, up to its end.
abbrev pub call_of : Due → List ℕ → List ℕ → ℕ → Call
call_of (due.Drop c) offered flight room = DropConn c
call_of (due.Connect c to) offered flight room = Connect c to
call_of (due.Write c) offered flight room = Write c offered
call_of (due.SendTo c port to) offered flight room = SendTo c port to flight
call_of (due.Shut c) offered flight room = Shut c
call_of (due.Accept c port) offered flight room = Accept c port
call_of (due.Read c) offered flight room = Read c room
call_of (due.ReadAway c) offered flight room = Read c most_read
call_of (due.RecvFrom c port) offered flight room = RecvFrom c port most_read
call_of due.Nothing offered flight room = DropConn (record { sn = 0; life = 0 })

-- The call at a place after this past.
abbrev pub call_at : Starts → Past → ℕ → Call
call_at starts past place =
    let n = place / 2 in
    call_of (due_at starts past place) (offered starts past n) (in_flight starts past n) (room_length starts past n)

-- The call that is due at a place of a state, whether an answer to it may come, and the entry that the answer brings.
abbrev pub call_now : {L : Type 0} → State L → ℕ → Call
call_now now place = call_at now.starts now.log.past place

abbrev pub may_now : {L : Type 0} → State L → ℕ → LinkAnswer → Bool
may_now now place answer =
    let n = place / 2 in
    may_answer (due_at now.starts now.log.past place) (offered_length now.starts now.log.past n) (room_length now.starts now.log.past n) answer

abbrev pub entry_now : {L : Type 0} → State L → ℕ → LinkAnswer → Entry
entry_now now place answer =
    let n = place / 2 in
    entry_by n (flight now.starts now.log.past n) (due_at now.starts now.log.past place) answer

-- What a step says of an answer at a place.
abbrev pub did_at : ℕ → LinkAnswer → LinkDid
did_at place NotYet = did.NotYet place
did_at place Failed = did.Fault place
did_at place answer = did.Did place

-- One call was made, the one that was due at this place; its answer stands in the history, and nothing else has changed but the links.
pub record Called {L : Type 0} (does : L → Call → LinkAnswer → L → Type 0) (old : State L) (place : ℕ) (told : LinkDid) (new : State L) : Type 0 where
  pub answer : LinkAnswer
  pub effect : does old.links (call_now old place) answer new.links
  pub may : may_now old place answer ≡ true
  pub past : new.log.past ≡ entry_now old place answer ∷ old.log.past
  pub did : told ≡ did_at place answer
  pub calls : new.calls ≡ old.calls + 1
  pub limit : new.log.limit ≡ old.log.limit
  pub stopped : new.stopped ≡ None
  pub starts : new.starts ≡ old.starts
  -- it takes the room of one event at most
  pub events : old.log.spare_events ≤ new.log.spare_events + 1

-- Nothing was due: a turn in which nothing happened stands in the history, and nothing else has changed.
pub record Idles {L : Type 0} (old : State L) (does : LinkDid) (new : State L) : Type 0 where
  pub did : does ≡ did.Idle
  pub past : new.log.past ≡ Rest ∷ old.log.past
  pub limit : new.log.limit ≡ old.log.limit
  pub stopped : new.stopped ≡ None
  pub starts : new.starts ≡ old.starts
  pub links : new.links ≡ old.links
  pub calls : new.calls ≡ old.calls
  pub events : old.log.spare_events ≤ new.log.spare_events + 1

abbrev pub Steps : {L : Type 0} → (L → Call → LinkAnswer → L → Type 0) → State L → ℕ → Result LinkDid StepEnd → State L → Type 0
Steps effect old from (Ok does) new =
    IsOpen old × MatchOption (first_due old.starts old.log.past from) (Idles old does new) (λ place. Called effect old place does new)
Steps effect old from (Err end_) new =
    Keeps old new × ((new.stopped ≡ old.stopped) × Refused old (λ events bytes. (events ≡ 0) ⊎ (bytes < most_read)) end_)
