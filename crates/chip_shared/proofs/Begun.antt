-- A call that is due at a place, by the fields of the shared state: what the links need of it, and what its entry needs.
use Rattle.std.proofs.Common.{◌≡◌, ◌<◌, ◌+◌, ◌^◌, ◌/◌, ℕ, true, ◌++◌, List, length, length-append, Option, sym, ap, subst, arith}
use Rattle.chip_sheet.specs.declared.event.ConnId.{ConnId}
use Rattle.chip_sheet.specs.declared.event.LinkWhat.{LinkWhat}
use Rattle.chip_sheet.specs.declared.event.LinkEntry.{LinkEntry}
use Rattle.chip_sheet.specs.declared.socket.Due.{Due}
use Rattle.chip_sheet.specs.declared.socket.Due.TheVariants as due
use Rattle.chip_sheet.specs.Past.{Past}
use Rattle.chip_sheet.specs.Life.{lives}
use Rattle.chip_sheet.specs.Sizes.{tx_sizes}
use Rattle.chip_sheet.specs.Streams.{Starts}
use Rattle.chip_sheet.specs.Windows.{in_flight, offered_length}
use Rattle.chip_sheet.specs.LinkCalls.{due_at, connection, fits}
use Rattle.chip_sheet.specs.Legal.{Legal}
use Rattle.chip_sheet.proofs.FitLaws.{flight_within}
use Rattle.chip_steps.proofs.OverLives.{size_within}
use Rattle.chip_core.specs.declared.chip.Chip.{Chip}
use Rattle.chip_core.specs.Chip.{Stands, Few, starts_of, fits_here}
use Rattle.chip_hist.specs.Log.{Log, IsLight}
use Rattle.chip_hist.proofs.Weight.{open_light, open_short}
use Rattle.link_trait.specs.Calls.{Call}
use Rattle.link_trait.specs.Shown.{Shown}
use Rattle.chip_sheet.specs.LinkAnswers.{LinkAnswer}
use Rattle.chip_shared.specs.State.{State}
use Rattle.chip_shared.specs.Tied.{Ready}
use Rattle.chip_shared.specs.Sound.{Sound, state_of}
use Rattle.chip_shared.specs.Calling.{is_due}
use Rattle.chip_shared.specs.Entries.{entry_for}
use Rattle.chip_shared.specs.Adding.{RoomFor, IsReady}
use Rattle.chip_shared.specs.Making.{Begins, Needs}
use Rattle.chip_shared.proofs.DueFacts.{Says_of, told_of}
use Rattle.chip_shared.proofs.Here.{Here}
use Rattle.chip_shared.proofs.Needs.{flight_long}
use Rattle.chip_shared.proofs.OneCall.{call_fits, call_room}
use Rattle.chip_shared.proofs.Windows.{made_here, some_offered}

pub begun : {L : Type 0} (before : State L) (chip : Chip) (log : Log) (links : L) (calls place : ℕ) (call : Due) → state_of chip log links calls ≡ before → Begins before place call → Begins (state_of chip log links calls) place call
begun before chip log links calls place call view begins = subst (λ (s : State _). Begins s place call) (sym view) begins

pub half : (place : ℕ) → place < 16 → place / 2 < 8
half place few = omega (arith, few)

-- The connection of a call is of one of the eight sockets.
sn_of : (past : Past) (n : ℕ) (c : ConnId) → n < 8 → c ≡ connection n (lives past n) → c.sn < 8
sn_of past n c few is = rw is few

needs_by : (starts : Starts) (past : Past) (shown : Shown) (place : ℕ) (call : Due) → place < 16 → place / 2 < 8 → Legal starts past → Ready past shown → due_at starts past place ≡ call → is_due call ≡ true
    → Says_of starts past (place / 2) call → Needs call shown.made (offered_length starts past (place / 2))
needs_by starts past shown place due.Nothing at few legal ready is some told = cc
needs_by starts past shown place (due.Drop c) at few legal ready is some told = rw told.0 few
needs_by starts past shown place (due.Connect c to) at few legal ready is some told = sn_of past (place / 2) c few told
needs_by starts past shown place (due.Write c) at few legal ready is some told =
    (sn_of past (place / 2) c few told.0, (made_here past shown (place / 2) c few ready told.0 told.1.0 told.1.1.0 told.1.1.1, some_offered starts past place c at legal is))
needs_by starts past shown place (due.SendTo c port to) at few legal ready is some told = sn_of past (place / 2) c few told.0
needs_by starts past shown place (due.Shut c) at few legal ready is some told = sn_of past (place / 2) c few told
needs_by starts past shown place (due.Accept c port) at few legal ready is some told = sn_of past (place / 2) c few told
needs_by starts past shown place (due.Read c) at few legal ready is some told =
    (sn_of past (place / 2) c few told.0, made_here past shown (place / 2) c few ready told.0 told.1.0 told.1.1.0 told.1.1.1)
needs_by starts past shown place (due.ReadAway c) at few legal ready is some told =
    (sn_of past (place / 2) c few told.0, made_here past shown (place / 2) c few ready told.0 told.1.0 told.1.1.0 told.1.1.1)
needs_by starts past shown place (due.RecvFrom c port) at few legal ready is some told = sn_of past (place / 2) c few told.0

-- What the links need of it.
pub needs_of : {L : Type 0} (shown : L → Shown) (chip : Chip) (log : Log) (links : L) (calls place : ℕ) (call : Due) (many : ℕ) → Sound shown chip log links calls → Begins (state_of chip log links calls) place call
    → many ≡ offered_length (starts_of chip) log.past (place / 2) → Needs call (shown links).made many
needs_of shown chip log links calls place call many held begins long =
    let starts = starts_of chip in
    rw long (needs_by starts log.past (shown links) place call begins.at (half place begins.at) held.stands.legal held.ready begins.due begins.some (told_of starts log.past place call begins.due))

-- Two pieces in flight have fewer than 2^32 bytes.
pub few_flying : (starts : Starts) (past : Past) (n : ℕ) (head tail : List ℕ) → n < 8 → Legal starts past → head ++ tail ≡ in_flight starts past n → length head + length tail < 2 ^ 32
few_flying starts past n head tail few legal all =
    let both = length-append head tail in
    let bytes = ap length all in
    let long = flight_long starts past n in
    let within = flight_within starts past n few legal in
    let small = size_within past tx_sizes n few in
    omega (arith, both, bytes, long, within, small)

-- A history that is not full is light and short.
pub few_calls : {L : Type 0} (chip : Chip) (log : Log) (links : L) (calls place : ℕ) (call : Due) → Begins (state_of chip log links calls) place call → length log.past < 576460752303423488
few_calls chip log links calls place call begins =
    open_short log begins.open_.room

few_units : {L : Type 0} (chip : Chip) (log : Log) (links : L) (calls place : ℕ) (call : Due) → Begins (state_of chip log links calls) place call → IsLight log
few_units chip log links calls place call begins =
    let below = open_light log begins.open_.room in omega (arith, below)

-- The chip's counts have room.
pub few_of : {L : Type 0} (chip : Chip) (log : Log) (links : L) (calls place : ℕ) (call : Due) → Begins (state_of chip log links calls) place call → Stands (starts_of chip) chip log.past
    → ((starts : Starts) (c : Chip) (past : Past) → Stands starts c past → length past < 2 ^ 60 → Few c) → Few chip
few_of chip log links calls place call begins stands short =
    let few = few_calls chip log links calls place call begins in
    short (starts_of chip) chip log.past stands (omega (arith, few))

-- Its entry has room in the history.
pub room_of : {L : Type 0} (effect : L → Call → LinkAnswer → L → Type 0) (shown : L → Shown) (chip : Chip) (log : Log) (links newer : L) (calls place : ℕ) (call : Due) (what : Option LinkWhat)
    → Begins (state_of chip log links calls) place call → Here effect shown links (starts_of chip) log.past (place / 2) call what newer → RoomFor log (entry_for (place / 2) what)
room_of effect shown chip log links newer calls place call what begins made =
    let few = few_calls chip log links calls place call begins in
    let light = few_units chip log links calls place call begins in
    record {
      event = begins.room;
      bytes = call_room (starts_of chip) log.past place log.spare_bytes call made.answer (entry_for (place / 2) what) made.may made.entry begins.data_room;
      light = omega (arith, light);
      short = omega (arith, few);
    }

-- It may be added to chip and history.
pub ready_of : {L : Type 0} (effect : L → Call → LinkAnswer → L → Type 0) (shown : L → Shown) (chip : Chip) (log : Log) (links newer : L) (calls place : ℕ) (call : Due) (what : Option LinkWhat)
    → Begins (state_of chip log links calls) place call → Here effect shown links (starts_of chip) log.past (place / 2) call what newer → Stands (starts_of chip) chip log.past
    → ((starts : Starts) (c : Chip) (past : Past) → Stands starts c past → length past < 2 ^ 60 → Few c)
    → ((starts : Starts) (c : Chip) (past : Past) (n : ℕ) (entry : LinkEntry) → n < 8 → Stands starts c past → fits_here c n entry ≡ fits starts past n entry)
    → IsReady chip log (place / 2) what
ready_of effect shown chip log links newer calls place call what begins made stands short agrees = record {
  socket = half place begins.at;
  few = few_of chip log links calls place call begins stands short;
  unstopped = begins.open_.unstopped;
  fits = call_fits chip log place call made.answer what agrees begins.at stands begins.due made.may made.entry;
  adds = room_of effect shown chip log links newer calls place call what begins made;
}
