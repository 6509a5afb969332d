-- One call of a link step, on plain values: what it may be answered fits the chip, the shared state stays sound, and the step is the one
-- that the definition says.
use Rattle.std.proofs.Common.{◌≡◌, ◌≤◌, ◌<◌, ◌+◌, ◌/◌, ℕ, min, true, leb, ◌∷◌, length, Option, None, Some, refl, sym, ap, ◌∙◌, subst, arith}
use Rattle.std.specs.Prelude.{MatchOption}
use Rattle.std.proofs.lemmas.Bool.{and_parts, leb-true}
use Rattle.chip_sheet.specs.declared.event.LinkWhat.{LinkWhat}
use Rattle.chip_sheet.specs.declared.event.LinkEntry.{LinkEntry}
use Rattle.chip_sheet.specs.declared.event.Entry.{Entry}
use Rattle.chip_sheet.specs.declared.socket.Due.{Due}
use Rattle.chip_sheet.specs.declared.socket.Due.TheVariants as due
use Rattle.chip_sheet.specs.Past.{Past, link_entry}
use Rattle.chip_sheet.specs.Streams.{Starts}
use Rattle.chip_sheet.specs.Windows.{flight, offered_length, room_length, rx_free, most_read}
use Rattle.chip_sheet.specs.LinkCalls.{due_at, fits}
use Rattle.chip_sheet.specs.LinkAnswers.{LinkAnswer, Done, DoneFrom, DoneWith, DoneBytes, DoneDatagram, NotYet, Refused, TimedOut, End, Failed, entry_by, may_answer}
use Rattle.chip_sheet.specs.Legal.{FitsAfter}
use Rattle.chip_sheet.proofs.AnswerLaws.{answer_fits}
use Rattle.chip_core.specs.declared.chip.Chip.{Chip}
use Rattle.chip_core.specs.Chip.{Stands, stop_kept, starts_of, fits_here}
use Rattle.chip_hist.specs.Log.{Log, entry_data}
use Rattle.link_trait.specs.Calls.{Call}
use Rattle.link_trait.specs.Shown.{Shown}
use Rattle.chip_shared.specs.State.{State}
use Rattle.chip_shared.specs.Sound.{Sound, state_of}
use Rattle.chip_shared.specs.Calling.{Called}
use Rattle.chip_shared.specs.Causes.{Does}
use Rattle.chip_shared.specs.Entries.{entry_for, did_for}
use Rattle.chip_shared.specs.Making.{Begins}
use Rattle.chip_shared.specs.declared.shared.LinkDid.{LinkDid}
use Rattle.chip_shared.proofs.DueFacts.{of_socket, told_of}
use Rattle.chip_shared.proofs.CallTied.{tied_call, ready_call}
use Rattle.chip_shared.proofs.Here.{Here}

fits_some : (starts : Starts) (past : Past) (chip : Chip) (n : ℕ) (w : Option LinkWhat) → ((what : LinkEntry) → fits_here chip n what ≡ fits starts past n what) → FitsAfter starts past (entry_for n w)
    → MatchOption w (Unit {0}) (λ what. fits_here chip n (link_entry what) ≡ true)
fits_some starts past chip n None agrees h = tt
fits_some starts past chip n (Some what) agrees h = agrees (link_entry what) ∙ h.1

-- What the links did fits the chip.
pub call_fits : (chip : Chip) (log : Log) (place : ℕ) (call : Due) (answer : LinkAnswer) (w : Option LinkWhat)
    → ((starts : Starts) (c : Chip) (past : Past) (n : ℕ) (what : LinkEntry) → n < 8 → Stands starts c past → fits_here c n what ≡ fits starts past n what)
    → place < 16 → Stands (starts_of chip) chip log.past → due_at (starts_of chip) log.past place ≡ call
    → may_answer call (offered_length (starts_of chip) log.past (place / 2)) (room_length (starts_of chip) log.past (place / 2)) answer ≡ true
    → entry_for (place / 2) w ≡ entry_by (place / 2) (flight (starts_of chip) log.past (place / 2)) call answer
    → MatchOption w (Unit {0}) (λ what. fits_here chip (place / 2) (link_entry what) ≡ true)
call_fits chip log place call answer w agrees few stands is may entry =
    let starts = starts_of chip in
    let n = place / 2 in
    let below : n < 8 = omega (arith, few) in
    fits_some starts log.past chip n w (λ what. agrees starts chip log.past n what below stands)
    (subst (FitsAfter starts log.past) (sym entry) (answer_fits starts log.past n call answer below (of_socket starts log.past place call is) may))

small : (a b c : ℕ) → min a (min b c) ≤ b
small a b c = omega arith

room_small : (starts : Starts) (past : Past) (n : ℕ) → room_length starts past n ≤ 1472
room_small starts past n = small (rx_free starts past n) most_read _

few_bytes : (n fl offered room : ℕ) (call : Due) (answer : LinkAnswer) → room ≤ 1472 → may_answer call offered room answer ≡ true → length (entry_data (entry_by n fl call answer)) ≤ 1472
few_bytes n fl offered room (due.Read c) (DoneBytes bytes) few may =
    let most = leb-true (length bytes) room (and_parts (leb 1 (length bytes)) (leb (length bytes) room) may).1 in omega (arith, most, few)
few_bytes n fl offered room (due.ReadAway c) (DoneBytes bytes) few may =
    leb-true (length bytes) 1472 (and_parts (leb 1 (length bytes)) (leb (length bytes) 1472) may).1
few_bytes n fl offered room (due.RecvFrom c port) (DoneDatagram from body) few may = leb-true (length body) 1472 may
few_bytes n fl offered room due.Nothing answer few may = cc
few_bytes n fl offered room (due.Drop c) Done few may = omega arith
few_bytes n fl offered room (due.Drop c) answer few may = cc
few_bytes n fl offered room (due.Connect c to) Done few may = omega arith
few_bytes n fl offered room (due.Connect c to) Refused few may = omega arith
few_bytes n fl offered room (due.Connect c to) TimedOut few may = omega arith
few_bytes n fl offered room (due.Accept c port) (DoneFrom from) few may = omega arith
few_bytes n fl offered room (due.Write c) (DoneWith k) few may = omega arith
few_bytes n fl offered room (due.SendTo c port to) Done few may = omega arith
few_bytes n fl offered room (due.Shut c) Done few may = omega arith
few_bytes n fl offered room (due.Read c) End few may = omega arith
few_bytes n fl offered room (due.ReadAway c) End few may = omega arith
few_bytes n fl offered room (due.Connect c to) NotYet few may = omega arith
few_bytes n fl offered room (due.Accept c port) NotYet few may = omega arith
few_bytes n fl offered room (due.Write c) NotYet few may = omega arith
few_bytes n fl offered room (due.SendTo c port to) NotYet few may = omega arith
few_bytes n fl offered room (due.Shut c) NotYet few may = omega arith
few_bytes n fl offered room (due.Read c) NotYet few may = omega arith
few_bytes n fl offered room (due.ReadAway c) NotYet few may = omega arith
few_bytes n fl offered room (due.RecvFrom c port) NotYet few may = omega arith
few_bytes n fl offered room (due.Connect c to) Failed few may = omega arith
few_bytes n fl offered room (due.Accept c port) Failed few may = omega arith
few_bytes n fl offered room (due.Write c) Failed few may = omega arith
few_bytes n fl offered room (due.SendTo c port to) Failed few may = omega arith
few_bytes n fl offered room (due.Shut c) Failed few may = omega arith
few_bytes n fl offered room (due.Read c) Failed few may = omega arith
few_bytes n fl offered room (due.ReadAway c) Failed few may = omega arith
few_bytes n fl offered room (due.RecvFrom c port) Failed few may = omega arith
few_bytes n fl offered room call answer few may = cc

-- Its bytes have room.
pub call_room : (starts : Starts) (past : Past) (place spare : ℕ) (call : Due) (answer : LinkAnswer) (entry : Entry)
    → may_answer call (offered_length starts past (place / 2)) (room_length starts past (place / 2)) answer ≡ true → entry ≡ entry_by (place / 2) (flight starts past (place / 2)) call answer → 1472 ≤ spare
    → length (entry_data entry) ≤ spare
call_room starts past place spare call answer entry may is room =
    let n = place / 2 in
    let few = few_bytes n (flight starts past n) (offered_length starts past n) (room_length starts past n) call answer (room_small starts past n) may in
    let same = ap (λ (x : Entry). length (entry_data x)) is in
    omega (arith, few, same, room)

-- What chip and history are once an entry was added.
pub record Settled (chip new : Chip) (log after : Log) (entry : Entry) : Type 0 where
  pub stands : Stands (starts_of chip) new (entry ∷ log.past)
  pub starts : starts_of new ≡ starts_of chip
  pub unstopped : stop_kept new ≡ None
  pub past : after.past ≡ entry ∷ log.past
  pub limit : after.limit ≡ log.limit
  pub events : log.spare_events ≤ after.spare_events + 1

pub settled : (chip new : Chip) (log after : Log) (entry : Entry) → ((starts : Starts) (c : Chip) (past : Past) → Stands starts c past → starts_of c ≡ starts) → Stands (starts_of chip) new (entry ∷ log.past)
    → stop_kept new ≡ None → after.past ≡ entry ∷ log.past → after.limit ≡ log.limit → log.spare_events ≤ after.spare_events + 1 → Settled chip new log after entry
settled chip new log after entry are stands unstopped past limit events =
    record { stands = stands; starts = are (starts_of chip) new (entry ∷ log.past) stands; unstopped = unstopped; past = past; limit = limit; events = events }

-- The shared state behind the call is sound.
pub call_sound : {L : Type 0} (effect : L → Call → LinkAnswer → L → Type 0) (shown : L → Shown) (chip new : Chip) (log after : Log) (links newer : L) (calls place : ℕ) (call : Due) (w : Option LinkWhat)
    → Sound shown chip log links calls → Begins (state_of chip log links calls) place call → Here effect shown links (starts_of chip) log.past (place / 2) call w newer
    → Settled chip new log after (entry_for (place / 2) w) → Sound shown new after newer (calls + 1)
call_sound effect shown chip new log after links newer calls place call w held begun made settled =
    let starts = starts_of chip in
    let n = place / 2 in
    let told = told_of starts log.past place call begun.due in
    let counted = held.counted in
    let longer = ap length settled.past in
    record {
      stands = rw (settled.starts, settled.past) settled.stands;
      tied = rw (settled.starts, settled.past, made.entry) (tied_call starts log.past n call made.answer (shown links) (shown newer) held.stands.legal told made.may made.lists held.tied held.ready);
      ready = rw (settled.past, made.entry) (ready_call starts log.past n call made.answer (shown links) (shown newer) told made.may made.lists made.makes held.ready);
      counted = omega (arith, counted, longer);
    }

-- The step is the one that the definition says.
pub call_is : {L : Type 0} (effect : L → Call → LinkAnswer → L → Type 0) (shown : L → Shown) (old : State L) (chip new : Chip) (log after : Log) (links newer : L) (calls place : ℕ) (call : Due)
    (w : Option LinkWhat) (does : LinkDid)
    → state_of chip log links calls ≡ old → Begins (state_of chip log links calls) place call → Here effect shown links (starts_of chip) log.past (place / 2) call w newer
    → Settled chip new log after (entry_for (place / 2) w) → does ≡ did_for place w → Called (Does effect shown) old place does (state_of new after newer (calls + 1))
call_is effect shown old chip new log after links newer calls place call w does view begun made settled did =
    subst (λ (s : State _). Called (Does effect shown) s place does (state_of new after newer (calls + 1))) view (record {
      answer = made.answer;
      effect = rw begun.due made.does;
      may = rw begun.due made.may;
      past = settled.past ∙ ap (λ (e : Entry). e ∷ log.past) (rw begun.due made.entry);
      did = did ∙ made.did place;
      calls = refl;
      limit = settled.limit;
      stopped = settled.unstopped;
      starts = settled.starts;
      events = settled.events;
    })
