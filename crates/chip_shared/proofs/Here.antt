-- What a call made of the links, in the terms of what the chip had in flight and of its room.
use Rattle.std.proofs.Common.{◌≡◌, ◌++◌, ◌∙◌, ℕ, true, List, length, Option, subst, ap}
use Rattle.chip_sheet.specs.declared.event.ConnId.{ConnId}
use Rattle.chip_sheet.specs.declared.event.LinkWhat.{LinkWhat}
use Rattle.chip_sheet.specs.declared.socket.Due.{Due}
use Rattle.chip_sheet.specs.declared.socket.Due.TheVariants as due
use Rattle.chip_sheet.specs.Past.{Past}
use Rattle.chip_sheet.specs.Streams.{Starts}
use Rattle.chip_sheet.specs.Windows.{flight, in_flight, offered, offered_length, room_length}
use Rattle.chip_sheet.specs.LinkAnswers.{LinkAnswer, entry_by, may_answer}
use Rattle.link_trait.specs.declared.links.Reading.{Reading}
use Rattle.link_trait.specs.Calls.{Call, Read, reading, ReadFits}
use Rattle.link_trait.specs.Shown.{Shown, Counts, Lists, Makes}
use Rattle.chip_shared.specs.Calling.{call_of, did_at}
use Rattle.chip_shared.specs.Causes.{Does}
use Rattle.chip_shared.specs.Entries.{entry_for, did_for}
use Rattle.chip_shared.specs.Making.{Made}
use Rattle.chip_shared.proofs.Needs.{flight_long}
use Rattle.chip_shared.proofs.Offers.{first_offered}
use Rattle.chip_shared.proofs.Reading.{read_may}

-- The call with its arguments on socket n.
abbrev pub asked : Starts → Past → ℕ → Due → Call
asked starts past n call = call_of call (offered starts past n) (in_flight starts past n) (room_length starts past n)

pub record Here {L : Type 0} (effect : L → Call → LinkAnswer → L → Type 0) (shown : L → Shown) (old : L) (starts : Starts) (past : Past) (n : ℕ) (call : Due) (what : Option LinkWhat) (new : L) : Type 0 where
  pub answer : LinkAnswer
  pub does : Does effect shown old (asked starts past n call) answer new
  pub lists : Lists (shown old) (asked starts past n call) answer (shown new)
  pub makes : Makes (shown old) (asked starts past n call) answer (shown new)
  pub may : may_answer call (offered_length starts past n) (room_length starts past n) answer ≡ true
  pub entry : entry_for n what ≡ entry_by n (flight starts past n) call answer
  pub did : (place : ℕ) → did_for place what ≡ did_at place answer

-- By the pieces that the chip lends.
pub here : {L : Type 0} (effect : L → Call → LinkAnswer → L → Type 0) (shown : L → Shown) (old : L) (starts : Starts) (past : Past) (n : ℕ) (call : Due) (head tail : List ℕ) (what : Option LinkWhat) (new : L)
    → Made effect shown old call head (head ++ tail) what new → head ++ tail ≡ in_flight starts past n → length head ≡ offered_length starts past n
    → Here effect shown old starts past n call what new
here effect shown old starts past n call head tail what new made all long =
    let first = first_offered starts past n head tail all long in
    let room = room_length starts past n in
    record {
      answer = made.answer;
      does = subst (λ (b : List ℕ). Does effect shown old (call_of call (offered starts past n) b room) made.answer new) all
          (subst (λ (h : List ℕ). Does effect shown old (call_of call h (head ++ tail) room) made.answer new) first (made.does room));
      lists = subst (λ (b : List ℕ). Lists (shown old) (call_of call (offered starts past n) b room) made.answer (shown new)) all
          (subst (λ (h : List ℕ). Lists (shown old) (call_of call h (head ++ tail) room) made.answer (shown new)) first (made.lists room));
      makes = subst (λ (b : List ℕ). Makes (shown old) (call_of call (offered starts past n) b room) made.answer (shown new)) all
          (subst (λ (h : List ℕ). Makes (shown old) (call_of call h (head ++ tail) room) made.answer (shown new)) first (made.makes room));
      may = subst (λ (k : ℕ). may_answer call k room made.answer ≡ true) long (made.may room);
      entry = made.entry n ∙ ap (λ (k : ℕ). entry_by n k call made.answer) (ap length all ∙ flight_long starts past n);
      did = made.did;
    }

-- A read made these of the links, into so many bytes.
pub record Took {L : Type 0} (effect : L → Call → LinkAnswer → L → Type 0) (shown : L → Shown) (old : L) (c : ConnId) (many : ℕ) (answer : LinkAnswer) (new : L) : Type 0 where
  pub so : effect old (Read c many) answer new
  pub counts : Counts (shown old) (Read c many) answer (shown new)
  pub lists : Lists (shown old) (Read c many) answer (shown new)
  pub makes : Makes (shown old) (Read c many) answer (shown new)

-- By the room that the chip lends.
pub here_read : {L : Type 0} (effect : L → Call → LinkAnswer → L → Type 0) (shown : L → Shown) (old : L) (starts : Starts) (past : Past) (n : ℕ) (c : ConnId) (many : ℕ) (answer : Reading) (bytes : List ℕ) (what : Option LinkWhat) (new : L)
    → Took effect shown old c many (reading answer bytes) new → ReadFits answer bytes → length bytes ≡ many → many ≡ room_length starts past n
    → entry_for n what ≡ entry_by n (flight starts past n) (due.Read c) (reading answer bytes) → ((place : ℕ) → did_for place what ≡ did_at place (reading answer bytes))
    → Here effect shown old starts past n (due.Read c) what new
here_read effect shown old starts past n c many answer bytes what new took fits long room entry did = record {
  answer = reading answer bytes;
  does = subst (λ (k : ℕ). Does effect shown old (Read c k) (reading answer bytes) new) room (record { so = took.so; counts = took.counts });
  lists = subst (λ (k : ℕ). Lists (shown old) (Read c k) (reading answer bytes) (shown new)) room took.lists;
  makes = subst (λ (k : ℕ). Makes (shown old) (Read c k) (reading answer bytes) (shown new)) room took.makes;
  may = read_may c (offered_length starts past n) (room_length starts past n) answer bytes fits (long ∙ room);
  entry = entry;
  did = did;
}
