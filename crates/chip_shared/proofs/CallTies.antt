-- What ties links to a history holds with the entry that a call brings.
use Rattle.std.proofs.Common.{◌≡◌, ◌≤◌, ◌<◌, ℕ, ◌+◌, ◌-◌, Bool, true, false, ◌&&◌, ◌||◌, eqb, leb, List, [], ◌∷◌, ◌++◌, append-nil, length, length-append, take, drop, refl, sym, ap, ◌∙◌, arith}
use Rattle.std.proofs.lemmas.List.{take-append-drop}
use Rattle.std.proofs.lemmas.Bool.{cond-true, cond-false, eq-eqb, and_parts, leb-true, false≢true}
use Rattle.chip_sheet.specs.declared.event.Addr.{Addr}
use Rattle.chip_sheet.specs.declared.event.Entry.TheVariants.{Link, Rest}
use Rattle.chip_sheet.specs.declared.event.LinkEntry.{LinkEntry}
use Rattle.chip_sheet.specs.declared.event.LinkEntry.TheVariants as what
use Rattle.chip_sheet.specs.declared.socket.Status.{Status}
use Rattle.chip_sheet.specs.declared.socket.Status.TheVariants.{Udp}
use Rattle.chip_sheet.specs.declared.socket.Due.{Due}
use Rattle.chip_sheet.specs.declared.socket.Due.TheVariants as due
use Rattle.chip_sheet.specs.Past.{Past}
use Rattle.chip_sheet.specs.Life.{life, is_udp, cause, status, lives, old}
use Rattle.chip_sheet.specs.Streams.{Starts, is_of, is_made, makes, is_open, sent, taken, taken_by, supplied, bytes_of, destinations}
use Rattle.chip_sheet.specs.Windows.{flight, in_flight, offered, offered_length, room_length}
use Rattle.chip_sheet.specs.LinkCalls.{connection, kept_address}
use Rattle.chip_sheet.specs.LinkAnswers.{LinkAnswer, Done, DoneFrom, DoneWith, DoneBytes, DoneDatagram, NotYet, Refused, TimedOut, End, Failed, entry_by, may_answer}
use Rattle.chip_sheet.specs.Legal.{Legal}
use Rattle.chip_sheet.proofs.SentLaws.{sent_same}
use Rattle.chip_sheet.proofs.Within.{taken_within}
use Rattle.chip_sheet.proofs.AnswerLaws.{given_goes_on}
use Rattle.chip_sheet.proofs.MadeLaws.{udp_not_made, open_made}
use Rattle.link_trait.specs.Shown.{gives, gets, addresses}
use Rattle.chip_shared.specs.Tied.{takes, times_taken}
use Rattle.chip_shared.specs.Calling.{call_of}
use Rattle.chip_shared.proofs.DueFacts.{Says}
use Rattle.chip_shared.proofs.Destination.{no_link_sends, destinations_same, addressed, udp_open}
use Rattle.chip_shared.proofs.Datagrams.{counted}

-- The lists of one connection agree with a history.
pub record At (starts : Starts) (past : Past) (n life : ℕ) (given fed : List ℕ) (dests : List Addr) : Type 0 where
  pub sent : given ≡ take (taken past n life) (sent starts past n life)
  pub got : fed ≡ supplied past n life
  pub to : (more : List Addr) × (destinations starts past n life ≡ dests ++ more)
  pub one_each : is_made past n life ≡ false → length dests ≡ times_taken past n life

-- No link event sends, so what was sent and where to stays.
link_sent : (starts : Starts) (past : Past) (m : ℕ) (w : LinkEntry) (n life : ℕ) → sent starts (Link m w ∷ past) n life ≡ sent starts past n life
link_sent starts past m w n life = sent_same starts past (Link m w) n life (no_link_sends (eqb m n) w)

link_to : (starts : Starts) (past : Past) (m : ℕ) (w : LinkEntry) (n life : ℕ) → destinations starts (Link m w ∷ past) n life ≡ destinations starts past n life
link_to starts past m w n life = destinations_same starts past n life (cause past n (Link m w)) (destinations starts past n life) (no_link_sends (eqb m n) w)

not_made_before : (makes_it of_it before : Bool) → (makes_it && of_it || before) ≡ false → before ≡ false
not_made_before true true before h = cc
not_made_before true false before h = h
not_made_before false of_it before h = h

-- An entry of another connection.
pub at_other : (starts : Starts) (past : Past) (m : ℕ) (w : LinkEntry) (n life : ℕ) (given fed : List ℕ) (dests : List Addr) → is_of past m n life ≡ false
    → At starts past n life given fed dests → At starts (Link m w ∷ past) n life given fed dests
at_other starts past m w n life given fed dests other it = record {
  sent = it.sent ∙ ap (λ (k : ℕ). take k (sent starts past n life)) (sym (cond-false (is_of past m n life) (taken past n life + taken_by w) (taken past n life) other))
      ∙ ap (take (taken (Link m w ∷ past) n life)) (sym (link_sent starts past m w n life));
  got = it.got ∙ sym (cond-false (is_of past m n life) (supplied past n life ++ bytes_of w) (supplied past n life) other);
  to = (it.to.0, link_to starts past m w n life ∙ it.to.1);
  one_each = λ made. it.one_each (not_made_before (makes w) (is_of past m n life) (is_made past n life) made)
      ∙ sym (cond-false (is_of past m n life) (times_taken past n life + takes w) (times_taken past n life) other);
}

own_is : (past : Past) (n : ℕ) → is_of past n n (lives past n) ≡ true
own_is past n = ap (λ (b : Bool). b && eqb (lives past n) (lives past n)) (eq-eqb n n refl) ∙ eq-eqb (lives past n) (lives past n) refl

-- An entry of the present connection of a socket, with what its call gave, got and sent to.
at_own : (starts : Starts) (past : Past) (n : ℕ) (w : LinkEntry) (given fed more : List ℕ) (dests to : List Addr)
    → take (taken past n (lives past n) + taken_by w) (sent starts past n (lives past n)) ≡ take (taken past n (lives past n)) (sent starts past n (lives past n)) ++ more
    → (rest : List Addr) × (destinations starts past n (lives past n) ≡ (dests ++ to) ++ rest)
    → (is_made past n (lives past n) ≡ false → length (dests ++ to) ≡ times_taken past n (lives past n) + takes w)
    → At starts past n (lives past n) given fed dests → At starts (Link n w ∷ past) n (lives past n) (given ++ more) (fed ++ bytes_of w) (dests ++ to)
at_own starts past n w given fed more dests to gave sends one it =
    let l = lives past n in
    let is = own_is past n in
    let now = taken (Link n w ∷ past) n l in
    record {
      sent = ap (λ (g : List ℕ). g ++ more) it.sent ∙ sym gave
          ∙ ap (λ (k : ℕ). take k (sent starts past n l)) (sym (cond-true (is_of past n n l) (taken past n l + taken_by w) (taken past n l) is))
          ∙ ap (take now) (sym (link_sent starts past n w n l));
      got = ap (λ (f : List ℕ). f ++ bytes_of w) it.got ∙ sym (cond-true (is_of past n n l) (supplied past n l ++ bytes_of w) (supplied past n l) is);
      to = (sends.0, link_to starts past n w n l ∙ sends.1);
      one_each = λ made. one (not_made_before (makes w) (is_of past n n l) (is_made past n l) made)
          ∙ sym (cond-true (is_of past n n l) (times_taken past n l + takes w) (times_taken past n l) is);
    }

-- The call gave nothing and sent to nowhere.
no_more : (k : ℕ) (s : List ℕ) → take (k + 0) s ≡ take k s ++ []
no_more k s = ap (λ (j : ℕ). take j s) (let e : k + 0 ≡ k = omega arith in e) ∙ sym (append-nil (take k s))

at_plain : (starts : Starts) (past : Past) (n : ℕ) (w : LinkEntry) (given fed : List ℕ) (dests : List Addr) → taken_by w ≡ 0 → takes w ≡ 0
    → At starts past n (lives past n) given fed dests → At starts (Link n w ∷ past) n (lives past n) (given ++ []) (fed ++ bytes_of w) (dests ++ [])
at_plain starts past n w given fed dests none once it =
    let l = lives past n in
    at_own starts past n w given fed [] dests []
    (ap (λ (k : ℕ). take (taken past n l + k) (sent starts past n l)) none ∙ no_more (taken past n l) (sent starts past n l))
    (it.to.0, it.to.1 ∙ ap (λ (d : List Addr). d ++ it.to.0) (sym (append-nil dests)))
    (λ made. let before = it.one_each made in let same = ap length (append-nil dests) in omega (arith, before, same, once))
    it

at_rest : (starts : Starts) (past : Past) (n life : ℕ) (given fed : List ℕ) (dests : List Addr) → At starts past n life given fed dests
    → At starts (Rest ∷ past) n life (given ++ []) (fed ++ []) (dests ++ [])
at_rest starts past n life given fed dests it = rw (append-nil given, append-nil fed, append-nil dests) (record { sent = it.sent; got = it.got; to = it.to; one_each = it.one_each })

-- Bytes of a stream were taken.
at_written : (starts : Starts) (past : Past) (n k : ℕ) (given fed : List ℕ) (dests : List Addr) → is_open (status past n) ≡ true → is_udp (status past n) ≡ false → k ≤ offered_length starts past n
    → At starts past n (lives past n) given fed dests → At starts (Link n (what.Took k) ∷ past) n (lives past n) (given ++ take k (offered starts past n)) (fed ++ []) (dests ++ [])
at_written starts past n k given fed dests on tcp few it =
    at_own starts past n (what.Took k) given fed (take k (offered starts past n)) dests [] (given_goes_on starts past n k on few)
    (it.to.0, it.to.1 ∙ ap (λ (d : List Addr). d ++ it.to.0) (sym (append-nil dests)))
    (λ made. absurd (false≢true (sym made ∙ open_made past n on tcp)))
    it

-- A datagram was taken.
same_front : (a b : List Addr) (more : List Addr) (to : Addr) → a ++ more ≡ b ++ to ∷ [] → length a ≡ length b → a ≡ b
same_front [] [] more to e l = refl
same_front [] (y ∷ b) more to e l = absurd (omega (arith, l))
same_front (x ∷ a) [] more to e l = absurd (omega (arith, l))
same_front (x ∷ a) (y ∷ b) more to e l =
    let first : x ≡ y = cc in
    let rest : a ++ more ≡ b ++ to ∷ [] = cc in
    let long : length a ≡ length b = omega (arith, l) in
    let same = same_front a b more to rest long in
    cc

all_taken : (t : ℕ) (s : List ℕ) → t ≤ length s → take (t + (length s - t)) s ≡ take t s ++ drop t s
all_taken t s few =
    ap (λ (k : ℕ). take k s) (let e : t + (length s - t) ≡ length s = omega (arith, few) in e) ∙ whole s ∙ sym (take-append-drop t s)
  where
    whole : (s : List ℕ) → take (length s) s ≡ s
    whole [] = refl
    whole (x ∷ s) = ap (λ (r : List ℕ). x ∷ r) (whole s)

at_sent : (starts : Starts) (past : Past) (n : ℕ) (to : Addr) (given fed : List ℕ) (dests : List Addr) → Legal starts past → is_udp (status past n) ≡ true → 0 < flight starts past n → to ≡ kept_address past n
    → At starts past n (lives past n) given fed dests → At starts (Link n (what.Took (flight starts past n)) ∷ past) n (lives past n) (given ++ in_flight starts past n) (fed ++ []) (dests ++ to ∷ [])
at_sent starts past n to given fed dests legal udp flies kept it =
    let l = lives past n in
    let s = sent starts past n l in
    let t = taken past n l in
    let on = udp_open (status past n) udp in
    let is : flight starts past n ≡ length s - t = cond-true (is_open (status past n)) (length s - t) 0 on in
    let bytes : in_flight starts past n ≡ drop t s = cond-true (is_open (status past n)) (drop t s) [] on in
    let count = (counted starts past n legal udp).some flies in
    let once = it.one_each (udp_not_made starts past n legal udp) in
    let last = addressed starts past n legal udp flies in
    let long = ap length last.1 ∙ length-append last.0 (kept_address past n ∷ []) in
    let front = same_front dests last.0 it.to.0 (kept_address past n) (sym it.to.1 ∙ last.1) (omega (arith, count, once, long)) in
    at_own starts past n (what.Took (flight starts past n)) given fed (in_flight starts past n) dests (to ∷ [])
    (ap (λ (k : ℕ). take (t + k) s) is ∙ all_taken t s (taken_within starts past n l legal) ∙ ap (λ (b : List ℕ). take t s ++ b) (sym bytes))
    ([], last.1 ∙ ap (λ (d : List Addr). d ++ kept_address past n ∷ []) (sym front) ∙ ap (λ (a : Addr). dests ++ a ∷ []) (sym kept) ∙ sym (append-nil (dests ++ to ∷ [])))
    (λ made. let more = length-append dests (to ∷ []) in omega (arith, more, once))
    it

udp_is : (at : Status) → at ≡ Udp → is_udp at ≡ true
udp_is at is = ap is_udp is

-- The lists of the present connection after any call that may be made on it, with any answer that may come.
pub at_call : (starts : Starts) (past : Past) (n : ℕ) (call : Due) (answer : LinkAnswer) (given fed : List ℕ) (dests : List Addr) → Legal starts past
    → Says (status past n) (connection n (lives past n)) (kept_address past n) (flight starts past n) (old past n) call
    → may_answer call (offered_length starts past n) (room_length starts past n) answer ≡ true → At starts past n (lives past n) given fed dests
    → At starts (entry_by n (flight starts past n) call answer ∷ past) n (lives past n)
    (given ++ gives (call_of call (offered starts past n) (in_flight starts past n) (room_length starts past n)) answer) (fed ++ gets answer)
    (dests ++ addresses (call_of call (offered starts past n) (in_flight starts past n) (room_length starts past n)) answer)
at_call starts past n due.Nothing answer given fed dests legal says may it = cc
at_call starts past n (due.Drop c) Done given fed dests legal says may it = at_plain starts past n what.Dropped given fed dests refl refl it
at_call starts past n (due.Drop c) answer given fed dests legal says may it = cc
at_call starts past n (due.Connect c to) Done given fed dests legal says may it = at_plain starts past n what.Linked given fed dests refl refl it
at_call starts past n (due.Connect c to) Refused given fed dests legal says may it = at_plain starts past n what.Refused given fed dests refl refl it
at_call starts past n (due.Connect c to) TimedOut given fed dests legal says may it = at_plain starts past n what.TimedOut given fed dests refl refl it
at_call starts past n (due.Connect c to) Failed given fed dests legal says may it = at_plain starts past n what.Failed given fed dests refl refl it
at_call starts past n (due.Connect c to) NotYet given fed dests legal says may it = at_rest starts past n (lives past n) given fed dests it
at_call starts past n (due.Connect c to) answer given fed dests legal says may it = cc
at_call starts past n (due.Accept c port) (DoneFrom from) given fed dests legal says may it = at_plain starts past n (what.Accepted from) given fed dests refl refl it
at_call starts past n (due.Accept c port) Failed given fed dests legal says may it = at_plain starts past n what.Failed given fed dests refl refl it
at_call starts past n (due.Accept c port) NotYet given fed dests legal says may it = at_rest starts past n (lives past n) given fed dests it
at_call starts past n (due.Accept c port) answer given fed dests legal says may it = cc
at_call starts past n (due.Write c) (DoneWith k) given fed dests legal says may it =
    at_written starts past n k given fed dests says.1.0 says.1.1.0 (leb-true k (offered_length starts past n) (and_parts (leb 1 k) (leb k (offered_length starts past n)) may).1) it
at_call starts past n (due.Write c) Failed given fed dests legal says may it = at_plain starts past n what.Failed given fed dests refl refl it
at_call starts past n (due.Write c) NotYet given fed dests legal says may it = at_rest starts past n (lives past n) given fed dests it
at_call starts past n (due.Write c) answer given fed dests legal says may it = cc
at_call starts past n (due.SendTo c port to) Done given fed dests legal says may it =
    at_sent starts past n to given fed dests legal (udp_is (status past n) says.1.0) says.1.1.1 says.1.1.0 it
at_call starts past n (due.SendTo c port to) Failed given fed dests legal says may it = at_plain starts past n what.Failed given fed dests refl refl it
at_call starts past n (due.SendTo c port to) NotYet given fed dests legal says may it = at_rest starts past n (lives past n) given fed dests it
at_call starts past n (due.SendTo c port to) answer given fed dests legal says may it = cc
at_call starts past n (due.Shut c) Done given fed dests legal says may it = at_plain starts past n what.Shut given fed dests refl refl it
at_call starts past n (due.Shut c) Failed given fed dests legal says may it = at_plain starts past n what.Failed given fed dests refl refl it
at_call starts past n (due.Shut c) NotYet given fed dests legal says may it = at_rest starts past n (lives past n) given fed dests it
at_call starts past n (due.Shut c) answer given fed dests legal says may it = cc
at_call starts past n (due.Read c) (DoneBytes bytes) given fed dests legal says may it = at_plain starts past n (what.Got bytes) given fed dests refl refl it
at_call starts past n (due.Read c) End given fed dests legal says may it = at_plain starts past n what.Ended given fed dests refl refl it
at_call starts past n (due.Read c) Failed given fed dests legal says may it = at_plain starts past n what.Failed given fed dests refl refl it
at_call starts past n (due.Read c) NotYet given fed dests legal says may it = at_rest starts past n (lives past n) given fed dests it
at_call starts past n (due.Read c) answer given fed dests legal says may it = cc
at_call starts past n (due.ReadAway c) (DoneBytes bytes) given fed dests legal says may it = at_plain starts past n (what.Got bytes) given fed dests refl refl it
at_call starts past n (due.ReadAway c) End given fed dests legal says may it = at_plain starts past n what.Ended given fed dests refl refl it
at_call starts past n (due.ReadAway c) Failed given fed dests legal says may it = at_plain starts past n what.Failed given fed dests refl refl it
at_call starts past n (due.ReadAway c) NotYet given fed dests legal says may it = at_rest starts past n (lives past n) given fed dests it
at_call starts past n (due.ReadAway c) answer given fed dests legal says may it = cc
at_call starts past n (due.RecvFrom c port) (DoneDatagram from body) given fed dests legal says may it = at_plain starts past n (what.Datagram from body) given fed dests refl refl it
at_call starts past n (due.RecvFrom c port) Failed given fed dests legal says may it = at_plain starts past n what.Failed given fed dests refl refl it
at_call starts past n (due.RecvFrom c port) NotYet given fed dests legal says may it = at_rest starts past n (lives past n) given fed dests it
at_call starts past n (due.RecvFrom c port) answer given fed dests legal says may it = cc
