-- Links that agree with a history and are ready for it, and one call that is due: they agree with the history and the entry that the
-- call brings, and are ready for that one.
use Rattle.std.proofs.Common.{◌≡◌, ◌<◌, ℕ, ◌+◌, Bool, true, false, ◌&&◌, ◌||◌, cond, eqb, List, [], ◌∷◌, ◌++◌, append-nil, length, take, Option, Some, inl, inr, refl, sym, ap, ◌∙◌, subst, arith, ◌⊎◌}
use Rattle.std.proofs.lemmas.Bool.{eqb-true, false≢true}
use Rattle.chip_sheet.specs.declared.event.Addr.{Addr}
use Rattle.chip_sheet.specs.declared.event.ConnId.{ConnId}
use Rattle.chip_sheet.specs.declared.event.Entry.{Entry}
use Rattle.chip_sheet.specs.declared.event.Entry.TheVariants.{Bus, Link, Rest}
use Rattle.chip_sheet.specs.declared.event.LinkEntry.{LinkEntry}
use Rattle.chip_sheet.specs.declared.event.LinkEntry.TheVariants as what
use Rattle.chip_sheet.specs.declared.socket.Status.{Status}
use Rattle.chip_sheet.specs.declared.socket.Due.{Due}
use Rattle.chip_sheet.specs.declared.socket.Due.TheVariants as due
use Rattle.chip_sheet.specs.Past.{Past}
use Rattle.chip_sheet.specs.Life.{status, lives, old}
use Rattle.chip_sheet.specs.Streams.{Starts, is_of, is_made, makes, sent, taken, taken_by, supplied, bytes_of, destinations}
use Rattle.chip_sheet.specs.Windows.{flight, in_flight, offered, offered_length, room_length}
use Rattle.chip_sheet.specs.Connections.{is_dropped, is_carried, is_drop, is_life, carries}
use Rattle.chip_sheet.specs.LinkCalls.{connection, kept_address}
use Rattle.chip_sheet.specs.LinkAnswers.{LinkAnswer, Done, DoneFrom, DoneWith, DoneBytes, DoneDatagram, NotYet, Refused, TimedOut, End, Failed, entry_by, may_answer}
use Rattle.chip_sheet.specs.Legal.{Legal}
use Rattle.chip_sheet.proofs.Within.{both_same}
use Rattle.link_trait.specs.Calls.{Call, is_on, same}
use Rattle.link_trait.specs.Shown.{Shown, Lists, Makes, IsBlank, gives, gets, addresses, moves, ends}
use Rattle.link_trait.specs.Shown as shows
use Rattle.chip_shared.specs.Tied.{Tied, Ready, takes, times_taken}
use Rattle.chip_shared.specs.Calling.{call_of}
use Rattle.chip_shared.proofs.DueFacts.{Says}
use Rattle.chip_shared.proofs.CallTies.{At, at_call, at_other}

-- Of a connection that carried nothing nothing was taken or supplied.
record Blank (past : Past) (n life : ℕ) : Type 0 where
  taken : taken past n life ≡ 0
  supplied : supplied past n life ≡ []
  times : times_taken past n life ≡ 0

carries_nothing : (w : LinkEntry) → carries w ≡ false → (taken_by w ≡ 0) × ((bytes_of w ≡ []) × (takes w ≡ 0))
carries_nothing (what.Took k) h = cc
carries_nothing (what.Got bytes) h = cc
carries_nothing (what.Datagram from body) h = cc
carries_nothing w h = (refl, (refl, refl))

neither : (a b : Bool) → (a || b) ≡ false → (a ≡ false) × (b ≡ false)
neither true b h = cc
neither false b h = (refl, h)

blank_link : (b : Bool) (w : LinkEntry) (t u : ℕ) (s : List ℕ) → (carries w && b) ≡ false → t ≡ 0 → s ≡ [] → u ≡ 0
    → (cond b (t + taken_by w) t ≡ 0) × ((cond b (s ++ bytes_of w) s ≡ []) × (cond b (u + takes w) u ≡ 0))
blank_link true w t u s h e f g =
    let none = carries_nothing w (no_more (carries w) h) in
    let first = none.0 in
    let last = none.1.1 in
    (omega (arith, first, e), (ap (λ (x : List ℕ). x ++ bytes_of w) f ∙ none.1.0, omega (arith, last, g)))
  where
    no_more : (a : Bool) → (a && true) ≡ false → a ≡ false
    no_more true h = cc
    no_more false h = refl
blank_link false w t u s h e f g = (e, (f, g))

blank : (past : Past) (n life : ℕ) → is_carried past n life ≡ false → Blank past n life
blank [] n life h = record { taken = refl; supplied = refl; times = refl }
blank (Bus e a ∷ past) n life h = let it = blank past n life h in record { taken = it.taken; supplied = it.supplied; times = it.times }
blank (Rest ∷ past) n life h = let it = blank past n life h in record { taken = it.taken; supplied = it.supplied; times = it.times }
blank (Link m w ∷ past) n life h =
    let parts = neither (carries w && is_of past m n life) (is_carried past n life) h in
    let it = blank past n life parts.1 in
    let now = blank_link (is_of past m n life) w (taken past n life) (times_taken past n life) (supplied past n life) parts.0 it.taken it.supplied it.times in
    record { taken = now.0; supplied = now.1.0; times = now.1.1 }

-- What held of a connection before a call after which it is told.
before : (starts : Starts) (past : Past) (shown : Shown) (c : ConnId) → c.sn < 8 → Tied starts past shown → Ready past shown
    → (shown.told c ≡ true) ⊎ ((shown.quiet c ≡ true) × IsBlank shown c) → At starts past c.sn c.life (shown.given c) (shown.fed c) (shown.dests c)
before starts past shown c few tied ready (inl told) = record { sent = tied.given c few told; got = tied.fed c few told; to = tied.dests c few told; one_each = tied.one_each c few told }
before starts past shown c few tied ready (inr (quiet, lists)) =
    let none = blank past c.sn c.life (ready.quiet c few quiet) in
    record {
      sent = lists.given ∙ sym (ap (λ (k : ℕ). take k (sent starts past c.sn c.life)) none.taken);
      got = lists.fed ∙ sym none.supplied;
      to = (destinations starts past c.sn c.life, sym (ap (λ (d : List Addr). d ++ destinations starts past c.sn c.life) lists.dests));
      one_each = λ made. ap length lists.dests ∙ sym none.times;
    }

-- Whether a connection is the present one of a socket.
same_of : (past : Past) (n : ℕ) (c : ConnId) → same (connection n (lives past n)) c ≡ is_of past n c.sn c.life
same_of past n c = by (eqb n c.sn) refl
  where
    by : (b : Bool) → eqb n c.sn ≡ b → (eqb n c.sn && eqb (lives past n) c.life) ≡ (eqb n c.sn && eqb (lives past c.sn) c.life)
    by true e = ap (λ (k : ℕ). eqb n c.sn && eqb (lives past k) c.life) (eqb-true n c.sn e)
    by false e = rw e refl

-- A call that is due is made on the present connection, or it is a drop, which moves nothing.
on_of : (past : Past) (n fl : ℕ) (at : Status) (to : Addr) (o : Option ℕ) (call : Due) (offered all : List ℕ) (many room : ℕ) (answer : LinkAnswer) (c : ConnId)
    → Says at (connection n (lives past n)) to fl o call → may_answer call many room answer ≡ true
    → (is_on (call_of call offered all room) c ≡ is_of past n c.sn c.life)
    ⊎ ((gives (call_of call offered all room) answer ≡ []) × ((gets answer ≡ []) × (addresses (call_of call offered all room) answer ≡ [])))
on_of past n fl at to o due.Nothing offered all many room answer c says may = cc
on_of past n fl at to o (due.Drop d) offered all many room Done c says may = inr (refl, (refl, refl))
on_of past n fl at to o (due.Drop d) offered all many room answer c says may = cc
on_of past n fl at to o (due.Connect d a) offered all many room answer c says may = inl (rw says (same_of past n c))
on_of past n fl at to o (due.Write d) offered all many room answer c says may = inl (rw says.0 (same_of past n c))
on_of past n fl at to o (due.SendTo d port a) offered all many room answer c says may = inl (rw says.0 (same_of past n c))
on_of past n fl at to o (due.Shut d) offered all many room answer c says may = inl (rw says (same_of past n c))
on_of past n fl at to o (due.Accept d port) offered all many room answer c says may = inl (rw says (same_of past n c))
on_of past n fl at to o (due.Read d) offered all many room answer c says may = inl (rw says.0 (same_of past n c))
on_of past n fl at to o (due.ReadAway d) offered all many room answer c says may = inl (rw says.0 (same_of past n c))
on_of past n fl at to o (due.RecvFrom d port) offered all many room answer c says may = inl (rw says.0 (same_of past n c))

added_where : {A : Type 0} (on b : Bool) (more : List A) → (on ≡ b) ⊎ (more ≡ []) → cond on more [] ≡ cond b more []
added_where on b more (inl e) = ap (λ (x : Bool). cond x more []) e
added_where on b more (inr e) = rw e (both on ∙ sym (both b))
  where
    both : {A : Type 0} (x : Bool) → cond {A = List A} x [] [] ≡ []
    both true = refl
    both false = refl

-- What the entry of a call is for a connection.
record Brings (past : Past) (n : ℕ) (call : Call) (answer : LinkAnswer) (c : ConnId) (entry : Entry) : Type 0 where
  other : (starts : Starts) (given fed : List ℕ) (dests : List Addr) → is_of past n c.sn c.life ≡ false → At starts past c.sn c.life given fed dests → At starts (entry ∷ past) c.sn c.life given fed dests
  made : is_made (entry ∷ past) c.sn c.life ≡ true → (shows.makes call answer c ≡ true) ⊎ (is_made past c.sn c.life ≡ true)
  dropped : is_dropped (entry ∷ past) c.sn c.life ≡ false → (is_dropped past c.sn c.life ≡ false) × (ends call c ≡ false)
  carried : is_carried (entry ∷ past) c.sn c.life ≡ true → (is_carried past c.sn c.life ≡ true) ⊎ ((is_on call c && moves call answer) ≡ true)

rest_brings : (past : Past) (n : ℕ) (call : Call) (answer : LinkAnswer) (c : ConnId) → ends call c ≡ false → Brings past n call answer c Rest
rest_brings past n call answer c on = record {
  other = λ starts given fed dests not_of it. record { sent = it.sent; got = it.got; to = it.to; one_each = it.one_each };
  made = λ h. inr h;
  dropped = λ h. (h, on);
  carried = λ h. inl h;
}

was : (a b before : Bool) → a ≡ false → (a && b || before) ≡ true → before ≡ true
was true b before e h = cc
was false b before e h = h

was_not : (a b before : Bool) → (a && b || before) ≡ false → before ≡ false
was_not true true before h = cc
was_not true false before h = h
was_not false b before h = h

either : (a b before : Bool) → (a && b || before) ≡ true → (before ≡ true) ⊎ (b ≡ true)
either true true before h = inr refl
either true false before h = inl h
either false b before h = inl h

plain_brings : (past : Past) (n : ℕ) (call : Call) (answer : LinkAnswer) (c : ConnId) (w : LinkEntry) → makes w ≡ false → carries w ≡ false → ends call c ≡ false → Brings past n call answer c (Link n w)
plain_brings past n call answer c w not_made none on = record {
  other = λ starts given fed dests not_of it. at_other starts past n w c.sn c.life given fed dests not_of it;
  made = λ h. inr (was (makes w) (is_of past n c.sn c.life) (is_made past c.sn c.life) not_made h);
  dropped = λ h. ((neither (is_drop w && eqb n c.sn && is_life c.life (old past c.sn)) (is_dropped past c.sn c.life) h).1, on);
  carried = λ h. inl (was (carries w) (is_of past n c.sn c.life) (is_carried past c.sn c.life) none h);
}

makes_brings : (past : Past) (n : ℕ) (call : Call) (answer : LinkAnswer) (c : ConnId) (w : LinkEntry) → carries w ≡ false → ends call c ≡ false → shows.makes call answer c ≡ is_of past n c.sn c.life → Brings past n call answer c (Link n w)
makes_brings past n call answer c w none on makes_it = record {
  other = λ starts given fed dests not_of it. at_other starts past n w c.sn c.life given fed dests not_of it;
  made = λ h. elim (either (makes w) (is_of past n c.sn c.life) (is_made past c.sn c.life) h) [ inl then ↦ inr then | inr now ↦ inl (makes_it ∙ now) ];
  dropped = λ h. ((neither (is_drop w && eqb n c.sn && is_life c.life (old past c.sn)) (is_dropped past c.sn c.life) h).1, on);
  carried = λ h. inl (was (carries w) (is_of past n c.sn c.life) (is_carried past c.sn c.life) none h);
}

moves_brings : (past : Past) (n : ℕ) (call : Call) (answer : LinkAnswer) (c : ConnId) (w : LinkEntry) → makes w ≡ false → ends call c ≡ false → (is_on call c && moves call answer) ≡ is_of past n c.sn c.life
    → Brings past n call answer c (Link n w)
moves_brings past n call answer c w not_made on moves_it = record {
  other = λ starts given fed dests not_of it. at_other starts past n w c.sn c.life given fed dests not_of it;
  made = λ h. inr (was (makes w) (is_of past n c.sn c.life) (is_made past c.sn c.life) not_made h);
  dropped = λ h. ((neither (is_drop w && eqb n c.sn && is_life c.life (old past c.sn)) (is_dropped past c.sn c.life) h).1, on);
  carried = λ h. elim (either (carries w) (is_of past n c.sn c.life) (is_carried past c.sn c.life) h) [ inl then ↦ inl then | inr now ↦ inr (moves_it ∙ now) ];
}

-- A drop of the life that is still to be forgotten.
drop_brings : (past : Past) (n : ℕ) (d c : ConnId) (answer : LinkAnswer) → d.sn ≡ n → old past n ≡ Some d.life
    → Brings past n (call_of (due.Drop d) [] [] 0) answer c (Link n what.Dropped)
drop_brings past n d c answer sn life_is = record {
  other = λ starts given fed dests not_of it. at_other starts past n what.Dropped c.sn c.life given fed dests not_of it;
  made = λ h. inr h;
  dropped = λ h. (was_not true (eqb n c.sn && is_life c.life (old past c.sn)) (is_dropped past c.sn c.life) h, kept (eqb n c.sn) refl h);
  carried = λ h. inl h;
}
  where
    kept : (b : Bool) → eqb n c.sn ≡ b → (eqb n c.sn && is_life c.life (old past c.sn) || is_dropped past c.sn c.life) ≡ false → (eqb d.sn c.sn && eqb d.life c.life) ≡ false
    kept true e h =
        let here : eqb n c.sn ≡ true = e in
        let is : n ≡ c.sn = eqb-true n c.sn e in
        let life_here : is_life c.life (old past c.sn) ≡ eqb d.life c.life = ap (λ (k : ℕ). is_life c.life (old past k)) (sym is) ∙ ap (is_life c.life) life_is in
        let no : (eqb n c.sn && is_life c.life (old past c.sn)) ≡ false = (neither (eqb n c.sn && is_life c.life (old past c.sn)) (is_dropped past c.sn c.life) h).0 in
        ap (λ (k : ℕ). eqb k c.sn && eqb d.life c.life) sn ∙ ap (λ (b : Bool). eqb n c.sn && b) (sym life_here) ∙ no
    kept false e h = ap (λ (k : ℕ). eqb k c.sn && eqb d.life c.life) sn ∙ ap (λ (b : Bool). b && eqb d.life c.life) e

and_true : (b : Bool) → (b && true) ≡ b
and_true true = refl
and_true false = refl

-- What each call with an answer that may come brings.
brings : (past : Past) (n fl : ℕ) (to : Addr) (call : Due) (offered all : List ℕ) (many room : ℕ) (answer : LinkAnswer) (c : ConnId)
    → Says (status past n) (connection n (lives past n)) to fl (old past n) call → may_answer call many room answer ≡ true
    → Brings past n (call_of call offered all room) answer c (entry_by n fl call answer)
brings past n fl to due.Nothing offered all many room answer c says may = cc
brings past n fl to (due.Drop d) offered all many room Done c says may = drop_brings past n d c Done says.0 says.1
brings past n fl to (due.Drop d) offered all many room answer c says may = cc
brings past n fl to (due.Connect d a) offered all many room Done c says may = makes_brings past n _ Done c what.Linked refl refl (rw says (same_of past n c))
brings past n fl to (due.Connect d a) offered all many room Refused c says may = plain_brings past n _ Refused c what.Refused refl refl refl
brings past n fl to (due.Connect d a) offered all many room TimedOut c says may = plain_brings past n _ TimedOut c what.TimedOut refl refl refl
brings past n fl to (due.Connect d a) offered all many room Failed c says may = plain_brings past n _ Failed c what.Failed refl refl refl
brings past n fl to (due.Connect d a) offered all many room NotYet c says may = rest_brings past n _ NotYet c refl
brings past n fl to (due.Connect d a) offered all many room answer c says may = cc
brings past n fl to (due.Accept d port) offered all many room (DoneFrom from) c says may = makes_brings past n _ (DoneFrom from) c (what.Accepted from) refl refl (rw says (same_of past n c))
brings past n fl to (due.Accept d port) offered all many room Failed c says may = plain_brings past n _ Failed c what.Failed refl refl refl
brings past n fl to (due.Accept d port) offered all many room NotYet c says may = rest_brings past n _ NotYet c refl
brings past n fl to (due.Accept d port) offered all many room answer c says may = cc
brings past n fl to (due.Write d) offered all many room (DoneWith k) c says may = moves_brings past n _ (DoneWith k) c (what.Took k) refl refl (and_true _ ∙ rw says.0 (same_of past n c))
brings past n fl to (due.Write d) offered all many room Failed c says may = plain_brings past n _ Failed c what.Failed refl refl refl
brings past n fl to (due.Write d) offered all many room NotYet c says may = rest_brings past n _ NotYet c refl
brings past n fl to (due.Write d) offered all many room answer c says may = cc
brings past n fl to (due.SendTo d port a) offered all many room Done c says may = moves_brings past n _ Done c (what.Took fl) refl refl (and_true _ ∙ rw says.0 (same_of past n c))
brings past n fl to (due.SendTo d port a) offered all many room Failed c says may = plain_brings past n _ Failed c what.Failed refl refl refl
brings past n fl to (due.SendTo d port a) offered all many room NotYet c says may = rest_brings past n _ NotYet c refl
brings past n fl to (due.SendTo d port a) offered all many room answer c says may = cc
brings past n fl to (due.Shut d) offered all many room Done c says may = plain_brings past n _ Done c what.Shut refl refl refl
brings past n fl to (due.Shut d) offered all many room Failed c says may = plain_brings past n _ Failed c what.Failed refl refl refl
brings past n fl to (due.Shut d) offered all many room NotYet c says may = rest_brings past n _ NotYet c refl
brings past n fl to (due.Shut d) offered all many room answer c says may = cc
brings past n fl to (due.Read d) offered all many room (DoneBytes bytes) c says may = moves_brings past n _ (DoneBytes bytes) c (what.Got bytes) refl refl (and_true _ ∙ rw says.0 (same_of past n c))
brings past n fl to (due.Read d) offered all many room End c says may = plain_brings past n _ End c what.Ended refl refl refl
brings past n fl to (due.Read d) offered all many room Failed c says may = plain_brings past n _ Failed c what.Failed refl refl refl
brings past n fl to (due.Read d) offered all many room NotYet c says may = rest_brings past n _ NotYet c refl
brings past n fl to (due.Read d) offered all many room answer c says may = cc
brings past n fl to (due.ReadAway d) offered all many room (DoneBytes bytes) c says may = moves_brings past n _ (DoneBytes bytes) c (what.Got bytes) refl refl (and_true _ ∙ rw says.0 (same_of past n c))
brings past n fl to (due.ReadAway d) offered all many room End c says may = plain_brings past n _ End c what.Ended refl refl refl
brings past n fl to (due.ReadAway d) offered all many room Failed c says may = plain_brings past n _ Failed c what.Failed refl refl refl
brings past n fl to (due.ReadAway d) offered all many room NotYet c says may = rest_brings past n _ NotYet c refl
brings past n fl to (due.ReadAway d) offered all many room answer c says may = cc
brings past n fl to (due.RecvFrom d port) offered all many room (DoneDatagram from body) c says may = moves_brings past n _ (DoneDatagram from body) c (what.Datagram from body) refl refl (and_true _ ∙ rw says.0 (same_of past n c))
brings past n fl to (due.RecvFrom d port) offered all many room Failed c says may = plain_brings past n _ Failed c what.Failed refl refl refl
brings past n fl to (due.RecvFrom d port) offered all many room NotYet c says may = rest_brings past n _ NotYet c refl
brings past n fl to (due.RecvFrom d port) offered all many room answer c says may = cc

-- One connection after a call.
at_after : (starts : Starts) (past : Past) (n : ℕ) (call : Due) (answer : LinkAnswer) (c : ConnId) (given fed : List ℕ) (dests : List Addr) (b : Bool) → is_of past n c.sn c.life ≡ b → Legal starts past
    → Says (status past n) (connection n (lives past n)) (kept_address past n) (flight starts past n) (old past n) call
    → may_answer call (offered_length starts past n) (room_length starts past n) answer ≡ true → At starts past c.sn c.life given fed dests
    → At starts (entry_by n (flight starts past n) call answer ∷ past) c.sn c.life
    (given ++ cond b (gives (call_of call (offered starts past n) (in_flight starts past n) (room_length starts past n)) answer) []) (fed ++ cond b (gets answer) [])
    (dests ++ cond b (addresses (call_of call (offered starts past n) (in_flight starts past n) (room_length starts past n)) answer) [])
at_after starts past n call answer c given fed dests true is legal says may it =
    let parts = both_same n c.sn (lives past c.sn) c.life is in
    let mine = subst (λ (k : ℕ). At starts past k c.life given fed dests) (sym parts.0) it in
    let life_is : c.life ≡ lives past n = sym parts.1 ∙ ap (lives past) (sym parts.0) in
    let own = subst (λ (l : ℕ). At starts past n l given fed dests) life_is mine in
    let done = at_call starts past n call answer given fed dests legal says may own in
    let entry = entry_by n (flight starts past n) call answer in
    let k = call_of call (offered starts past n) (in_flight starts past n) (room_length starts past n) in
    subst (λ (m : ℕ). At starts (entry ∷ past) m c.life (given ++ gives k answer) (fed ++ gets answer) (dests ++ addresses k answer)) parts.0
    (subst (λ (l : ℕ). At starts (entry ∷ past) n l (given ++ gives k answer) (fed ++ gets answer) (dests ++ addresses k answer)) (sym life_is) done)
at_after starts past n call answer c given fed dests false is legal says may it =
    let k = brings past n (flight starts past n) (kept_address past n) call (offered starts past n) (in_flight starts past n) (offered_length starts past n) (room_length starts past n) answer c says may in
    rw (append-nil given, append-nil fed, append-nil dests) (k.other starts given fed dests is it)

-- Links and history after a call that was due.
pub tied_call : (starts : Starts) (past : Past) (n : ℕ) (call : Due) (answer : LinkAnswer) (shown new : Shown) → Legal starts past
    → Says (status past n) (connection n (lives past n)) (kept_address past n) (flight starts past n) (old past n) call
    → may_answer call (offered_length starts past n) (room_length starts past n) answer ≡ true
    → Lists shown (call_of call (offered starts past n) (in_flight starts past n) (room_length starts past n)) answer new → Tied starts past shown → Ready past shown
    → Tied starts (entry_by n (flight starts past n) call answer ∷ past) new
tied_call starts past n call answer shown new legal says may lists tied ready = record {
  given = λ c few told. (after c few told).sent;
  fed = λ c few told. (after c few told).got;
  dests = λ c few told. (after c few told).to;
  one_each = λ c few told. (after c few told).one_each;
}
  where
    first : {P A B C : Type 0} → P ⊎ (A × (B × C)) → P ⊎ A
    first (inl p) = inl p
    first (inr q) = inr q.0

    second : {P A B C : Type 0} → P ⊎ (A × (B × C)) → P ⊎ B
    second (inl p) = inl p
    second (inr q) = inr q.1.0

    third : {P A B C : Type 0} → P ⊎ (A × (B × C)) → P ⊎ C
    third (inl p) = inl p
    third (inr q) = inr q.1.1

    after : (c : ConnId) → c.sn < 8 → new.told c ≡ true → At starts (entry_by n (flight starts past n) call answer ∷ past) c.sn c.life (new.given c) (new.fed c) (new.dests c)
    after c few told =
        let was_it = before starts past shown c few tied ready (lists.newly c told) in
        let k = call_of call (offered starts past n) (in_flight starts past n) (room_length starts past n) in
        let b = is_of past n c.sn c.life in
        let on = on_of past n (flight starts past n) (status past n) (kept_address past n) (old past n) call (offered starts past n) (in_flight starts past n) (offered_length starts past n) (room_length starts past n) answer c says may in
        let now = at_after starts past n call answer c (shown.given c) (shown.fed c) (shown.dests c) b refl legal says may was_it in
        rw (
          lists.given c told,
          lists.fed c told,
          lists.dests c told,
          added_where (is_on k c) b (gives k answer) (first on),
          added_where (is_on k c) b (gets answer) (second on),
          added_where (is_on k c) b (addresses k answer) (third on),
        ) now

pub ready_call : (starts : Starts) (past : Past) (n : ℕ) (call : Due) (answer : LinkAnswer) (shown new : Shown)
    → Says (status past n) (connection n (lives past n)) (kept_address past n) (flight starts past n) (old past n) call
    → may_answer call (offered_length starts past n) (room_length starts past n) answer ≡ true
    → Lists shown (call_of call (offered starts past n) (in_flight starts past n) (room_length starts past n)) answer new
    → Makes shown (call_of call (offered starts past n) (in_flight starts past n) (room_length starts past n)) answer new → Ready past shown
    → Ready (entry_by n (flight starts past n) call answer ∷ past) new
ready_call starts past n call answer shown new says may lists makes_ ready = record {
  made = λ c few made not_dropped.
      let it = facts c in
      let kept = it.dropped not_dropped in
      elim (it.made made) [
        | inl now ↦ makes_.made c now
        | inr then ↦ makes_.stays c (ready.made c few then kept.0) kept.1
      ];
  quiet = λ c few still.
      let it = facts c in
      let was_so = lists.quiet c still in
      none (is_carried (entry_by n (flight starts past n) call answer ∷ past) c.sn c.life) (λ h.
      elim (it.carried h) [
        | inl then ↦ absurd (false≢true (sym (ready.quiet c few was_so.0) ∙ then))
        | inr now ↦ absurd (false≢true (sym was_so.1 ∙ now))
      ]);
}
  where
    facts : (c : ConnId) → Brings past n (call_of call (offered starts past n) (in_flight starts past n) (room_length starts past n)) answer c (entry_by n (flight starts past n) call answer)
    facts c = brings past n (flight starts past n) (kept_address past n) call (offered starts past n) (in_flight starts past n) (offered_length starts past n) (room_length starts past n) answer c says may

    none : (b : Bool) → (b ≡ true → ⊥) → b ≡ false
    none true h = absurd (h refl)
    none false h = refl
