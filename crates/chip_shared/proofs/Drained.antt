-- What the outgoing steps of one socket leave: no byte in flight on it, or a write that stalled; and the other sockets as they were.
use Rattle.std.proofs.Common.{◌≡◌, ◌≤◌, ◌<◌, ℕ, ◌+◌, ◌-◌, ◌*◌, zero, suc, Bool, true, false, cond, eqb, List, ◌∷◌, length, Option, None, Some, Result, Ok, Err, refl, sym, ap, ◌∙◌, subst, arith, ◌⊎◌, inl, inr}
use Rattle.std.proofs.lemmas.Bool.{cond-true, cond-false, eq-eqb, ne_eqb, and_left, false≢true}
use Rattle.chip_sheet.specs.declared.event.Addr.{Addr}
use Rattle.chip_sheet.specs.declared.event.ConnId.{ConnId}
use Rattle.chip_sheet.specs.declared.socket.Status.{Status}
use Rattle.chip_sheet.specs.declared.socket.Status.TheVariants.{Closed, Init, Listen, SynSent, Established, FinWait, CloseWait, LastAck, Udp}
use Rattle.chip_sheet.specs.declared.socket.Cause.{Cause}
use Rattle.chip_sheet.specs.declared.socket.Cause.TheVariants as because
use Rattle.chip_sheet.specs.declared.socket.Due.{Due}
use Rattle.chip_sheet.specs.declared.socket.Due.TheVariants as due
use Rattle.chip_sheet.specs.declared.event.Entry.{Entry}
use Rattle.chip_sheet.specs.declared.event.Entry.TheVariants.{Bus, Link, Rest}
use Rattle.chip_sheet.specs.declared.event.LinkEntry.{LinkEntry}
use Rattle.chip_sheet.specs.declared.event.LinkEntry.TheVariants as what
use Rattle.chip_sheet.specs.Past.{Past}
use Rattle.chip_sheet.specs.Life.{Life, Facts, facts_of, life, life_after, happening, next, cause, status, lives, old}
use Rattle.chip_sheet.specs.Streams.{Starts, sent, taken, taken_by, is_of, is_open}
use Rattle.chip_sheet.specs.Windows.{flight, in_flight, offered, offered_length, room_length}
use Rattle.chip_sheet.specs.LinkCalls.{outgoing, outgoing_in, connection, kept_address, kept_port}
use Rattle.chip_sheet.specs.LinkAnswers.{LinkAnswer, Done, DoneFrom, DoneWith, DoneBytes, DoneDatagram, NotYet, Refused, TimedOut, End, Failed, entry_by, may_answer}
use Rattle.chip_sheet.proofs.SentLaws.{sent_same}
use Rattle.chip_sheet.proofs.SendLaws.{flight_due}
use Rattle.wz_base.specs.Outside.{Rose}
use Rattle.link_trait.specs.Calls.{Call}
use Rattle.link_trait.specs.Shown.{Shown, Counts, stalled_after}
use Rattle.chip_shared.specs.State.{State}
use Rattle.chip_shared.specs.Calling.{is_due, call_of}
use Rattle.chip_shared.specs.Causes.{Does, Later}
use Rattle.chip_shared.specs.Draining.{Drains, is_out_due}
use Rattle.chip_shared.specs.declared.shared.StepEnd.{StepEnd}
use Rattle.chip_shared.specs.declared.shared.LinkDid.{LinkDid}
use Rattle.chip_shared.specs.declared.shared.LinkDid.TheVariants as did
use Rattle.chip_shared.proofs.DueFacts.{Says, out_of}
use Rattle.chip_shared.proofs.Sweeps.{later_same, later_still, step_later}
use Rattle.chip_shared.proofs.Nearer.{own_life}
use Rattle.chip_shared.proofs.OutSteps.{Out, out_step, due_out, is_not_yet, is_failed}

-- An entry in which nothing happens to a socket leaves its life, and what is in flight on it.
next_nothing : (at : Status) (facts : Facts) → next at because.Nothing facts ≡ at
next_nothing Closed facts = refl
next_nothing Init facts = refl
next_nothing Listen facts = refl
next_nothing SynSent facts = refl
next_nothing Established facts = refl
next_nothing FinWait facts = refl
next_nothing CloseWait facts = refl
next_nothing LastAck facts = refl
next_nothing Udp facts = refl

pub record SameLife (old new : Past) (m : ℕ) : Type 0 where
  pub status : status new m ≡ status old m
  pub lives : lives new m ≡ lives old m

life_stays : (past : Past) (entry : Entry) (m : ℕ) → cause past m entry ≡ because.Nothing → SameLife past (entry ∷ past) m
life_stays past entry m none =
    let at = life past m in
    let same = ap (life_after at) none in
    record {
      status = ap (λ (x : Life). x.status) same ∙ next_nothing at.status (facts_of because.Nothing at);
      lives = ap (λ (x : Life). x.lives) same;
    }

flight_by : (starts : Starts) (old new : Past) (m : ℕ) → SameLife old new m → sent starts new m (lives old m) ≡ sent starts old m (lives old m) → taken new m (lives old m) ≡ taken old m (lives old m)
    → flight starts new m ≡ flight starts old m
flight_by starts old new m it sends takes =
    ap (λ (s : Status). cond (is_open s) (length (sent starts new m (lives new m)) - taken new m (lives new m)) 0) it.status
    ∙ ap (λ (l : ℕ). cond (is_open (status old m)) (length (sent starts new m l) - taken new m l) 0) it.lives
    ∙ ap (λ (k : ℕ). cond (is_open (status old m)) (k - taken new m (lives old m)) 0) (ap length sends)
    ∙ ap (λ (k : ℕ). cond (is_open (status old m)) (length (sent starts old m (lives old m)) - k) 0) takes

never_sends : (why : Cause) → why ≡ because.Nothing → why ≡ because.Send → ⊥
never_sends why none sends = let h = sym none ∙ sends in cc

-- What stays of a socket over an entry.
pub record Stays (starts : Starts) (old new : Past) (m : ℕ) : Type 0 where
  pub flight : flight starts new m ≡ flight starts old m
  pub lives : lives new m ≡ lives old m

stays_by : (starts : Starts) (past : Past) (entry : Entry) (m : ℕ) → cause past m entry ≡ because.Nothing → taken (entry ∷ past) m (lives past m) ≡ taken past m (lives past m) → Stays starts past (entry ∷ past) m
stays_by starts past entry m none takes =
    let it = life_stays past entry m none in
    record {
      flight = flight_by starts past (entry ∷ past) m it (sent_same starts past entry m (lives past m) (never_sends (cause past m entry) none)) takes;
      lives = it.lives;
    }

rest_stays : (starts : Starts) (past : Past) (m : ℕ) → Stays starts past (Rest ∷ past) m
rest_stays starts past m = stays_by starts past Rest m refl refl

link_stays : (starts : Starts) (past : Past) (n m : ℕ) (w : LinkEntry) → (m ≡ n → ⊥) → Stays starts past (Link n w ∷ past) m
link_stays starts past n m w other =
    let ne = ne_eqb n m (λ e. other (sym e)) in
    stays_by starts past (Link n w) m (cond-false (eqb n m) (happening w) because.Nothing ne)
    (cond-false (is_of past n m (lives past m)) (taken past m (lives past m) + taken_by w) (taken past m (lives past m)) (and_left (eqb n m) (eqb (lives past m) (lives past m)) ne))

-- An entry of a call is one of its socket, or none.
abbrev pub IsOf : ℕ → Entry → Type 0
IsOf n Rest = Unit {0}
IsOf n (Link m w) = m ≡ n
IsOf n (Bus e a) = ⊥

entry_is : (n fl : ℕ) (call : Due) (answer : LinkAnswer) → IsOf n (entry_by n fl call answer)
entry_is n fl (due.Connect c to) Done = refl
entry_is n fl (due.Accept c port) (DoneFrom from) = refl
entry_is n fl (due.Write c) (DoneWith count) = refl
entry_is n fl (due.SendTo c port to) Done = refl
entry_is n fl (due.Shut c) Done = refl
entry_is n fl (due.Read c) (DoneBytes bytes) = refl
entry_is n fl (due.ReadAway c) (DoneBytes bytes) = refl
entry_is n fl (due.RecvFrom c port) (DoneDatagram from body) = refl
entry_is n fl (due.Drop c) Done = refl
entry_is n fl due.Nothing answer = tt
entry_is n fl call Refused = refl
entry_is n fl call TimedOut = refl
entry_is n fl call End = refl
entry_is n fl call Failed = refl
entry_is n fl call answer = tt

entry_stays : (starts : Starts) (past : Past) (n m : ℕ) (entry : Entry) → IsOf n entry → (m ≡ n → ⊥) → Stays starts past (entry ∷ past) m
entry_stays starts past n m Rest is other = rest_stays starts past m
entry_stays starts past n m (Link k w) is other = link_stays starts past k m w (λ e. other (e ∙ is))
entry_stays starts past n m (Bus e a) is other = absurd is

-- What stays of another socket over steps: what is in flight, its life, and what stalled on it.
pub record Kept {L : Type 0} (shown : L → Shown) (old new : State L) (m : ℕ) : Type 0 where
  pub flight : flight new.starts new.log.past m ≡ flight old.starts old.log.past m
  pub lives : lives new.log.past m ≡ lives old.log.past m
  pub stalled : (shown new.links).stalled m ≡ (shown old.links).stalled m

pub kept_same : {L : Type 0} (shown : L → Shown) (old : State L) (m : ℕ) → Kept shown old old m
kept_same shown old m = record { flight = refl; lives = refl; stalled = refl }

pub kept_still : {L : Type 0} (shown : L → Shown) (old mid new : State L) (m : ℕ) → Kept shown old mid m → Kept shown mid new m → Kept shown old new m
kept_still shown old mid new m one two = record { flight = two.flight ∙ one.flight; lives = two.lives ∙ one.lives; stalled = two.stalled ∙ one.stalled }

-- The calls of an outgoing place are on its socket.
abbrev pub OnSocket : ℕ → Due → Type 0
OnSocket n (due.Write c) = c.sn ≡ n
OnSocket n (due.SendTo c port to) = c.sn ≡ n
OnSocket n call = Unit {0}

says_socket : (at : Status) (c : ConnId) (to : Addr) (fl : ℕ) (old : Option ℕ) (call : Due) → Says at c to fl old call → OnSocket c.sn call
says_socket at c to fl old (due.Write d) it = ap (λ (x : ConnId). x.sn) it.0
says_socket at c to fl old (due.SendTo d port a) it = ap (λ (x : ConnId). x.sn) it.0
says_socket at c to fl old call it = tt

out_socket : (starts : Starts) (past : Past) (n : ℕ) → OnSocket n (outgoing starts past n)
out_socket starts past n =
    let at = life past n in
    let fl = flight starts past n in
    says_socket at.status (connection n at.lives) (kept_address past n) fl at.old (outgoing starts past n) (out_of n at (kept_address past n) (kept_port past n) fl at.old refl)

stalled_other : (stalled : ℕ → ℕ) (n m : ℕ) (call : Due) (offered flight : List ℕ) (room : ℕ) (answer : LinkAnswer) → OnSocket n call → (m ≡ n → ⊥)
    → stalled_after stalled (call_of call offered flight room) answer m ≡ stalled m
stalled_other stalled n m (due.Write c) offered flight room answer on other = cond-false (eqb c.sn m) _ (stalled m) (ne_eqb c.sn m (λ e. other (sym e ∙ on)))
stalled_other stalled n m (due.SendTo c port to) offered flight room answer on other = cond-false (eqb c.sn m) _ (stalled m) (ne_eqb c.sn m (λ e. other (sym e ∙ on)))
stalled_other stalled n m call offered flight room answer on other = refl

-- One step at the outgoing place keeps the other sockets.
out_keeps : {L : Type 0} (effect : L → Call → LinkAnswer → L → Type 0) (shown : L → Shown) (old new : State L) (n m : ℕ) (does : LinkDid) → Out (Does effect shown) old n does new → (m ≡ n → ⊥) → Kept shown old new m
out_keeps effect shown old new n m does out other =
    let starts = old.starts in
    let past = old.log.past in
    let call = outgoing starts past n in
    let entry = entry_by n (flight starts past n) call out.answer in
    let stays = entry_stays starts past n m entry (entry_is n (flight starts past n) call out.answer) other in
    record {
      flight = ap (λ (s : Starts). flight s new.log.past m) out.starts ∙ ap (λ (p : Past). flight starts p m) out.past ∙ stays.flight;
      lives = ap (λ (p : Past). lives p m) out.past ∙ stays.lives;
      stalled = out.effect.counts.stalled m ∙ stalled_other (shown old.links).stalled n m call (offered starts past n) (in_flight starts past n) (room_length starts past n) out.answer (out_socket starts past n) other;
    }

-- A write stalled in the present life of a socket.
pub record Stalled {L : Type 0} (shown : L → Shown) (old : Shown) (n : ℕ) (new : State L) : Type 0 where
  pub life : (shown new.links).stalled n ≡ lives new.log.past n
  pub stalls : Rose old.stalls (shown new.links).stalls
  pub waits : Rose old.waits (shown new.links).waits

-- No byte is in flight on a socket, or a write stalled since.
abbrev pub Settled : {L : Type 0} → (L → Shown) → Shown → ℕ → State L → Type 0
Settled shown old n new = (flight new.starts new.log.past n ≡ 0) ⊎ Stalled shown old n new

none_or_some : (k : ℕ) → (k ≡ 0) ⊎ (0 < k)
none_or_some zero = inl refl
none_or_some (suc k) = inr (omega arith)

-- Where nothing is due nothing is in flight.
due_drop : (starts : Starts) (past : Past) (n life : ℕ) → old past n ≡ Some life → outgoing starts past n ≡ due.Drop (connection n life)
due_drop starts past n l is =
    let call = outgoing_in (status past n) (connection n (lives past n)) (kept_address past n) (kept_port past n) (flight starts past n) (life past n).shut in
    ap (λ (o : Option ℕ). elim o as (λ x. Due) [ None ↦ call | Some l ↦ due.Drop (connection n l) ]) is

-- What is in flight is to be written, or an old life is to be forgotten.
in_flight_by : (starts : Starts) (past : Past) (n : ℕ) (P : Due → Type 0) (o : Option ℕ) → old past n ≡ o → 0 < flight starts past n → ((c : ConnId) → P (due.Drop c)) → P (due.Write (connection n (lives past n)))
    → ((port : ℕ) (to : Addr) → P (due.SendTo (connection n (lives past n)) port to)) → P (outgoing starts past n)
in_flight_by starts past n P (Some life) is some drops writes sends = subst P (sym (due_drop starts past n life is)) (drops (connection n life))
in_flight_by starts past n P None is some drops writes sends =
    elim (flight_due starts past n is some) [
      | inl e ↦ subst P (sym e) writes
      | inr e ↦ subst P (sym e) (sends (kept_port past n) (kept_address past n))
    ]

in_flight_due : (starts : Starts) (past : Past) (n : ℕ) (P : Due → Type 0) → 0 < flight starts past n → ((c : ConnId) → P (due.Drop c)) → P (due.Write (connection n (lives past n)))
    → ((port : ℕ) (to : Addr) → P (due.SendTo (connection n (lives past n)) port to)) → P (outgoing starts past n)
in_flight_due starts past n P some drops writes sends = in_flight_by starts past n P (old past n) refl some drops writes sends

idle_flight : {L : Type 0} (now : State L) (n : ℕ) → is_out_due now n ≡ false → flight now.starts now.log.past n ≡ 0
idle_flight now n idle =
    let starts = now.starts in
    let past = now.log.past in
    elim (none_or_some (flight starts past n)) [
      | inl none ↦ none
      | inr some ↦ absurd (false≢true (sym idle ∙ ap is_due (due_out starts past n)
          ∙ in_flight_due starts past n (λ call. is_due call ≡ true) some (λ c. refl) refl (λ port to. refl)))
    ]

-- After NotYet what is in flight stalled.
not_yet_rest : (n fl : ℕ) (call : Due) → entry_by n fl call NotYet ≡ Rest
not_yet_rest n fl due.Nothing = refl
not_yet_rest n fl (due.Connect c to) = refl
not_yet_rest n fl call = refl

-- The counts of a call that was answered NotYet.
abbrev pub Waited : Shown → Shown → ℕ → ℕ → ℕ → ℕ → List ℕ → List ℕ → ℕ → Due → Type 0
Waited old new n life offered_count room offered flight most call =
    may_answer call offered_count room NotYet ≡ true → Counts old (call_of call offered flight most) NotYet new
    → (new.stalled n ≡ life) × (Rose old.stalls new.stalls × Rose old.waits new.waits)

waited : (starts : Starts) (past : Past) (n : ℕ) (old new : Shown) (count room most : ℕ) (offered inside : List ℕ) → 0 < flight starts past n
    → Waited old new n (lives past n) count room offered inside most (outgoing starts past n)
waited starts past n old new count room most offered inside some =
    let l = lives past n in
    in_flight_due starts past n (Waited old new n l count room offered inside most) some
    (λ c may counts. absurd (false≢true may))
    (λ may counts. (counts.stalled n ∙ cond-true (eqb n n) l (old.stalled n) (eq-eqb n n refl), (counts.stalls.rose tt, counts.waits.rose tt)))
    (λ port to may counts. (counts.stalled n ∙ cond-true (eqb n n) l (old.stalled n) (eq-eqb n n refl), (counts.stalls.rose tt, counts.waits.rose tt)))

not_yet_settles : {L : Type 0} (effect : L → Call → LinkAnswer → L → Type 0) (shown : L → Shown) (old new : State L) (n at : ℕ) → Out (Does effect shown) old n (did.NotYet at) new → Settled shown (shown old.links) n new
not_yet_settles effect shown old new n at out =
    let starts = old.starts in
    let past = old.log.past in
    let call = outgoing starts past n in
    let is = is_not_yet at (2 * n) out.answer out.did in
    let counts = subst (λ (a : LinkAnswer). Counts (shown old.links) (call_of call (offered starts past n) (in_flight starts past n) (room_length starts past n)) a (shown new.links)) is out.effect.counts in
    let may = subst (λ (a : LinkAnswer). may_answer call (offered_length starts past n) (room_length starts past n) a ≡ true) is out.may in
    let entry = ap (λ (a : LinkAnswer). entry_by n (flight starts past n) call a) is ∙ not_yet_rest n (flight starts past n) call in
    let after = out.past ∙ ap (λ (e : Entry). e ∷ past) entry in
    let stays = rest_stays starts past n in
    let same = ap (λ (s : Starts). flight s new.log.past n) out.starts ∙ ap (λ (p : Past). flight starts p n) after ∙ stays.flight in
    let life = ap (λ (p : Past). lives p n) after ∙ stays.lives in
    elim (none_or_some (flight starts past n)) [
      | inl none ↦ inl (same ∙ none)
      | inr some ↦ let it = waited starts past n (shown old.links) (shown new.links) (offered_length starts past n) (room_length starts past n) (room_length starts past n) (offered starts past n) (in_flight starts past n) some may counts in
          inr (record { life = it.0 ∙ sym life; stalls = it.1.0; waits = it.1.1 })
    ]

-- After a call that failed nothing is in flight.
failed_entry : (n fl offered room : ℕ) (call : Due) → may_answer call offered room Failed ≡ true → entry_by n fl call Failed ≡ Link n what.Failed
failed_entry n fl offered room due.Nothing may = cc
failed_entry n fl offered room (due.Connect c to) may = refl
failed_entry n fl offered room call may = refl

failed_shuts : (at : Status) (facts : Facts) → is_open (next at because.Failed facts) ≡ false
failed_shuts Closed facts = refl
failed_shuts Init facts = refl
failed_shuts Listen facts = refl
failed_shuts SynSent facts = refl
failed_shuts Established facts = refl
failed_shuts FinWait facts = refl
failed_shuts CloseWait facts = refl
failed_shuts LastAck facts = refl
failed_shuts Udp facts = refl

failed_flight : (starts : Starts) (past : Past) (n : ℕ) → flight starts (Link n what.Failed ∷ past) n ≡ 0
failed_flight starts past n =
    let now = Link n what.Failed ∷ past in
    cond-false (is_open (status now n)) (length (sent starts now n (lives now n)) - taken now n (lives now n)) 0
    (ap (λ (x : Life). is_open x.status) (own_life past n what.Failed) ∙ failed_shuts (status past n) (facts_of because.Failed (life past n)))

fault_settles : {L : Type 0} (effect : L → Call → LinkAnswer → L → Type 0) (shown : L → Shown) (old new : State L) (n at : ℕ) → Out (Does effect shown) old n (did.Fault at) new
    → (flight new.starts new.log.past n ≡ 0) × Rose (shown old.links).faults (shown new.links).faults
fault_settles effect shown old new n at out =
    let starts = old.starts in
    let past = old.log.past in
    let call = outgoing starts past n in
    let is = is_failed at (2 * n) out.answer out.did in
    let counts = subst (λ (a : LinkAnswer). Counts (shown old.links) (call_of call (offered starts past n) (in_flight starts past n) (room_length starts past n)) a (shown new.links)) is out.effect.counts in
    let may = subst (λ (a : LinkAnswer). may_answer call (offered_length starts past n) (room_length starts past n) a ≡ true) is out.may in
    let entry = ap (λ (a : LinkAnswer). entry_by n (flight starts past n) call a) is ∙ failed_entry n (flight starts past n) (offered_length starts past n) (room_length starts past n) call may in
    let after = out.past ∙ ap (λ (e : Entry). e ∷ past) entry in
    (ap (λ (s : Starts). flight s new.log.past n) out.starts ∙ ap (λ (p : Past). flight starts p n) after ∙ failed_flight starts past n, counts.faults.rose tt)

-- What the steps of one socket leave.
pub record Drained {L : Type 0} (shown : L → Shown) (old : State L) (n : ℕ) (failed : Bool) (new : State L) : Type 0 where
  pub later : Later (shown old.links) (shown new.links)
  pub settled : Settled shown (shown old.links) n new
  pub fault : failed ≡ true → Rose (shown old.links).faults (shown new.links).faults
  pub kept : (m : ℕ) → (m ≡ n → ⊥) → Kept shown old new m

pub rose_since : (a b c : ℕ) → a ≤ b → Rose b c → Rose a c
rose_since a b c less rose = omega (arith, less, rose)

pub rose_still : (a b c : ℕ) → Rose a b → b ≤ c → Rose a c
rose_still a b c rose less = omega (arith, less, rose)

pub settled_since : {L : Type 0} (shown : L → Shown) (old mid : Shown) (n : ℕ) (new : State L) → Later old mid → Settled shown mid n new → Settled shown old n new
settled_since shown old mid n new later (inl none) = inl none
settled_since shown old mid n new later (inr it) = inr (record {
  life = it.life;
  stalls = rose_since old.stalls mid.stalls (shown new.links).stalls later.stalls it.stalls;
  waits = rose_since old.waits mid.waits (shown new.links).waits later.waits it.waits;
})

pub settled_still : {L : Type 0} (shown : L → Shown) (old : Shown) (n : ℕ) (mid new : State L) → Settled shown old n mid → Kept shown mid new n → Later (shown mid.links) (shown new.links) → Settled shown old n new
settled_still shown old n mid new (inl none) kept later = inl (kept.flight ∙ none)
settled_still shown old n mid new (inr it) kept later = inr (record {
  life = kept.stalled ∙ it.life ∙ sym kept.lives;
  stalls = rose_still old.stalls (shown mid.links).stalls (shown new.links).stalls it.stalls later.stalls;
  waits = rose_still old.waits (shown mid.links).waits (shown new.links).waits it.waits later.waits;
})

never_ok : (failed : Bool) (end_ : StepEnd) (result : Result Bool StepEnd) → result ≡ Ok failed → result ≡ Err end_ → ⊥
never_ok failed end_ result ok err = let h = sym ok ∙ err in cc

same_bool : (a b : Bool) (result : Result Bool StepEnd) → result ≡ Ok a → result ≡ Ok b → a ≡ b
same_bool a b result one two = let h = sym one ∙ two in cc

drained_step : {L : Type 0} (effect : L → Call → LinkAnswer → L → Type 0) (shown : L → Shown) (old mid new : State L) (n : ℕ) (does : LinkDid) (failed : Bool) → Out (Does effect shown) old n does mid → Later (shown old.links) (shown mid.links)
    → Drained shown mid n failed new → Drained shown old n failed new
drained_step effect shown old mid new n does failed out later it = record {
  later = later_still (shown old.links) (shown mid.links) (shown new.links) later it.later;
  settled = settled_since shown (shown old.links) (shown mid.links) n new later it.settled;
  fault = λ is. rose_since (shown old.links).faults (shown mid.links).faults (shown new.links).faults later.faults (it.fault is);
  kept = λ m other. kept_still shown old mid new m (out_keeps effect shown old mid n m does out other) (it.kept m other);
}

drained_none : {L : Type 0} (shown : L → Shown) (old new : State L) (n : ℕ) (failed : Bool) → is_out_due old n ≡ false → new ≡ old → failed ≡ false → Drained shown old n failed new
drained_none shown old new n failed idle same none = rw same (record {
  later = later_same (shown old.links) (shown old.links) refl;
  settled = inl (idle_flight old n idle);
  fault = λ is. absurd (false≢true (sym none ∙ is));
  kept = λ m other. kept_same shown old m;
})

pub drained : {L : Type 0} (effect : L → Call → LinkAnswer → L → Type 0) (shown : L → Shown) (most n : ℕ) (old : State L) (failed : Bool) (result : Result Bool StepEnd) (new : State L) → n < 8 → result ≡ Ok failed
    → Drains (Does effect shown) most n old result new → Drained shown old n failed new
drained effect shown zero n old failed result new few ok it = drained_none shown old new n failed it.0 it.1.1 (same_bool failed false result ok it.1.0)
drained effect shown (suc most) n old failed result new few ok (is, (Err end_, (mid, (step, rest)))) = absurd (never_ok failed end_ result ok rest.0)
drained effect shown (suc most) n old failed result new few ok (is, (Ok (did.Did at), (mid, (step, rest)))) =
    drained_step effect shown old mid new n (did.Did at) failed (out_step (Does effect shown) old mid n (did.Did at) few is step) (step_later effect shown old mid (2 * n) (Ok (did.Did at)) step)
    (drained effect shown most n mid failed result new few ok rest)
drained effect shown (suc most) n old failed result new few ok (is, (Ok (did.NotYet at), (mid, (step, rest)))) =
    let out = out_step (Does effect shown) old mid n (did.NotYet at) few is step in
    let none = same_bool failed false result ok rest.0 in
    subst (λ (s : State _). Drained shown old n failed s) (sym rest.1) (record {
      later = step_later effect shown old mid (2 * n) (Ok (did.NotYet at)) step;
      settled = not_yet_settles effect shown old mid n at out;
      fault = λ yes. absurd (false≢true (sym none ∙ yes));
      kept = λ m other. out_keeps effect shown old mid n m (did.NotYet at) out other;
    })
drained effect shown (suc most) n old failed result new few ok (is, (Ok (did.Fault at), (mid, (step, rest)))) =
    let out = out_step (Does effect shown) old mid n (did.Fault at) few is step in
    let it = fault_settles effect shown old mid n at out in
    subst (λ (s : State _). Drained shown old n failed s) (sym rest.1) (record {
      later = step_later effect shown old mid (2 * n) (Ok (did.Fault at)) step;
      settled = inl it.0;
      fault = λ yes. it.1;
      kept = λ m other. out_keeps effect shown old mid n m (did.Fault at) out other;
    })
drained effect shown (suc most) n old failed result new few ok (is, (Ok did.Idle, (mid, (step, rest)))) = absurd rest
