-- When a connection is made: an open TCP socket has one, and UDP has none.
use Rattle.std.proofs.Common.{◌≡◌, ◌<◌, ℕ, ◌+◌, Bool, true, false, ◌&&◌, ◌||◌, cond, eqb, ltb, [], ◌∷◌, Option, None, Some, inl, inr, refl, sym, ap, ◌∙◌, subst, arith, ◌⊎◌}
use Rattle.std.proofs.lemmas.Bool.{and_right, or_cases, or_left, or_right, ne_eqb, eq-eqb, cond_both, false≢true}
use Rattle.chip_sheet.specs.declared.event.Addr.{Addr}
use Rattle.chip_sheet.specs.declared.event.ConnId.{ConnId}
use Rattle.chip_sheet.specs.declared.phase.Access.{Access}
use Rattle.chip_sheet.specs.declared.phase.Access.TheVariants.{Read, Write}
use Rattle.chip_sheet.specs.declared.socket.Status.{Status}
use Rattle.chip_sheet.specs.declared.socket.Status.TheVariants.{Closed, Init, Listen, SynSent, Established, FinWait, CloseWait, LastAck, Udp}
use Rattle.chip_sheet.specs.declared.socket.Cause.{Cause}
use Rattle.chip_sheet.specs.declared.socket.Cause.TheVariants as because
use Rattle.chip_sheet.specs.declared.socket.Due.{Due}
use Rattle.chip_sheet.specs.declared.socket.Due.TheVariants as due
use Rattle.chip_sheet.specs.declared.event.Entry.{Entry}
use Rattle.chip_sheet.specs.declared.event.Entry.TheVariants.{Bus, Link, Rest}
use Rattle.chip_sheet.specs.declared.event.LinkEntry.{LinkEntry}
use Rattle.chip_sheet.specs.declared.event.LinkEntry.TheVariants.{Linked, Accepted, Dropped}
use Rattle.chip_sheet.specs.Past.{Past}
use Rattle.chip_sheet.specs.Frames.{access}
use Rattle.chip_sheet.specs.Life.{Life, Facts, facts_of, life, life_after, lives_on, new_life, next, begins, is_udp, cause, cause_by, happening, status, lives}
use Rattle.chip_sheet.specs.Streams.{Starts, is_of, is_open, makes, is_made}
use Rattle.chip_sheet.specs.Windows.{flight, rx_free}
use Rattle.chip_sheet.specs.Connections.{is_drop}
use Rattle.chip_sheet.specs.LinkCalls.{outgoing, incoming, outgoing_in, incoming_in, connection, kept_address, kept_port, answers_call, fits}
use Rattle.chip_sheet.specs.Legal.{Legal}
use Rattle.chip_sheet.proofs.LifeSteps.{is_fresh, lives_grow}
use Rattle.chip_sheet.proofs.Within.{both_same}
use Rattle.chip_sheet.proofs.AccessCauses.{of_access, access_cause}

pub drop_only : (c : ConnId) (flight free : ℕ) (what : LinkEntry) → is_drop what ≡ false → answers_call (due.Drop c) flight free what ≡ false
drop_only c flight free Dropped h = cc
drop_only c flight free Linked h = refl
drop_only c flight free what h = refl

pub old_out : (old : Option ℕ) (n : ℕ) (call : Due) (flight free : ℕ) (what : LinkEntry) → is_drop what ≡ false → answers_call call flight free what ≡ false
    → answers_call (elim old as (λ o. Due) [ None ↦ call | Some life ↦ due.Drop (connection n life) ]) flight free what ≡ false
old_out None n call flight free what drop h = h
old_out (Some life) n call flight free what drop h = drop_only (connection n life) flight free what drop

pub old_in : (old : Option ℕ) (call : Due) (flight free : ℕ) (what : LinkEntry) → answers_call call flight free what ≡ false
    → answers_call (elim old as (λ o. Due) [ None ↦ call | Some life ↦ due.Nothing ]) flight free what ≡ false
old_in None call flight free what h = h
old_in (Some life) call flight free what h = refl

-- A link event that answers no call of a socket in its status, and is no drop, does not fit.
pub neither_call : (starts : Starts) (past : Past) (n : ℕ) (what : LinkEntry) → is_drop what ≡ false
    → answers_call (outgoing_in (status past n) (connection n (lives past n)) (kept_address past n) (kept_port past n) (flight starts past n) (life past n).shut) (flight starts past n) (rx_free starts past n) what ≡ false
    → answers_call (incoming_in (status past n) (connection n (lives past n)) (kept_port past n) (rx_free starts past n) (life past n).ended) (flight starts past n) (rx_free starts past n) what ≡ false
    → fits starts past n what ≡ true → ⊥
neither_call starts past n what drop out in_ h =
    let fl = flight starts past n in
    let fr = rx_free starts past n in
    elim (or_cases (answers_call (outgoing starts past n) fl fr what) (answers_call (incoming starts past n) fl fr what) h) [
      | inl holds ↦ false≢true (sym (old_out (life past n).old n (outgoing_in (status past n) (connection n (lives past n)) (kept_address past n) (kept_port past n) fl (life past n).shut) fl fr what drop out) ∙ holds)
      | inr holds ↦ false≢true (sym (old_in (life past n).old (incoming_in (status past n) (connection n (lives past n)) (kept_port past n) fr (life past n).ended) fl fr what in_) ∙ holds)
    ]

pub either_no : (b : Bool) (x y : Due) (flight free : ℕ) (what : LinkEntry) → answers_call x flight free what ≡ false → answers_call y flight free what ≡ false → answers_call (cond b x y) flight free what ≡ false
either_no true x y flight free what h k = h
either_no false x y flight free what h k = k

-- A connection is made of a fresh socket alone.
abbrev connects : Due → Bool
connects (due.Connect c to) = true
connects call = false

abbrev accepts : Due → Bool
accepts (due.Accept c port) = true
accepts call = false

cond_no : (P : Due → Bool) (b : Bool) (x y : Due) → P x ≡ false → P y ≡ false → P (cond b x y) ≡ false
cond_no P true x y h k = h
cond_no P false x y h k = k

out_connects : (at : Status) (c : ConnId) (to : Addr) (port flying : ℕ) (shut : Bool) → is_fresh at ≡ false → connects (outgoing_in at c to port flying shut) ≡ false
out_connects Established c to port flying shut h = cond_no connects (ltb 0 flying) (due.Write c) due.Nothing refl refl
out_connects CloseWait c to port flying shut h = cond_no connects (ltb 0 flying) (due.Write c) due.Nothing refl refl
out_connects FinWait c to port flying shut h = cond_no connects (ltb 0 flying) (due.Write c) _ refl (cond_no connects shut due.Nothing (due.Shut c) refl refl)
out_connects LastAck c to port flying shut h = cond_no connects (ltb 0 flying) (due.Write c) _ refl (cond_no connects shut due.Nothing (due.Shut c) refl refl)
out_connects Udp c to port flying shut h = cond_no connects (ltb 0 flying) (due.SendTo c port to) due.Nothing refl refl
out_connects SynSent c to port flying shut h = cc
out_connects at c to port flying shut h = refl

in_connects : (at : Status) (c : ConnId) (port room : ℕ) (ended : Bool) → connects (incoming_in at c port room ended) ≡ false
in_connects Established c port room ended = cond_no connects (ltb 0 room) (due.Read c) due.Nothing refl refl
in_connects FinWait c port room ended = cond_no connects ended due.Nothing (due.ReadAway c) refl refl
in_connects Listen c port room ended = refl
in_connects Udp c port room ended = refl
in_connects at c port room ended = refl

out_accepts : (at : Status) (c : ConnId) (to : Addr) (port flying : ℕ) (shut : Bool) → accepts (outgoing_in at c to port flying shut) ≡ false
out_accepts Established c to port flying shut = cond_no accepts (ltb 0 flying) (due.Write c) due.Nothing refl refl
out_accepts CloseWait c to port flying shut = cond_no accepts (ltb 0 flying) (due.Write c) due.Nothing refl refl
out_accepts FinWait c to port flying shut = cond_no accepts (ltb 0 flying) (due.Write c) _ refl (cond_no accepts shut due.Nothing (due.Shut c) refl refl)
out_accepts LastAck c to port flying shut = cond_no accepts (ltb 0 flying) (due.Write c) _ refl (cond_no accepts shut due.Nothing (due.Shut c) refl refl)
out_accepts Udp c to port flying shut = cond_no accepts (ltb 0 flying) (due.SendTo c port to) due.Nothing refl refl
out_accepts SynSent c to port flying shut = refl
out_accepts at c to port flying shut = refl

in_accepts : (at : Status) (c : ConnId) (port room : ℕ) (ended : Bool) → is_fresh at ≡ false → accepts (incoming_in at c port room ended) ≡ false
in_accepts Established c port room ended h = cond_no accepts (ltb 0 room) (due.Read c) due.Nothing refl refl
in_accepts FinWait c port room ended h = cond_no accepts ended due.Nothing (due.ReadAway c) refl refl
in_accepts Listen c port room ended h = cc
in_accepts Udp c port room ended h = refl
in_accepts at c port room ended h = refl

linked_call : (call : Due) (flight free : ℕ) → connects call ≡ false → answers_call call flight free Linked ≡ false
linked_call (due.Connect c to) flight free h = cc
linked_call call flight free h = refl

accepted_call : (call : Due) (flight free : ℕ) (from : Addr) → accepts call ≡ false → answers_call call flight free (Accepted from) ≡ false
accepted_call (due.Accept c port) flight free from h = cc
accepted_call call flight free from h = refl

pub made_fresh : (starts : Starts) (past : Past) (n : ℕ) (what : LinkEntry) → makes what ≡ true → fits starts past n what ≡ true → is_fresh (status past n) ≡ false → ⊥
made_fresh starts past n Linked m h old =
    neither_call starts past n Linked refl
    (linked_call _ (flight starts past n) (rx_free starts past n) (out_connects (status past n) (connection n (lives past n)) (kept_address past n) (kept_port past n) (flight starts past n) (life past n).shut old))
    (linked_call _ (flight starts past n) (rx_free starts past n) (in_connects (status past n) (connection n (lives past n)) (kept_port past n) (rx_free starts past n) (life past n).ended)) h
made_fresh starts past n (Accepted from) m h old =
    neither_call starts past n (Accepted from) refl
    (accepted_call _ (flight starts past n) (rx_free starts past n) from (out_accepts (status past n) (connection n (lives past n)) (kept_address past n) (kept_port past n) (flight starts past n) (life past n).shut))
    (accepted_call _ (flight starts past n) (rx_free starts past n) from (in_accepts (status past n) (connection n (lives past n)) (kept_port past n) (rx_free starts past n) (life past n).ended old)) h
made_fresh starts past n what m h old = cc

-- A connection is made in the socket's present life alone.
pub made_other : (past : Past) (entry : Entry) (n life : ℕ) → (lives past n ≡ life → ⊥) → is_made (entry ∷ past) n life ≡ is_made past n life
made_other past (Link m what) n life h =
    ap (λ (b : Bool). b || is_made past n life) (and_right (makes what) (is_of past m n life) (and_right (eqb m n) (eqb (lives past n) life) (ne_eqb (lives past n) life h)))
made_other past (Bus e a) n life h = refl
made_other past Rest n life h = refl

pub unborn_made : (past : Past) (n life : ℕ) → lives past n < life → is_made past n life ≡ false
unborn_made [] n life h = refl
unborn_made (entry ∷ past) n other h =
    let grow = lives_grow (life past n) (cause past n entry) in
    let differs : lives past n ≡ other → ⊥ = λ (e : lives past n ≡ other). omega (arith, grow, h, e) in
    made_other past entry n other differs ∙ unborn_made past n other (omega (arith, grow, h))

-- No row leads to UDP but OPEN.
closes_not_udp : (b : Bool) → is_udp (cond b Closed FinWait) ≡ true → ⊥
closes_not_udp true h = cc
closes_not_udp false h = cc

pub udp_next : (at : Status) (why : Cause) (facts : Facts) → begins why at ≡ false → is_udp (next at why facts) ≡ true → is_udp at ≡ true
udp_next Udp why facts old h = refl
udp_next Closed because.OpenTcp facts old h = cc
udp_next Closed because.OpenUdp facts old h = cc
udp_next Closed why facts old h = cc
udp_next FinWait because.Ended facts old h = absurd (closes_not_udp facts.both h)
udp_next FinWait because.Shut facts old h = absurd (closes_not_udp facts.both h)
udp_next FinWait why facts old h = cc
udp_next Init because.Reset facts old h = cc
udp_next Init why facts old h = cc
udp_next Listen because.Reset facts old h = cc
udp_next Listen why facts old h = cc
udp_next SynSent because.Reset facts old h = cc
udp_next SynSent why facts old h = cc
udp_next Established because.Reset facts old h = cc
udp_next Established why facts old h = cc
udp_next CloseWait because.Reset facts old h = cc
udp_next CloseWait why facts old h = cc
udp_next LastAck because.Reset facts old h = cc
udp_next LastAck why facts old h = cc

udp_from : (at : Life) (why : Cause) → is_udp (life_after at why).status ≡ true
    → (((life_after at why).lives ≡ at.lives) × (is_udp at.status ≡ true)) ⊎ ((life_after at why).lives ≡ at.lives + 1)
udp_from at why =
    let after = next at.status why (facts_of why at) in
    cond_both (begins why at.status) (new_life at after) (lives_on at why after)
    (λ (now : Life). is_udp now.status ≡ true → ((now.lives ≡ at.lives) × (is_udp at.status ≡ true)) ⊎ (now.lives ≡ at.lives + 1))
    (λ new h. inr refl) (λ old h. inl (refl, udp_next at.status why (facts_of why at) old h))

udp_not_fresh : (at : Status) → is_udp at ≡ true → is_fresh at ≡ false
udp_not_fresh Udp h = refl
udp_not_fresh at h = cc

made_step : (m_ of_it : Bool) (before : Bool) → (of_it ≡ true → m_ ≡ true → ⊥) → before ≡ false → ((m_ && of_it) || before) ≡ false
made_step true true before never h = absurd (never refl refl)
made_step true false before never h = h
made_step false of_it before never h = h

-- In UDP no connection was made.
pub udp_not_made : (starts : Starts) (past : Past) (n : ℕ) → Legal starts past → is_udp (status past n) ≡ true → is_made past n (lives past n) ≡ false
udp_not_made starts [] n legal h = refl
udp_not_made starts (entry ∷ past) n legal h =
    elim (udp_from (life past n) (cause past n entry) h) [
      | inl (same, udp) ↦ ap (is_made (entry ∷ past) n) same ∙ stays starts past entry n legal udp (udp_not_made starts past n legal.1 udp)
      | inr begun ↦
          ap (is_made (entry ∷ past) n) begun
          ∙ made_other past entry n (lives past n + 1) (λ e. omega (arith, e))
          ∙ unborn_made past n (lives past n + 1) (omega arith)
    ]
  where
    stays : (starts : Starts) (past : Past) (entry : Entry) (n : ℕ) → Legal starts (entry ∷ past) → is_udp (status past n) ≡ true → is_made past n (lives past n) ≡ false
        → is_made (entry ∷ past) n (lives past n) ≡ false
    stays starts past (Link m what) n legal udp before =
        made_step (makes what) (is_of past m n (lives past n)) (is_made past n (lives past n))
        (λ of_it m_. made_fresh starts past n what m_ (subst (λ (k : ℕ). fits starts past k what ≡ true) (both_same m n (lives past n) (lives past n) of_it).0 legal.0.1) (udp_not_fresh (status past n) udp))
        before
    stays starts past (Bus e a) n legal udp before = before
    stays starts past Rest n legal udp before = before

-- What makes a connection is an event of the link.
makes_it : Cause → Bool
makes_it because.Linked = true
makes_it because.Accepted = true
makes_it why = false

not_by_access : (why : Cause) → of_access why ≡ true → makes_it why ≡ false
unfolding makes_it
not_by_access because.Linked h = cc
not_by_access because.Accepted h = cc
not_by_access why h = refl

no_access : (past : Past) (n : ℕ) (made : Access) → makes_it (cause_by past n made) ≡ false
no_access past n made = not_by_access (cause_by past n made) (access_cause past n made)

happening_makes : (what : LinkEntry) → makes_it (happening what) ≡ makes what
unfolding makes_it
happening_makes Linked = refl
happening_makes what = refl

-- A life that goes on and is open, but not in UDP, was so before, or its connection is made now.
tcp_step : (at : Status) (why : Cause) (facts : Facts) → begins why at ≡ false → is_open (next at why facts) ≡ true → is_udp (next at why facts) ≡ false
    → ((is_open at ≡ true) × (is_udp at ≡ false)) ⊎ (makes_it why ≡ true)
unfolding makes_it
tcp_step Established why facts old h t = inl (refl, refl)
tcp_step FinWait why facts old h t = inl (refl, refl)
tcp_step CloseWait why facts old h t = inl (refl, refl)
tcp_step LastAck why facts old h t = inl (refl, refl)
tcp_step Listen because.Accepted facts old h t = inr refl
tcp_step Listen because.Reset facts old h t = cc
tcp_step Listen why facts old h t = cc
tcp_step SynSent because.Linked facts old h t = inr refl
tcp_step SynSent because.Reset facts old h t = cc
tcp_step SynSent why facts old h t = cc
tcp_step Init because.Reset facts old h t = cc
tcp_step Init why facts old h t = cc
tcp_step Udp because.Reset facts old h t = cc
tcp_step Udp why facts old h t = cc
tcp_step Closed because.OpenTcp facts old h t = cc
tcp_step Closed because.OpenUdp facts old h t = cc
tcp_step Closed because.Reset facts old h t = cc
tcp_step Closed why facts old h t = cc

tcp_new : (at : Status) (why : Cause) (facts : Facts) → begins why at ≡ true → is_open (next at why facts) ≡ true → is_udp (next at why facts) ≡ false → ⊥
tcp_new Closed because.OpenTcp facts new h t = cc
tcp_new Closed because.OpenUdp facts new h t = cc
tcp_new Init because.OpenTcp facts new h t = cc
tcp_new Init because.OpenUdp facts new h t = cc
tcp_new at because.OpenTcp facts new h t = cc
tcp_new at because.OpenUdp facts new h t = cc
tcp_new at why facts new h t = cc

tcp_from : (at : Life) (why : Cause) → is_open (life_after at why).status ≡ true → is_udp (life_after at why).status ≡ false
    → ((life_after at why).lives ≡ at.lives) × (((is_open at.status ≡ true) × (is_udp at.status ≡ false)) ⊎ (makes_it why ≡ true))
tcp_from at why =
    let after = next at.status why (facts_of why at) in
    cond_both (begins why at.status) (new_life at after) (lives_on at why after)
    (λ (now : Life). is_open now.status ≡ true → is_udp now.status ≡ false → (now.lives ≡ at.lives) × (((is_open at.status ≡ true) × (is_udp at.status ≡ false)) ⊎ (makes_it why ≡ true)))
    (λ new h t. absurd (tcp_new at.status why (facts_of why at) new h t)) (λ old h t. (refl, tcp_step at.status why (facts_of why at) old h t))

made_stays : (past : Past) (entry : Entry) (n l : ℕ) → is_made past n l ≡ true → is_made (entry ∷ past) n l ≡ true
made_stays past (Link m what) n l h = or_right (makes what && is_of past m n l) (is_made past n l) h
made_stays past (Bus e a) n l h = h
made_stays past Rest n l h = h

link_makes : (b : Bool) (what : LinkEntry) → makes_it (cond b (happening what) because.Nothing) ≡ true → (b ≡ true) × (makes what ≡ true)
unfolding makes_it
link_makes true what h = (refl, sym (happening_makes what) ∙ h)
link_makes false what h = cc

pub both_true : {a b : Bool} → a ≡ true → b ≡ true → (a && b) ≡ true
both_true {a} {b} h k = ap (λ (x : Bool). x && b) h ∙ k

made_now : (past : Past) (entry : Entry) (n : ℕ) → makes_it (cause past n entry) ≡ true → is_made (entry ∷ past) n (lives past n) ≡ true
unfolding makes_it
made_now past (Bus e a) n h = absurd (false≢true (sym (no_access past n (access past e)) ∙ h))
made_now past Rest n h = cc
made_now past (Link m what) n h =
    let it = link_makes (eqb m n) what h in
    or_left (makes what && is_of past m n (lives past n)) (is_made past n (lives past n)) (both_true it.1 (both_true it.0 (eq-eqb (lives past n) (lives past n) refl)))

-- An open socket that is not in UDP has a made connection. (No legality is asked.)
pub open_made : (past : Past) (n : ℕ) → is_open (status past n) ≡ true → is_udp (status past n) ≡ false → is_made past n (lives past n) ≡ true
open_made [] n h t = cc
open_made (entry ∷ past) n h t =
    let it = tcp_from (life past n) (cause past n entry) h t in
    ap (is_made (entry ∷ past) n) it.0 ∙ elim it.1 [
      | inl (on, not_udp) ↦ made_stays past entry n (lives past n) (open_made past n on not_udp)
      | inr makes ↦ made_now past entry n makes
    ]
