-- What was received in the life of a connection is a front of what the link supplied in it: the two are the same until the life leaves
-- ESTABLISHED, and later no byte is received.
use Rattle.std.proofs.Common.{◌≡◌, ◌<◌, ℕ, ◌+◌, Bool, true, false, ◌&&◌, ◌||◌, cond, eqb, ltb, List, [], ◌∷◌, ◌++◌, length, append-nil, append_assoc, Option, None, Some, inl, inr, refl, sym, ap, ◌∙◌, subst, arith, ◌⊎◌}
use Rattle.std.proofs.lemmas.Bool.{cases_Bool, and_right, or_cases, ne_eqb, cond-false, cond_both, false≢true}
use Rattle.chip_sheet.specs.declared.event.Addr.{Addr}
use Rattle.chip_sheet.specs.declared.event.ConnId.{ConnId}
use Rattle.chip_sheet.specs.declared.socket.Status.{Status}
use Rattle.chip_sheet.specs.declared.socket.Status.TheVariants.{Closed, Init, Listen, SynSent, Established, FinWait, CloseWait, LastAck, Udp}
use Rattle.chip_sheet.specs.declared.socket.Cause.{Cause}
use Rattle.chip_sheet.specs.declared.socket.Cause.TheVariants as because
use Rattle.chip_sheet.specs.declared.socket.Due.{Due}
use Rattle.chip_sheet.specs.declared.socket.Due.TheVariants as due
use Rattle.chip_sheet.specs.declared.event.Entry.{Entry}
use Rattle.chip_sheet.specs.declared.event.Entry.TheVariants.{Bus, Link, Rest}
use Rattle.chip_sheet.specs.declared.event.LinkEntry.{LinkEntry}
use Rattle.chip_sheet.specs.declared.event.LinkEntry.TheVariants.{Linked, Accepted, Got, Datagram, Dropped}
use Rattle.chip_sheet.specs.Past.{Past}
use Rattle.chip_sheet.specs.Life.{Life, Facts, facts_of, life, life_after, lives_on, new_life, next, begins, is_udp, cause, status, lives}
use Rattle.chip_sheet.specs.Streams.{Starts, is_of, is_established, makes, is_made, put_by, free_behind, got, supplied, bytes_of}
use Rattle.chip_sheet.specs.Windows.{flight, rx_free}
use Rattle.chip_sheet.specs.Connections.{is_drop}
use Rattle.chip_sheet.specs.LinkCalls.{outgoing, incoming, outgoing_in, incoming_in, connection, kept_address, kept_port, answers_call, fits}
use Rattle.chip_sheet.specs.Legal.{Legal}
use Rattle.chip_sheet.proofs.LifeSteps.{is_fresh, lives_grow, got_other, unborn_got}
use Rattle.chip_sheet.proofs.MadeLaws.{neither_call, either_no, made_fresh, udp_not_made}
use Rattle.chip_sheet.proofs.Within.{both_same}

-- A link event supplies bytes to the socket's present life alone.
supplied_other : (past : Past) (entry : Entry) (n life : ℕ) → (lives past n ≡ life → ⊥) → supplied (entry ∷ past) n life ≡ supplied past n life
supplied_other past (Link m what) n life h =
    cond-false (is_of past m n life) _ (supplied past n life) (and_right (eqb m n) (eqb (lives past n) life) (ne_eqb (lives past n) life h))
supplied_other past (Bus e a) n life h = refl
supplied_other past Rest n life h = refl

-- Nothing was supplied in a life that has not begun.
unborn_supplied : (past : Past) (n life : ℕ) → lives past n < life → supplied past n life ≡ []
unborn_supplied [] n life h = refl
unborn_supplied (entry ∷ past) n other h =
    let grow = lives_grow (life past n) (cause past n entry) in
    let differs : lives past n ≡ other → ⊥ = λ (e : lives past n ≡ other). omega (arith, grow, h, e) in
    supplied_other past entry n other differs ∙ unborn_supplied past n other (omega (arith, grow, h))

-- A life that has not left ESTABLISHED.
abbrev is_young : Status → Bool
is_young Init = true
is_young Listen = true
is_young SynSent = true
is_young Established = true
is_young at = false

closes_not_young : (b : Bool) → is_young (cond b Closed FinWait) ≡ true → ⊥
closes_not_young true h = cc
closes_not_young false h = cc

-- No row leads back to it.
young_next : (at : Status) (why : Cause) (facts : Facts) → begins why at ≡ false → is_young (next at why facts) ≡ true → is_young at ≡ true
young_next Init why facts old h = refl
young_next Listen why facts old h = refl
young_next SynSent why facts old h = refl
young_next Established why facts old h = refl
young_next Closed because.OpenTcp facts old h = cc
young_next Closed because.OpenUdp facts old h = cc
young_next Closed why facts old h = cc
young_next FinWait because.Ended facts old h = absurd (closes_not_young facts.both h)
young_next FinWait because.Shut facts old h = absurd (closes_not_young facts.both h)
young_next FinWait why facts old h = cc
young_next CloseWait because.Reset facts old h = cc
young_next CloseWait why facts old h = cc
young_next LastAck because.Reset facts old h = cc
young_next LastAck why facts old h = cc
young_next Udp because.Reset facts old h = cc
young_next Udp why facts old h = cc

-- What a young socket was: young in the same life, or its life begins.
young_from : (at : Life) (why : Cause) → is_young (life_after at why).status ≡ true
    → (((life_after at why).lives ≡ at.lives) × (is_young at.status ≡ true)) ⊎ ((life_after at why).lives ≡ at.lives + 1)
young_from at why =
    let after = next at.status why (facts_of why at) in
    cond_both (begins why at.status) (new_life at after) (lives_on at why after)
    (λ (now : Life). is_young now.status ≡ true → ((now.lives ≡ at.lives) × (is_young at.status ≡ true)) ⊎ (now.lives ≡ at.lives + 1))
    (λ new h. inr refl) (λ old h. inl (refl, young_next at.status why (facts_of why at) old h))

young_either : (at : Status) → is_young at ≡ true → (is_established at ≡ true) ⊎ (is_fresh at ≡ true)
young_either Init h = inr refl
young_either Listen h = inr refl
young_either SynSent h = inr refl
young_either Established h = inl refl
young_either at h = absurd (false≢true h)

-- Events that bring bytes.
abbrev brings : LinkEntry → Bool
brings (Got bytes) = true
brings (Datagram from body) = true
brings what = false

-- No call that is due on a fresh socket is answered with them.
out_fresh : (at : Status) (c : ConnId) (to : Addr) (port flying : ℕ) (shut : Bool) (flight free : ℕ) (what : LinkEntry) → is_fresh at ≡ true → brings what ≡ true
    → answers_call (outgoing_in at c to port flying shut) flight free what ≡ false
out_fresh Init c to port flying shut flight free what h b = refl
out_fresh Listen c to port flying shut flight free what h b = refl
out_fresh SynSent c to port flying shut flight free (Got bytes) h b = refl
out_fresh SynSent c to port flying shut flight free (Datagram from body) h b = refl
out_fresh SynSent c to port flying shut flight free what h b = cc
out_fresh at c to port flying shut flight free what h b = cc

in_fresh : (at : Status) (c : ConnId) (port room : ℕ) (ended : Bool) (flight free : ℕ) (what : LinkEntry) → is_fresh at ≡ true → brings what ≡ true
    → answers_call (incoming_in at c port room ended) flight free what ≡ false
in_fresh Init c port room ended flight free what h b = refl
in_fresh SynSent c port room ended flight free what h b = refl
in_fresh Listen c port room ended flight free (Got bytes) h b = refl
in_fresh Listen c port room ended flight free (Datagram from body) h b = refl
in_fresh Listen c port room ended flight free what h b = cc
in_fresh at c port room ended flight free what h b = cc

no_drop_brings : (what : LinkEntry) → brings what ≡ true → is_drop what ≡ false
no_drop_brings Dropped h = cc
no_drop_brings what h = refl

fresh_brings : (starts : Starts) (past : Past) (n : ℕ) (what : LinkEntry) → is_fresh (status past n) ≡ true → brings what ≡ true → fits starts past n what ≡ true → ⊥
fresh_brings starts past n what fresh b =
    neither_call starts past n what (no_drop_brings what b)
    (out_fresh (status past n) (connection n (lives past n)) (kept_address past n) (kept_port past n) (flight starts past n) (life past n).shut (flight starts past n) (rx_free starts past n) what fresh b)
    (in_fresh (status past n) (connection n (lives past n)) (kept_port past n) (rx_free starts past n) (life past n).ended (flight starts past n) (rx_free starts past n) what fresh b)

-- Nor does a datagram come in ESTABLISHED.
out_datagram : (at : Status) (c : ConnId) (to : Addr) (port flying : ℕ) (shut : Bool) (flight free : ℕ) (from : Addr) (body : List ℕ) → is_established at ≡ true
    → answers_call (outgoing_in at c to port flying shut) flight free (Datagram from body) ≡ false
out_datagram Established c to port flying shut flight free from body h = either_no (ltb 0 flying) (due.Write c) due.Nothing flight free (Datagram from body) refl refl
out_datagram at c to port flying shut flight free from body h = cc

in_datagram : (at : Status) (c : ConnId) (port room : ℕ) (ended : Bool) (flight free : ℕ) (from : Addr) (body : List ℕ) → is_established at ≡ true
    → answers_call (incoming_in at c port room ended) flight free (Datagram from body) ≡ false
in_datagram Established c port room ended flight free from body h = either_no (ltb 0 room) (due.Read c) due.Nothing flight free (Datagram from body) refl refl
in_datagram at c port room ended flight free from body h = cc

established_datagram : (starts : Starts) (past : Past) (n : ℕ) (from : Addr) (body : List ℕ) → is_established (status past n) ≡ true → fits starts past n (Datagram from body) ≡ true → ⊥
established_datagram starts past n from body on =
    neither_call starts past n (Datagram from body) refl
    (out_datagram (status past n) (connection n (lives past n)) (kept_address past n) (kept_port past n) (flight starts past n) (life past n).shut (flight starts past n) (rx_free starts past n) from body on)
    (in_datagram (status past n) (connection n (lives past n)) (kept_port past n) (rx_free starts past n) (life past n).ended (flight starts past n) (rx_free starts past n) from body on)

-- What is put into the buffer of a young socket is what is supplied.
not_brought : (what : LinkEntry) → brings what ≡ false → bytes_of what ≡ []
not_brought (Got bytes) h = cc
not_brought (Datagram from body) h = cc
not_brought what h = refl

nothing_put : (at : Status) (free : ℕ) (what : LinkEntry) → brings what ≡ false → put_by at free what ≡ []
nothing_put at free (Got bytes) h = cc
nothing_put at free (Datagram from body) h = cc
nothing_put Established free what h = refl
nothing_put Udp free what h = refl
nothing_put at free what h = refl

put_got : (at : Status) (free : ℕ) (bytes : List ℕ) → is_established at ≡ true → put_by at free (Got bytes) ≡ bytes
put_got Established free bytes h = refl
put_got at free bytes h = cc

put_young : (starts : Starts) (past : Past) (n free : ℕ) (what : LinkEntry) → is_young (status past n) ≡ true → fits starts past n what ≡ true → put_by (status past n) free what ≡ bytes_of what
put_young starts past n free what young may =
    elim (cases_Bool (brings what)) [
      | inr none ↦ nothing_put (status past n) free what none ∙ sym (not_brought what none)
      | inl some ↦ elim (young_either (status past n) young) [
        | inl on ↦ established starts past n free what on may some
        | inr fresh ↦ absurd (fresh_brings starts past n what fresh some may)
      ]
    ]
  where
    established : (starts : Starts) (past : Past) (n free : ℕ) (what : LinkEntry) → is_established (status past n) ≡ true → fits starts past n what ≡ true → brings what ≡ true
        → put_by (status past n) free what ≡ bytes_of what
    established starts past n free (Got bytes) on may some = put_got (status past n) free bytes on
    established starts past n free (Datagram from body) on may some = absurd (established_datagram starts past n from body on may)
    established starts past n free what on may some = cc

both_get : (of_it : Bool) (before before2 more more2 : List ℕ) → before ≡ before2 → (of_it ≡ true → more2 ≡ more) → cond of_it (before ++ more) before ≡ cond of_it (before2 ++ more2) before2
both_get true before before2 more more2 e same = ap (λ (l : List ℕ). l ++ more) e ∙ ap (λ (l : List ℕ). before2 ++ l) (sym (same refl))
both_get false before before2 more more2 e same = e

same_step : (starts : Starts) (past : Past) (entry : Entry) (n : ℕ) → Legal starts (entry ∷ past) → is_young (status past n) ≡ true
    → supplied past n (lives past n) ≡ got starts past n (lives past n) → supplied (entry ∷ past) n (lives past n) ≡ got starts (entry ∷ past) n (lives past n)
same_step starts past (Link m what) n legal young e =
    both_get (is_of past m n (lives past n)) _ _ (bytes_of what) _ e
    (λ of_it. put_young starts past n (free_behind starts past n (lives past n) (length (got starts past n (lives past n)))) what young
    (subst (λ (k : ℕ). fits starts past k what ≡ true) (both_same m n (lives past n) (lives past n) of_it).0 legal.0.1))
same_step starts past (Bus e a) n legal young same = same
same_step starts past Rest n legal young same = same

-- In a life that has not left ESTABLISHED all that was supplied was received.
pub same_young : (starts : Starts) (past : Past) (n : ℕ) → Legal starts past → is_young (status past n) ≡ true → supplied past n (lives past n) ≡ got starts past n (lives past n)
same_young starts [] n legal h = refl
same_young starts (entry ∷ past) n legal h =
    elim (young_from (life past n) (cause past n entry) h) [
      | inl (same, young) ↦
          ap (supplied (entry ∷ past) n) same
          ∙ same_step starts past entry n legal young (same_young starts past n legal.1 young)
          ∙ ap (got starts (entry ∷ past) n) (sym same)
      | inr begun ↦
          ap (supplied (entry ∷ past) n) begun
          ∙ supplied_other past entry n (lives past n + 1) (λ e. omega (arith, e))
          ∙ unborn_supplied past n (lives past n + 1) (omega arith)
          ∙ sym (unborn_got starts past n (lives past n + 1) (omega arith))
          ∙ sym (got_other starts past entry n (lives past n + 1) (λ e. omega (arith, e)))
          ∙ ap (got starts (entry ∷ past) n) (sym begun)
    ]

-- The first list is a front of the second.
abbrev IsFront : List ℕ → List ℕ → Type 0
IsFront part whole = (more : List ℕ) × (whole ≡ part ++ more)

established_young : (at : Status) → is_established at ≡ true → is_young at ≡ true
established_young Established h = refl
established_young at h = cc

fresh_young : (at : Status) → is_fresh at ≡ true → is_young at ≡ true
fresh_young Init h = refl
fresh_young Listen h = refl
fresh_young SynSent h = refl
fresh_young at h = cc

-- Outside of UDP a link event puts nothing, or all that it supplies, and that in ESTABLISHED.
put_either : (at : Status) (free : ℕ) (what : LinkEntry) → is_udp at ≡ false → (put_by at free what ≡ []) ⊎ ((is_established at ≡ true) × (put_by at free what ≡ bytes_of what))
put_either Established free (Got bytes) h = inr (refl, refl)
put_either Established free what h = inl refl
put_either Udp free what h = cc
put_either at free what h = inl refl

front_step : (of_it : Bool) (part whole bytes put : List ℕ) → (of_it ≡ true → (put ≡ []) ⊎ ((whole ≡ part) × (put ≡ bytes))) → IsFront part whole
    → IsFront (cond of_it (part ++ put) part) (cond of_it (whole ++ bytes) whole)
front_step false part whole bytes put way h = h
front_step true part whole bytes put way (more, e) =
    elim (way refl) [
      | inl none ↦ (more ++ bytes, ap (λ (l : List ℕ). l ++ bytes) e ∙ append_assoc part more bytes ∙ ap (λ (l : List ℕ). l ++ (more ++ bytes)) (sym (append-nil part)) ∙ ap (λ (l : List ℕ). (part ++ l) ++ (more ++ bytes)) (sym none))
      | inr (same, all) ↦ ([], ap (λ (l : List ℕ). l ++ bytes) same ∙ ap (λ (l : List ℕ). part ++ l) (sym all) ∙ sym (append-nil (part ++ put)))
    ]

-- What was made before, or is made now.
made_before : (m_ of_it before : Bool) → ((m_ && of_it) || before) ≡ true → (before ≡ true) ⊎ ((m_ ≡ true) × (of_it ≡ true))
made_before m_ of_it true h = inl refl
made_before true true false h = inr (refl, refl)
made_before true false false h = cc
made_before false of_it false h = cc

makes_brings : (what : LinkEntry) → makes what ≡ true → brings what ≡ false
makes_brings (Got bytes) h = cc
makes_brings (Datagram from body) h = cc
makes_brings what h = refl

pub front : (starts : Starts) (past : Past) (n life : ℕ) → Legal starts past → is_made past n life ≡ true → (more : List ℕ) × (supplied past n life ≡ got starts past n life ++ more)
front starts [] n life legal made = cc
front starts (Link m what ∷ past) n life legal made =
    let free = free_behind starts past n life (length (got starts past n life)) in
    elim (made_before (makes what) (is_of past m n life) (is_made past n life) made) [
      | inl before ↦
          front_step (is_of past m n life) (got starts past n life) (supplied past n life) (bytes_of what) (put_by (status past n) free what)
          (λ of_it. way starts past m n life what legal before of_it free) (front starts past n life legal.1 before)
      | inr (makes_it, of_it) ↦
          front_step (is_of past m n life) (got starts past n life) (supplied past n life) (bytes_of what) (put_by (status past n) free what)
          (λ here. inl (nothing_put (status past n) free what (makes_brings what makes_it))) (begun starts past m n life what legal makes_it of_it)
    ]
  where
    way : (starts : Starts) (past : Past) (m n life : ℕ) (what : LinkEntry) → Legal starts (Link m what ∷ past) → is_made past n life ≡ true → is_of past m n life ≡ true → (free : ℕ)
        → (put_by (status past n) free what ≡ []) ⊎ ((supplied past n life ≡ got starts past n life) × (put_by (status past n) free what ≡ bytes_of what))
    way starts past m n life what legal before of_it free =
        let here = (both_same m n (lives past n) life of_it).1 in
        elim (cases_Bool (is_udp (status past n))) [
          | inl udp ↦ absurd (false≢true (sym (udp_not_made starts past n legal.1 udp) ∙ subst (λ (l : ℕ). is_made past n l ≡ true) (sym here) before))
          | inr other ↦ elim (put_either (status past n) free what other) [
            | inl none ↦ inl none
            | inr (on, all) ↦ inr (subst (λ (l : ℕ). supplied past n l ≡ got starts past n l) here (same_young starts past n legal.1 (established_young (status past n) on)), all)
          ]
        ]

    begun : (starts : Starts) (past : Past) (m n life : ℕ) (what : LinkEntry) → Legal starts (Link m what ∷ past) → makes what ≡ true → is_of past m n life ≡ true
        → IsFront (got starts past n life) (supplied past n life)
    begun starts past m n life what legal makes_it of_it =
        let here = both_same m n (lives past n) life of_it in
        elim (cases_Bool (is_fresh (status past n))) [
          | inl fresh ↦ ([], subst (λ (l : ℕ). supplied past n l ≡ got starts past n l) here.1 (same_young starts past n legal.1 (fresh_young (status past n) fresh)) ∙ sym (append-nil (got starts past n life)))
          | inr old ↦ absurd (made_fresh starts past n what makes_it (subst (λ (k : ℕ). fits starts past k what ≡ true) here.0 legal.0.1) old)
        ]
front starts (Bus e a ∷ past) n life legal made = front starts past n life legal.1 made
front starts (Rest ∷ past) n life legal made = front starts past n life legal.1 made
