-- What becomes of a connection that was made.
use Rattle.std.proofs.Common.{◌≡◌, ℕ, Bool, true, false, not, ◌&&◌, ◌||◌, cond, eqb, [], ◌∷◌, Option, None, Some, inl, inr, refl, sym, ap, ◌∙◌, subst, ◌⊎◌}
use Rattle.std.proofs.lemmas.Bool.{cases_Bool, or_left, or_right, eq-eqb, false≢true}
use Rattle.chip_sheet.specs.declared.event.Addr.{Addr}
use Rattle.chip_sheet.specs.declared.event.ConnId.{ConnId}
use Rattle.chip_sheet.specs.declared.event.Entry.{Entry}
use Rattle.chip_sheet.specs.declared.event.Entry.TheVariants.{Bus, Link, Rest}
use Rattle.chip_sheet.specs.declared.event.LinkEntry.{LinkEntry}
use Rattle.chip_sheet.specs.declared.event.LinkEntry.TheVariants.{Linked, Accepted, Dropped}
use Rattle.chip_sheet.specs.declared.socket.Status.{Status}
use Rattle.chip_sheet.specs.declared.socket.Status.TheVariants.{Closed, Init, Listen, SynSent}
use Rattle.chip_sheet.specs.declared.socket.Cause.{Cause}
use Rattle.chip_sheet.specs.declared.socket.Cause.TheVariants as because
use Rattle.chip_sheet.specs.declared.socket.Due.{Due}
use Rattle.chip_sheet.specs.declared.socket.Due.TheVariants as due
use Rattle.chip_sheet.specs.declared.phase.Access.{Access}
use Rattle.chip_sheet.specs.Past.{Past}
use Rattle.chip_sheet.specs.Frames.{access}
use Rattle.chip_sheet.specs.Life.{Life, Facts, facts_of, life, life_after, lives_on, new_life, next, begins, cause, cause_by, happening, status, lives, old, old_after, closing, is_closed, asks_link}
use Rattle.chip_sheet.specs.Streams.{Starts, is_of, makes, is_made}
use Rattle.chip_sheet.specs.Windows.{flight, rx_free}
use Rattle.chip_sheet.specs.Connections.{is_drop, is_life, is_dropped}
use Rattle.chip_sheet.specs.LinkCalls.{outgoing_in, incoming_in, connection, kept_address, kept_port, answers_call, fits}
use Rattle.chip_sheet.specs.Legal.{Legal}
use Rattle.chip_sheet.proofs.LifeSteps.{is_fresh}
use Rattle.chip_sheet.proofs.Within.{both_same}
use Rattle.chip_sheet.proofs.MadeLaws.{drop_only, neither_call, made_fresh, both_true}
use Rattle.chip_sheet.proofs.LivesLaws.{old_stays}
use Rattle.chip_sheet.proofs.Quiet.{asks_asked}
use Rattle.chip_sheet.proofs.AccessCauses.{of_access, access_cause}

-- The present connection of a socket that is not closed: the link was asked in its life, and no older life is there.
record IsPresent (at : Life) (l : ℕ) : Type 0 where
  is : at.lives ≡ l
  open_ : is_closed at.status ≡ false
  asked : at.asked ≡ true
  no_old : at.old ≡ None

-- It goes on, or it becomes the old life.
no_new : (why : Cause) (at : Status) → is_closed at ≡ false → begins why at ≡ false
no_new because.OpenTcp Closed h = cc
no_new because.OpenUdp Closed h = cc
no_new because.OpenTcp at h = refl
no_new because.OpenUdp at h = refl
no_new why at h = refl

drop_keeps : (at : Status) (facts : Facts) → next at because.Dropped facts ≡ at
drop_keeps Closed facts = refl
drop_keeps at facts = refl

closes_to : (closed after asked : Bool) (l : ℕ) → closed ≡ false → after ≡ true → asked ≡ true → cond (not closed && after && asked) (Some l) None ≡ Some l
closes_to false true true l h k a = refl
closes_to true after asked l h k a = cc
closes_to false false asked l h k a = cc
closes_to false true false l h k a = cc

stays_none : (closed asked : Bool) (l : ℕ) → cond (not closed && false && asked) (Some l) None ≡ None
stays_none true asked l = refl
stays_none false asked l = refl

old_none : (why : Cause) (closes : Option ℕ) → closes ≡ None → old_after why closes None ≡ None
old_none because.Dropped closes h = refl
old_none why closes h = h

old_some : (why : Cause) (closes : Option ℕ) (l : ℕ) → (why ≡ because.Dropped → ⊥) → closes ≡ Some l → old_after why closes None ≡ Some l
old_some because.Dropped closes l other h = absurd (other refl)
old_some why closes l other h = h

goes_on : (at : Life) (why : Cause) (l : ℕ) → IsPresent at l → IsPresent (life_after at why) l ⊎ ((life_after at why).old ≡ Some l)
goes_on at why l h =
    let after = next at.status why (facts_of why at) in
    subst (λ (b : Bool). IsPresent (cond b (new_life at after) (lives_on at why after)) l ⊎ ((cond b (new_life at after) (lives_on at why after)).old ≡ Some l))
    (sym (no_new why at.status h.open_))
    (elim (cases_Bool (is_closed after)) [
      | inr on ↦ inl (record {
        is = h.is;
        open_ = on;
        asked = or_left at.asked (asks_link after) h.asked;
        no_old = ap (old_after why (closing at after)) h.no_old ∙ old_none why (closing at after) (ap (λ (b : Bool). cond (not (is_closed at.status) && b && at.asked) (Some at.lives) None) on ∙ stays_none (is_closed at.status) at.asked at.lives);
      })
      | inl shut ↦ inr (
          ap (old_after why (closing at after)) h.no_old
          ∙ old_some why (closing at after) l
          (λ e. false≢true (sym h.open_ ∙ ap is_closed (sym (drop_keeps at.status (facts_of why at))) ∙ ap (λ (w : Cause). is_closed (next at.status w (facts_of why at))) (sym e) ∙ shut))
          (closes_to (is_closed at.status) (is_closed after) at.asked at.lives h.open_ shut h.asked ∙ ap Some h.is))
    ])

-- A connection is made only where the link was asked, and no old life is there.
no_call_init : (at : Status) (c : ConnId) (to : Addr) (port fl : ℕ) (shut : Bool) (flight free : ℕ) (what : LinkEntry) → is_fresh at ≡ true → asks_link at ≡ false
    → answers_call (outgoing_in at c to port fl shut) flight free what ≡ false
no_call_init Init c to port fl shut flight free what h k = refl
no_call_init Listen c to port fl shut flight free what h k = cc
no_call_init SynSent c to port fl shut flight free what h k = cc
no_call_init at c to port fl shut flight free what h k = cc

no_call_in_init : (at : Status) (c : ConnId) (port room : ℕ) (ended : Bool) (flight free : ℕ) (what : LinkEntry) → is_fresh at ≡ true → asks_link at ≡ false
    → answers_call (incoming_in at c port room ended) flight free what ≡ false
no_call_in_init Init c port room ended flight free what h k = refl
no_call_in_init Listen c port room ended flight free what h k = cc
no_call_in_init SynSent c port room ended flight free what h k = cc
no_call_in_init at c port room ended flight free what h k = cc

no_drop : (what : LinkEntry) → makes what ≡ true → is_drop what ≡ false
no_drop Dropped h = cc
no_drop what h = refl

is_true : (b : Bool) → (b ≡ false → ⊥) → b ≡ true
is_true true h = refl
is_true false h = absurd (h refl)

asked_link : (starts : Starts) (past : Past) (n : ℕ) (what : LinkEntry) → makes what ≡ true → fits starts past n what ≡ true → asks_link (status past n) ≡ true
asked_link starts past n what m h =
    let fresh = is_true (is_fresh (status past n)) (made_fresh starts past n what m h) in
    is_true (asks_link (status past n)) (λ none.
    neither_call starts past n what (no_drop what m)
    (no_call_init (status past n) (connection n (lives past n)) (kept_address past n) (kept_port past n) (flight starts past n) (life past n).shut (flight starts past n) (rx_free starts past n) what fresh none)
    (no_call_in_init (status past n) (connection n (lives past n)) (kept_port past n) (rx_free starts past n) (life past n).ended (flight starts past n) (rx_free starts past n) what fresh none) h)

old_only_drops : (starts : Starts) (past : Past) (n : ℕ) (what : LinkEntry) (o : Option ℕ) (x y : Due) → is_drop what ≡ false
    → (answers_call (elim o as (λ z. Due) [ None ↦ x | Some l ↦ due.Drop (connection n l) ]) (flight starts past n) (rx_free starts past n) what
    || answers_call (elim o as (λ z. Due) [ None ↦ y | Some l ↦ due.Nothing ]) (flight starts past n) (rx_free starts past n) what) ≡ true → o ≡ None
old_only_drops starts past n what None x y drop h = refl
old_only_drops starts past n what (Some l) x y drop h =
    absurd (false≢true (sym (ap (λ (b : Bool). b || false) (drop_only (connection n l) (flight starts past n) (rx_free starts past n) what drop)) ∙ h))

no_old_there : (starts : Starts) (past : Past) (n : ℕ) (what : LinkEntry) → makes what ≡ true → fits starts past n what ≡ true → old past n ≡ None
no_old_there starts past n what m h =
    let at = life past n in
    old_only_drops starts past n what at.old
    (outgoing_in at.status (connection n at.lives) (kept_address past n) (kept_port past n) (flight starts past n) at.shut)
    (incoming_in at.status (connection n at.lives) (kept_port past n) (rx_free starts past n) at.ended) (no_drop what m) h

asks_not_closed : (at : Status) → asks_link at ≡ true → is_closed at ≡ false
asks_not_closed Closed h = cc
asks_not_closed at h = refl

linked_open : (what : LinkEntry) (at : Status) (facts : Facts) → makes what ≡ true → is_closed at ≡ false → is_closed (next at (happening what) facts) ≡ false
linked_open Linked Closed facts m h = cc
linked_open Linked at facts m h = refl
linked_open (Accepted from) Closed facts m h = cc
linked_open (Accepted from) at facts m h = refl
linked_open what at facts m h = cc

-- What is made now is present.
present_before : (starts : Starts) (past : Past) (n : ℕ) (what : LinkEntry) → makes what ≡ true → fits starts past n what ≡ true → IsPresent (life past n) (lives past n)
present_before starts past n what m h =
    let asks = asked_link starts past n what m h in
    record { is = refl; open_ = asks_not_closed (status past n) asks; asked = asks_asked past n asks; no_old = no_old_there starts past n what m h }

-- A made connection is present, old, or dropped.
Kept : Past → ℕ → ℕ → Type 0
Kept past n l = IsPresent (life past n) l ⊎ ((old past n ≡ Some l) ⊎ (is_dropped past n l ≡ true))

from_present : (past : Past) (entry : Entry) (n l : ℕ) → IsPresent (life past n) l → Kept (entry ∷ past) n l
unfolding Kept
from_present past entry n l h = elim (goes_on (life past n) (cause past n entry) l h) [ inl on ↦ inl on | inr gone ↦ inr (inl gone) ]

dropped_stays : (past : Past) (entry : Entry) (n l : ℕ) → is_dropped past n l ≡ true → is_dropped (entry ∷ past) n l ≡ true
dropped_stays past (Bus e a) n l h = h
dropped_stays past Rest n l h = h
dropped_stays past (Link m what) n l h = or_right (is_drop what && eqb m n && is_life l (old past n)) (is_dropped past n l) h

dropped_by : (why : Cause) → (why ≡ because.Dropped) ⊎ (why ≡ because.Dropped → ⊥)
dropped_by because.Dropped = inl refl
dropped_by why = inr (λ h. cc)

drop_event : (b : Bool) (what : LinkEntry) → cond b (happening what) because.Nothing ≡ because.Dropped → (b ≡ true) × (is_drop what ≡ true)
drop_event true Dropped h = (refl, refl)
drop_event true what h = cc
drop_event false what h = cc

drops : Cause → Bool
drops because.Dropped = true
drops why = false

not_by_access : (why : Cause) → of_access why ≡ true → drops why ≡ false
unfolding drops
not_by_access because.Dropped h = cc
not_by_access why h = refl

no_access : (past : Past) (n : ℕ) (made : Access) → drops (cause_by past n made) ≡ false
no_access past n made = not_by_access (cause_by past n made) (access_cause past n made)

dropped_now : (past : Past) (entry : Entry) (n l : ℕ) → cause past n entry ≡ because.Dropped → old past n ≡ Some l → is_dropped (entry ∷ past) n l ≡ true
unfolding drops
dropped_now past (Bus e a) n l h is = absurd (false≢true (sym (no_access past n (access past e)) ∙ ap drops h))
dropped_now past Rest n l h is = cc
dropped_now past (Link m what) n l h is =
    let it = drop_event (eqb m n) what h in
    or_left (is_drop what && eqb m n && is_life l (old past n)) (is_dropped past n l)
    (both_true (both_true it.1 it.0) (ap (is_life l) is ∙ eq-eqb l l refl))

from_old : (past : Past) (entry : Entry) (n l : ℕ) → old past n ≡ Some l → Kept (entry ∷ past) n l
unfolding Kept
from_old past entry n l h =
    elim (dropped_by (cause past n entry)) [
      | inl now ↦ inr (inr (dropped_now past entry n l now h))
      | inr other ↦ inr (inl (old_stays past entry n l other h))
    ]

from_kept : (past : Past) (entry : Entry) (n l : ℕ) → Kept past n l → Kept (entry ∷ past) n l
unfolding Kept
from_kept past entry n l (inl present) = from_present past entry n l present
from_kept past entry n l (inr (inl old_one)) = from_old past entry n l old_one
from_kept past entry n l (inr (inr dropped)) = inr (inr (dropped_stays past entry n l dropped))

made_before : (m_ of_it before : Bool) → ((m_ && of_it) || before) ≡ true → (before ≡ true) ⊎ ((m_ ≡ true) × (of_it ≡ true))
made_before m_ of_it true h = inl refl
made_before true true false h = inr (refl, refl)
made_before true false false h = cc
made_before false of_it false h = cc

kept : (starts : Starts) (past : Past) (n l : ℕ) → Legal starts past → is_made past n l ≡ true → Kept past n l
kept starts [] n l legal h = cc
kept starts (Bus e a ∷ past) n l legal h = from_kept past (Bus e a) n l (kept starts past n l legal.1 h)
kept starts (Rest ∷ past) n l legal h = from_kept past Rest n l (kept starts past n l legal.1 h)
kept starts (Link m what ∷ past) n l legal h =
    elim (made_before (makes what) (is_of past m n l) (is_made past n l) h) [
      | inl before ↦ from_kept past (Link m what) n l (kept starts past n l legal.1 before)
      | inr (makes_it, of_it) ↦
          let here = both_same m n (lives past n) l of_it in
          from_present past (Link m what) n l
          (subst (IsPresent (life past n)) here.1 (present_before starts past n what makes_it (subst (λ (k : ℕ). fits starts past k what ≡ true) here.0 legal.0.1)))
    ]

pub made_kept : (starts : Starts) (past : Past) (n l : ℕ) → Legal starts past → is_made past n l ≡ true
    → ((lives past n ≡ l) × (is_closed (status past n) ≡ false)) ⊎ ((old past n ≡ Some l) ⊎ (is_dropped past n l ≡ true))
unfolding Kept
made_kept starts past n l legal h = by (kept starts past n l legal h)
  where
    by : Kept past n l → ((lives past n ≡ l) × (is_closed (status past n) ≡ false)) ⊎ ((old past n ≡ Some l) ⊎ (is_dropped past n l ≡ true))
    by (inl present) = inl (present.is, present.open_)
    by (inr rest) = inr rest
