-- What the links show after a call is what the trait of links says of it.
use Rattle.std.proofs.Common.{◌≡◌, ◌<◌, ◌==◌, ◌&&◌, ◌⊎◌, inl, inr, ℕ, zero, suc, Bool, true, false, not, refl, sym, ap, subst, ◌∙◌, List, [], ◌∷◌, ◌++◌, length, map, set, get_or, Option, Some, None, if◌then◌else◌, append-nil, nat_le}
use Rattle.std.proofs.Common.{arith}
use Rattle.std.specs.List.{find}
use Rattle.std.specs.Option.{option_map_or, option_map}
use Rattle.std.proofs.lemmas.List.{get_or-set_same, get_or-set_other}
use Rattle.std.proofs.lemmas.Bool.{cases_eq}
use Rattle.wz_base.specs.Outside.{RisesOnly}
use Rattle.chip_sheet.specs.declared.event.Addr.{Addr}
use Rattle.chip_sheet.specs.declared.event.ConnId.{ConnId}
use Rattle.chip_sheet.specs.LinkAnswers.{LinkAnswer, Done, DoneFrom, NotYet, Failed}
use Rattle.link_trait.specs.Calls.{Call, SetRoutes, Connect, Accept, Write, Read, SendTo, RecvFrom, Shut, DropConn, same, is_on}
use Rattle.link_trait.specs.Shown.{Shown, Counts, Makes, Lists, IsBlank, IsFresh, Fails, Waits, Stalls, gives, addresses, gets, moves, makes, ends, added, stalled_at, stalled_after}
use Rattle.link_trait.proofs.Connections.{same_self, same_is}
use Rattle.link_script.specs.declared.wanted.Wanted.TheVariants.{ServerAt}
use Rattle.link_script.specs.declared.peer.Connects.{Connects}
use Rattle.link_script.specs.declared.peer.Connects.TheVariants as word
use Rattle.link_script.specs.Acting.{Acting, keeps_waiting, fed, peer_answer, peer_after}
use Rattle.link_script.specs.Play.{Played, Plays, shown, server_in, meeting, is_lost, reaches, lost_after, lost_by, later, peers_by, answer_or, unserved, answer_on, after_on, risen, has_failed, has_waited, is_there, wanted_by, stalled_by, is_outgoing, refusal, refused_by, suits}
use Rattle.link_script.specs.Scripts.{Script}
use Rattle.link_script.specs.Start.{start_of, first_state}
use Rattle.link_script.proofs.Goings.{peer_goes, peer_made, no_both}
use Rattle.link_script.proofs.Servers.{Newly, other_met, mine_met, mine_after, other_after, fed_start}

-- the counts

rises_failed : (a : LinkAnswer) (n : ℕ) → RisesOnly (Fails a) n (risen (has_failed a) n)
rises_failed Failed n = record { later = omega arith; rose = λ _. omega arith; still = λ h. absurd (h tt) }
rises_failed a n = record { later = omega arith; rose = λ h. absurd h; still = λ _. refl }

rises_waited : (a : LinkAnswer) (n : ℕ) → RisesOnly (Waits a) n (risen (has_waited a) n)
rises_waited NotYet n = record { later = omega arith; rose = λ _. omega arith; still = λ h. absurd (h tt) }
rises_waited a n = record { later = omega arith; rose = λ h. absurd h; still = λ _. refl }

rises_never : (n : ℕ) → RisesOnly ⊥ n n
rises_never n = record { later = omega arith; rose = λ h. absurd h; still = λ _. refl }

rises_stalled : (call : Call) (a : LinkAnswer) (n : ℕ) → RisesOnly (Stalls call a) n (risen (is_outgoing call && has_waited a) n)
rises_stalled (Write c piece) a n = rises_waited a n
rises_stalled (SendTo c port to body) a n = rises_waited a n
rises_stalled (SetRoutes routes) a n = rises_never n
rises_stalled (Connect c to) a n = rises_never n
rises_stalled (Accept c port) a n = rises_never n
rises_stalled (Read c count) a n = rises_never n
rises_stalled (RecvFrom c port count) a n = rises_never n
rises_stalled (Shut c) a n = rises_never n
rises_stalled (DropConn c) a n = rises_never n

life_at : (c : ConnId) (a : LinkAnswer) → (if has_waited a then c.life else 0) ≡ stalled_at c a
life_at c NotYet = refl
life_at c a = refl

set_at : (l : List ℕ) (i n x : ℕ) → i < length l → get_or (set l i x) n 0 ≡ (if i == n then x else get_or l n 0)
set_at l i n x h =
    let go : (v : Bool) → (i == n) ≡ v → get_or (set l i x) n 0 ≡ (if v then x else get_or l n 0) = elim [
      | true ↦ (λ e. let is : i ≡ n = grind (arith, e) in subst (λ m. get_or (set l i x) m 0 ≡ x) is (get_or-set_same l i x 0 h))
      | false ↦ (λ e. get_or-set_other l i n x 0 (λ is. no_both (i == n) (grind (arith, is)) e))
    ] in
    go (i == n) refl

-- the sockets of the calls that are kept of each socket are those of the lists
abbrev pub OfSocket : ℕ → Call → Type 0
OfSocket count (Write c piece) = c.sn < count
OfSocket count (SendTo c port to body) = c.sn < count
OfSocket count call = Unit {0}

stalls_after : (l : List ℕ) (call : Call) (a : LinkAnswer) (n : ℕ) → OfSocket (length l) call
    → get_or (stalled_by l call (has_waited a)) n 0 ≡ stalled_after (λ n. get_or l n 0) call a n
stalls_after l (Write c piece) a n h = rw (sym (life_at c a)) (set_at l c.sn n (if has_waited a then c.life else 0) h)
stalls_after l (SendTo c port to body) a n h = rw (sym (life_at c a)) (set_at l c.sn n (if has_waited a then c.life else 0) h)
stalls_after l (SetRoutes routes) a n h = refl
stalls_after l (Connect c to) a n h = refl
stalls_after l (Accept c port) a n h = refl
stalls_after l (Read c count) a n h = refl
stalls_after l (RecvFrom c port count) a n h = refl
stalls_after l (Shut c) a n h = refl
stalls_after l (DropConn c) a n h = refl

counts_on : (s : Played) (c : ConnId) (call : Call) → OfSocket (length s.stalled) call
    → Counts (shown s) call (answer_on s c call) (shown (after_on s c call))
counts_on s c call h =
    let a = answer_on s c call in
    record {
      faults = rises_failed a s.faults;
      waits = rises_waited a s.waits;
      stalls = rises_stalled call a s.stalls;
      stalled = λ n. stalls_after s.stalled call a n h;
    }

-- what is lost

reaches_later : (o : Option ℕ) (life other : ℕ) → reaches (Some (later o life)) other ≡ false → (reaches o other ≡ false) × (nat_le other life ≡ false)
reaches_later None life other h = (refl, h)
reaches_later (Some latest) life other h = (grind (arith, h), grind (arith, h))

past_end : (n : ℕ) (d : Option ℕ) → get_or [] n d ≡ d
past_end zero d = refl
past_end (suc n) d = refl

within_or : (lost : List (Option ℕ)) (n : ℕ) → (n < length lost) ⊎ ((d : Option ℕ) → get_or lost n d ≡ d)
within_or [] n = inr (λ d. past_end n d)
within_or (x ∷ xs) zero = inl (omega arith)
within_or (x ∷ xs) (suc n) = elim (within_or xs n) as (λ _. (suc n < length (x ∷ xs)) ⊎ ((d : Option ℕ) → get_or xs n d ≡ d)) [
  | inl h ↦ inl (omega (arith, h))
  | inr h ↦ inr h
]

lost_here : (lost : List (Option ℕ)) (c d : ConnId) → d.sn ≡ c.sn
    → is_lost (set lost c.sn (Some (later (get_or lost c.sn None) c.life))) d ≡ false → is_lost lost d ≡ false
lost_here lost c d is h =
    elim (within_or lost c.sn) as (λ _. is_lost lost d ≡ false) [
      | inl below ↦ (
          let at = ap (λ n. get_or (set lost c.sn (Some (later (get_or lost c.sn None) c.life))) n None) is
          ∙ get_or-set_same lost c.sn (Some (later (get_or lost c.sn None) c.life)) None below in
          ap (λ n. reaches (get_or lost n None) d.life) is
          ∙ (reaches_later (get_or lost c.sn None) c.life d.life (sym (ap (λ o. reaches o d.life) at) ∙ h)).0)
      | inr past ↦ (
          ap (λ n. reaches (get_or lost n None) d.life) is ∙ ap (λ o. reaches o d.life) (past None))
    ]

lost_set : (lost : List (Option ℕ)) (c d : ConnId) → is_lost (set lost c.sn (Some (later (get_or lost c.sn None) c.life))) d ≡ false
    → is_lost lost d ≡ false
lost_set lost c d h = elim (cases_eq d.sn c.sn) as (λ _. is_lost lost d ≡ false) [
  | inl is ↦ lost_here lost c d is h
  | inr off ↦ (ap (λ o. reaches o d.life) (sym (get_or-set_other lost c.sn d.sn (Some (later (get_or lost c.sn None) c.life)) None off)) ∙ h)
]

lost_less : (lost : List (Option ℕ)) (call : Call) (d : ConnId) → is_lost (lost_after lost call) d ≡ false → is_lost lost d ≡ false
lost_less lost (SendTo c port to body) d h = lost_set lost c d h
lost_less lost call d h = h

by_less : (lost : List (Option ℕ)) (call : Call) (o : Option Acting) (d : ConnId) → is_lost (lost_by lost call o) d ≡ false → is_lost lost d ≡ false
by_less lost call None d h = lost_less lost call d h
by_less lost call (Some p) d h = h

refused_moves : (c : ConnId) (to : Addr) (o : Option Acting) → moves (Connect c to) (refused_by o) ≡ false
refused_moves c to None = refl
refused_moves c to (Some p) = elim (keeps_waiting p) as (λ v. moves (Connect c to) (if v then NotYet else refusal p.script.connect) ≡ false) [
  | true ↦ refl
  | false ↦ (let go : (w : Connects) → moves (Connect c to) (refusal w) ≡ false = elim [ word.Fine ↦ refl | word.Refused ↦ refl | word.Timeout ↦ refl ] in
      go p.script.connect)
]

-- a datagram that went to nobody is lost
own_later : (o : Option ℕ) (life : ℕ) → reaches (Some (later o life)) life ≡ true
own_later None life = grind arith
own_later (Some latest) life = grind arith

lost_own : (lost : List (Option ℕ)) (c : ConnId) → c.sn < length lost
    → is_lost (set lost c.sn (Some (later (get_or lost c.sn None) c.life))) c ≡ true
lost_own lost c h =
    ap (λ o. reaches o c.life) (get_or-set_same lost c.sn (Some (later (get_or lost c.sn None) c.life)) None h)
    ∙ own_later (get_or lost c.sn None) c.life

-- without a peer nothing moves, but what is lost
moves_not : (s : Played) (call : Call) (c : ConnId) → is_on call c ≡ true → OfSocket (length s.lost) call
    → is_lost (lost_after s.lost call) c ≡ false → moves call (unserved s.peers call) ≡ false
moves_not s (SetRoutes routes) c own h l = refl
moves_not s (Connect d to) c own h l = refused_moves d to (find (suits (ServerAt to)) s.peers)
moves_not s (Accept d port) c own h l = refl
moves_not s (Write d piece) c own h l = refl
moves_not s (Read d count) c own h l = refl
moves_not s (SendTo d port to body) c own h l =
    let L : ConnId → Type 0 = λ x. is_lost (set s.lost d.sn (Some (later (get_or s.lost d.sn None) d.life))) x ≡ true in
    absurd (no_both (is_lost (lost_after s.lost (SendTo d port to body)) c) (subst L (same_is d c own) (lost_own s.lost d h)) l)
moves_not s (RecvFrom d port count) c own h l = refl
moves_not s (Shut d) c own h l = refl
moves_not s (DropConn d) c own h l = refl

refused_makes : (c : ConnId) (to : Addr) (d : ConnId) (o : Option Acting) → makes (Connect c to) (refused_by o) d ≡ false
refused_makes c to d None = refl
refused_makes c to d (Some p) = elim (keeps_waiting p) as (λ v. makes (Connect c to) (if v then NotYet else refusal p.script.connect) d ≡ false) [
  | true ↦ refl
  | false ↦ (let go : (w : Connects) → makes (Connect c to) (refusal w) d ≡ false = elim [ word.Fine ↦ refl | word.Refused ↦ refl | word.Timeout ↦ refl ] in
      go p.script.connect)
]

makes_not : (s : Played) (call : Call) (c : ConnId) → makes call (unserved s.peers call) c ≡ false
makes_not s (Connect d to) c = refused_makes d to c (find (suits (ServerAt to)) s.peers)
makes_not s (SetRoutes routes) c = refl
makes_not s (Accept d port) c = refl
makes_not s (Write d piece) c = refl
makes_not s (Read d count) c = refl
makes_not s (SendTo d port to body) c = refl
makes_not s (RecvFrom d port count) c = refl
makes_not s (Shut d) c = refl
makes_not s (DropConn d) c = refl

makes_own : (call : Call) (a : LinkAnswer) (d : ConnId) → makes call a d ≡ true → is_on call d ≡ true
makes_own (Connect c to) Done d h = h
makes_own (Accept c port) (DoneFrom from) d h = h
makes_own call a d h = absurd (no_both false h refl)

-- the lists of one connection

abbrev picked : {A : Type 0} → (Acting → A) → Option Acting → A → A
picked f o z = option_map_or f o z

record At (old : Shown) (call : Call) (answer : LinkAnswer) (new : Shown) (d : ConnId) : Type 0 where
  told : old.told d ≡ true → new.told d ≡ true
  newly : new.told d ≡ true → (old.told d ≡ true) ⊎ ((old.quiet d ≡ true) × IsBlank old d)
  given : new.told d ≡ true → new.given d ≡ old.given d ++ added call d (gives call answer)
  dests : new.told d ≡ true → new.dests d ≡ old.dests d ++ added call d (addresses call answer)
  read : new.told d ≡ true → new.fed d ≡ old.fed d ++ added call d (gets answer)
  quiet : new.quiet d ≡ true → (old.quiet d ≡ true) × (is_on call d && moves call answer ≡ false)
  blank : new.quiet d ≡ true → IsBlank new d
  made : makes call answer d ≡ true → new.made d ≡ true
  stays : old.made d ≡ true → ends call d ≡ false → new.made d ≡ true
  only : new.made d ≡ true → (old.made d ≡ true) ⊎ (makes call answer d ≡ true)

quiet_parts : (o : Option Acting) (l : Bool) → (not (is_there o) && not l) ≡ true → (o ≡ None) × (l ≡ false)
quiet_parts None true h = absurd (no_both false h refl)
quiet_parts None false h = (refl, refl)
quiet_parts (Some p) l h = absurd (no_both false h refl)

quiet_of : (o : Option Acting) (l : Bool) → o ≡ None → l ≡ false → (not (is_there o) && not l) ≡ true
quiet_of o l e f = rw (e, f) refl

blank_of : (s : Played) (d : ConnId) → server_in s.peers d ≡ None → IsBlank (shown s) d
blank_of s d e = record {
  given = ap (λ o. option_map_or (λ (p : Acting). p.given) o []) e;
  dests = ap (λ o. option_map_or (λ (p : Acting). p.dests) o []) e;
  fed = ap (λ o. option_map_or fed o []) e;
}

add_none : {A : Type 0} → (l more : List A) (call : Call) (d : ConnId) → is_on call d ≡ false → l ≡ l ++ added call d more
add_none l more call d off = rw (off, append-nil l) refl

-- a connection that the call is not made on
at_other : (s t : Played) (call : Call) (a : LinkAnswer) (d : ConnId) → is_on call d ≡ false → server_in t.peers d ≡ server_in s.peers d
    → (is_lost t.lost d ≡ false → is_lost s.lost d ≡ false) → At (shown s) call a (shown t) d
at_other s t call a d off e less = record {
  told = λ h. ap (λ o. option_map_or (λ (p : Acting). p.tells) o false) e ∙ h;
  newly = λ h. inl (sym (ap (λ o. option_map_or (λ (p : Acting). p.tells) o false) e) ∙ h);
  given = λ _. ap (λ o. option_map_or (λ (p : Acting). p.given) o []) e ∙ add_none _ (gives call a) call d off;
  dests = λ _. ap (λ o. option_map_or (λ (p : Acting). p.dests) o []) e ∙ add_none _ (addresses call a) call d off;
  read = λ _. ap (λ o. option_map_or fed o []) e ∙ add_none _ (gets a) call d off;
  quiet = λ h. let parts = quiet_parts (server_in t.peers d) (is_lost t.lost d) h in
      (quiet_of (server_in s.peers d) (is_lost s.lost d) (sym e ∙ parts.0) (less parts.1), ap (λ v. v && moves call a) off);
  blank = λ h. blank_of t d (quiet_parts (server_in t.peers d) (is_lost t.lost d) h).0;
  made = λ h. absurd (no_both (is_on call d) (makes_own call a d h) off);
  stays = λ h k. ap (λ o. option_map_or (λ (p : Acting). p.made) o false) e ∙ h;
  only = λ h. inl (sym (ap (λ o. option_map_or (λ (p : Acting). p.made) o false) e) ∙ h);
}

none_told : (f : Acting → Bool) (o : Option Acting) → o ≡ None → option_map_or f o false ≡ true → ⊥
none_told f o e h = no_both false (sym (ap (λ o. option_map_or f o false) e) ∙ h) refl

-- the connection of the call, where no peer serves it
at_unserved : (s t : Played) (call : Call) (a : LinkAnswer) (c : ConnId) → server_in t.peers c ≡ None → server_in s.peers c ≡ None
    → (is_lost t.lost c ≡ false → (is_lost s.lost c ≡ false) × (moves call a ≡ false)) → makes call a c ≡ false → is_on call c ≡ true
    → At (shown s) call a (shown t) c
at_unserved s t call a c now was less makes own = record {
  told = λ h. absurd (none_told (λ p. p.tells) _ was h);
  newly = λ h. absurd (none_told (λ p. p.tells) _ now h);
  given = λ h. absurd (none_told (λ p. p.tells) _ now h);
  dests = λ h. absurd (none_told (λ p. p.tells) _ now h);
  read = λ h. absurd (none_told (λ p. p.tells) _ now h);
  quiet = λ h. let parts = quiet_parts (server_in t.peers c) (is_lost t.lost c) h in
      (quiet_of (server_in s.peers c) (is_lost s.lost c) was (less parts.1).0, rw (own, (less parts.1).1) refl);
  blank = λ h. blank_of t c now;
  made = λ h. absurd (no_both _ h makes);
  stays = λ h k. absurd (none_told (λ p. p.made) _ was h);
  only = λ h. absurd (none_told (λ p. p.made) _ now h);
}

-- the connection of the call, where a peer serves it: one that served it before, or one that begins
record Served (s : Played) (c : ConnId) (q : Acting) : Type 0 where
  told : option_map_or (λ (p : Acting). p.tells) (server_in s.peers c) false ≡ true → q.tells ≡ true
  newly : q.tells ≡ true → (option_map_or (λ (p : Acting). p.tells) (server_in s.peers c) false ≡ true)
      ⊎ (((shown s).quiet c ≡ true) × IsBlank (shown s) c)
  given : option_map_or (λ (p : Acting). p.given) (server_in s.peers c) [] ≡ q.given
  dests : option_map_or (λ (p : Acting). p.dests) (server_in s.peers c) [] ≡ q.dests
  read : option_map_or fed (server_in s.peers c) [] ≡ fed q
  made : option_map_or (λ (p : Acting). p.made) (server_in s.peers c) false ≡ q.made

not_none : (o : Option Acting) (q : Acting) → o ≡ Some q → o ≡ None → ⊥
not_none None q h k = absurd (cc)
not_none (Some p) q h k = absurd (cc)

old_made : (old made more : Bool) → old ≡ made → (made ≡ true) ⊎ (more ≡ true) → (old ≡ true) ⊎ (more ≡ true)
old_made old made more e h = elim h as (λ _. (old ≡ true) ⊎ (more ≡ true)) [ inl m ↦ inl (e ∙ m) | inr m ↦ inr m ]

at_served : (s t : Played) (call : Call) (c : ConnId) (q : Acting) → is_on call c ≡ true → Served s c q
    → server_in t.peers c ≡ Some (peer_after q call) → At (shown s) call (peer_answer q call) (shown t) c
at_served s t call c q own was now =
    let a = peer_answer q call in
    let goes = peer_goes q call in
    let made = peer_made q call c own in
    let tells : (shown t).told c ≡ q.tells = ap (λ o. option_map_or (λ (p : Acting). p.tells) o false) now ∙ goes.tells in
    let is_made : (shown t).made c ≡ (peer_after q call).made = ap (λ o. option_map_or (λ (p : Acting). p.made) o false) now in
    record {
      told = λ h. tells ∙ was.told h;
      newly = λ h. was.newly (sym tells ∙ h);
      given = λ _. rw own (ap (λ o. option_map_or (λ (p : Acting). p.given) o []) now ∙ goes.given ∙ ap (λ l. l ++ gives call a) (sym was.given));
      dests = λ _. rw own (ap (λ o. option_map_or (λ (p : Acting). p.dests) o []) now ∙ goes.dests ∙ ap (λ l. l ++ addresses call a) (sym was.dests));
      read = λ _. rw own (ap (λ o. option_map_or fed o []) now ∙ goes.read ∙ ap (λ l. l ++ gets a) (sym was.read));
      quiet = λ h. absurd (not_none (server_in t.peers c) (peer_after q call) now (quiet_parts (server_in t.peers c) (is_lost t.lost c) h).0);
      blank = λ h. absurd (not_none (server_in t.peers c) (peer_after q call) now (quiet_parts (server_in t.peers c) (is_lost t.lost c) h).0);
      made = λ h. is_made ∙ made.made h;
      stays = λ h k. is_made ∙ made.stays_made (sym was.made ∙ h) k;
      only = λ h. old_made _ q.made _ was.made (made.only (sym is_made ∙ h));
    }

served_before : (s : Played) (c : ConnId) (q : Acting) → server_in s.peers c ≡ Some q → Served s c q
served_before s c q e =
    let tells = ap (λ o. option_map_or (λ (p : Acting). p.tells) o false) e in
    record {
      told = λ h. sym tells ∙ h;
      newly = λ h. inl (tells ∙ h);
      given = ap (λ o. option_map_or (λ (p : Acting). p.given) o []) e;
      dests = ap (λ o. option_map_or (λ (p : Acting). p.dests) o []) e;
      read = ap (λ o. option_map_or fed o []) e;
      made = ap (λ o. option_map_or (λ (p : Acting). p.made) o false) e;
    }

served_newly : (s : Played) (c : ConnId) (q : Acting) (o : Option Acting) → o ≡ Some q → Newly s c o → Served s c q
served_newly s c q o e n =
    let p = n.begins.peer in
    let is = n.begins.is in
    let none = n.was in
    let tells : q.tells ≡ not (is_lost s.lost c) =
    sym (ap (λ o. option_map_or (λ (p : Acting). p.tells) o false) e) ∙ ap (λ o. option_map_or (λ (p : Acting). p.tells) o false) is in
    record {
      told = λ h. absurd (none_told (λ p. p.tells) _ none h);
      newly = λ h. inr (rw none (sym tells ∙ h), blank_of s c none);
      given = ap (λ o. option_map_or (λ (p : Acting). p.given) o []) none
          ∙ sym (sym (ap (λ o. option_map_or (λ (p : Acting). p.given) o []) e) ∙ ap (λ o. option_map_or (λ (p : Acting). p.given) o []) is);
      dests = ap (λ o. option_map_or (λ (p : Acting). p.dests) o []) none
          ∙ sym (sym (ap (λ o. option_map_or (λ (p : Acting). p.dests) o []) e) ∙ ap (λ o. option_map_or (λ (p : Acting). p.dests) o []) is);
      read = ap (λ o. option_map_or fed o []) none
          ∙ sym (sym (ap (λ o. option_map_or fed o []) e) ∙ ap (λ o. option_map_or fed o []) is ∙ fed_start c (not (is_lost s.lost c)) p);
      made = ap (λ o. option_map_or (λ (p : Acting). p.made) o false) none
          ∙ sym (sym (ap (λ o. option_map_or (λ (p : Acting). p.made) o false) e) ∙ ap (λ o. option_map_or (λ (p : Acting). p.made) o false) is);
    }

served : (s : Played) (c : ConnId) (q : Acting) (o : Option Acting) → o ≡ Some q → (o ≡ server_in s.peers c) ⊎ Newly s c o → Served s c q
served s c q o e h = elim h as (λ _. Served s c q) [
  | inl is ↦ served_before s c q (sym is ∙ e)
  | inr n ↦ served_newly s c q o e n
]

none_before : (s : Played) (c : ConnId) (o : Option Acting) → o ≡ None → (o ≡ server_in s.peers c) ⊎ Newly s c o → server_in s.peers c ≡ None
none_before s c o e h = elim h as (λ _. server_in s.peers c ≡ None) [
  | inl is ↦ (sym is ∙ e)
  | inr n ↦ n.was
]

-- the connection of the call
mine_by : (s : Played) (c : ConnId) (call : Call) → is_on call c ≡ true → OfSocket (length s.lost) call → (o : Option Acting) (rs : List Acting)
    → (o ≡ server_in s.peers c) ⊎ Newly s c o → server_in rs c ≡ option_map (λ q. peer_after q call) o
    → (t : Played) → t.peers ≡ rs → t.lost ≡ lost_by s.lost call o → At (shown s) call (answer_or (unserved s.peers call) call o) (shown t) c
mine_by s c call own range None rs met now t peers lost =
    at_unserved s t call (unserved s.peers call) c (ap (λ l. server_in l c) peers ∙ now) (none_before s c None refl met)
    (λ h. let l : is_lost (lost_after s.lost call) c ≡ false = sym (ap (λ l. is_lost l c) lost) ∙ h in
    (lost_less s.lost call c l, moves_not s call c own range l))
    (makes_not s call c) own
mine_by s c call own range (Some q) rs met now t peers lost =
    at_served s t call c q own (served s c q (Some q) refl met) (ap (λ l. server_in l c) peers ∙ now)

at_mine : (s : Played) (c : ConnId) (call : Call) → is_on call c ≡ true → OfSocket (length s.lost) call
    → At (shown s) call (answer_on s c call) (shown (after_on s c call)) c
at_mine s c call own range =
    let qs = meeting s c (wanted_by call) in
    let met = mine_met s c (wanted_by call) in
    let later = mine_after qs c call in
    mine_by s c call own range (server_in qs c) (peers_by qs c call (server_in qs c)) met later (after_on s c call) refl refl

at_all : (s : Played) (c : ConnId) (call : Call) → ((d : ConnId) → is_on call d ≡ same c d) → OfSocket (length s.lost) call → (d : ConnId)
    → At (shown s) call (answer_on s c call) (shown (after_on s c call)) d
at_all s c call own range d =
    let qs = meeting s c (wanted_by call) in
    let t = after_on s c call in
    let go : (v : Bool) → same c d ≡ v → At (shown s) call (answer_on s c call) (shown t) d = elim [
      | true ↦ (λ e. subst (λ x. At (shown s) call (answer_on s c call) (shown t) x) (same_is c d e) (at_mine s c call (own c ∙ same_self c) range))
      | false ↦ (λ e. at_other s t call (answer_on s c call) d (own d ∙ e) (other_after qs c d call e ∙ other_met s c d (wanted_by call) e)
          (by_less s.lost call (server_in qs c) d))
    ] in
    go (same c d) refl

lists_of : (old : Shown) (call : Call) (a : LinkAnswer) (new : Shown) → ((d : ConnId) → At old call a new d) → Lists old call a new
lists_of old call a new at = record {
  told = λ d. (at d).told;
  newly = λ d. (at d).newly;
  given = λ d. (at d).given;
  dests = λ d. (at d).dests;
  fed = λ d. (at d).read;
  quiet = λ d. (at d).quiet;
  blank = λ d. (at d).blank;
}

makes_of : (old : Shown) (call : Call) (a : LinkAnswer) (new : Shown) → ((d : ConnId) → At old call a new d) → Makes old call a new
makes_of old call a new at = record { made = λ d. (at d).made; stays = λ d. (at d).stays; only = λ d. (at d).only }

-- What each call is on.
abbrev On : ConnId → Call → Type 0
On c call = (d : ConnId) → is_on call d ≡ same c d

all_on : (s : Played) (c : ConnId) (call : Call) → On c call → OfSocket (length s.stalled) call → OfSocket (length s.lost) call
    → Counts (shown s) call (answer_on s c call) (shown (after_on s c call)) × Makes (shown s) call (answer_on s c call) (shown (after_on s c call))
    × Lists (shown s) call (answer_on s c call) (shown (after_on s c call))
all_on s c call on stalls losses =
    let at = at_all s c call on losses in
    (counts_on s c call stalls, makes_of _ call _ _ at, lists_of _ call _ _ at)

routes_at : (s : Played) (call : Call) (d : ConnId) → is_on call d ≡ false → At (shown s) call Done (shown s) d
routes_at s call d off = at_other s s call Done d off refl (λ h. h)

-- What the trait of links says of a call.
abbrev pub Keeps : Played → Call → LinkAnswer → Played → Type 0
Keeps s call a t = Counts (shown s) call a (shown t) × Makes (shown s) call a (shown t) × Lists (shown s) call a (shown t)

keeps_on : (s t : Played) (c : ConnId) (call : Call) (a : LinkAnswer) → On c call → OfSocket (length s.stalled) call
    → OfSocket (length s.lost) call → a ≡ answer_on s c call → t ≡ after_on s c call → Keeps s call a t
keeps_on s t c call a on stalls losses answered left =
    subst (λ u. Keeps s call a u) (sym left)
    (subst (λ x. Keeps s call x (after_on s c call)) (sym answered) (all_on s c call on stalls losses))

routes_counts : (s : Played) (call : Call) → ((n : ℕ) → get_or s.stalled n 0 ≡ stalled_after (λ n. get_or s.stalled n 0) call Done n)
    → RisesOnly (Stalls call Done) s.stalls s.stalls → Counts (shown s) call Done (shown s)
routes_counts s call same rises = record {
  faults = rises_never s.faults;
  waits = rises_never s.waits;
  stalls = rises;
  stalled = same;
}

pub keeps : (s t : Played) (call : Call) (a : LinkAnswer) → OfSocket (length s.stalled) call → OfSocket (length s.lost) call
    → Plays s call a t → Keeps s call a t
keeps s t (SetRoutes routes) a h k p =
    let at : (d : ConnId) → At (shown s) (SetRoutes routes) Done (shown s) d = λ d. routes_at s (SetRoutes routes) d refl in
    let all : Keeps s (SetRoutes routes) Done s =
    (routes_counts s (SetRoutes routes) (λ n. refl) (rises_never s.stalls), makes_of _ (SetRoutes routes) Done _ at, lists_of _ (SetRoutes routes) Done _ at) in
    subst (λ u. Keeps s (SetRoutes routes) a u) (sym p.left) (subst (λ x. Keeps s (SetRoutes routes) x s) (sym p.answered) all)
keeps s t (Connect c to) a h k p = keeps_on s t c (Connect c to) a (λ d. refl) h k p.answered p.left
keeps s t (Accept c port) a h k p = keeps_on s t c (Accept c port) a (λ d. refl) h k p.answered p.left
keeps s t (Write c piece) a h k p = keeps_on s t c (Write c piece) a (λ d. refl) h k p.answered p.left
keeps s t (Read c count) a h k p = keeps_on s t c (Read c count) a (λ d. refl) h k p.answered p.left
keeps s t (SendTo c port to body) a h k p = keeps_on s t c (SendTo c port to body) a (λ d. refl) h k p.answered p.left
keeps s t (RecvFrom c port count) a h k p = keeps_on s t c (RecvFrom c port count) a (λ d. refl) h k p.answered p.left
keeps s t (Shut c) a h k p = keeps_on s t c (Shut c) a (λ d. refl) h k p.answered p.left
keeps s t (DropConn c) a h k p = keeps_on s t c (DropConn c) a (λ d. refl) h k p.answered p.left

-- Before any call no peer serves a connection.
none_starts : (scripts : List Script) (c : ConnId) → server_in (map start_of scripts) c ≡ None
none_starts [] c = refl
none_starts (script ∷ scripts) c = none_starts scripts c

pub fresh_start : (scripts : List Script) → IsFresh (shown (first_state scripts))
fresh_start scripts c h =
    absurd (none_told (λ p. p.tells) (server_in (map start_of scripts) c) (none_starts scripts c) h)

pub fresh_is : (s : Played) (scripts : List Script) → s ≡ first_state scripts → IsFresh (shown s)
fresh_is s scripts e = subst (λ x. IsFresh (shown x)) (sym e) (fresh_start scripts)
