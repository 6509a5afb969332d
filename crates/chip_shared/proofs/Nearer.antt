-- A call that does something at the outgoing place of a socket leads the socket nearer to where nothing is due there.
use Rattle.std.proofs.Common.{◌≡◌, ◌≤◌, ◌<◌, ℕ, ◌+◌, ◌-◌, Bool, true, false, ◌&&◌, cond, eqb, ltb, leb, ◌∷◌, length, Option, None, Some, refl, sym, ap, ◌∙◌, subst, arith}
use Rattle.std.proofs.lemmas.Bool.{cond_both, cond-true, eq-eqb, and_parts, leb-true, ltb-true}
use Rattle.chip_sheet.specs.declared.event.Addr.{Addr}
use Rattle.chip_sheet.specs.declared.event.ConnId.{ConnId}
use Rattle.chip_sheet.specs.declared.socket.Status.{Status}
use Rattle.chip_sheet.specs.declared.socket.Status.TheVariants.{Closed, Init, Listen, SynSent, Established, FinWait, CloseWait, LastAck, Udp}
use Rattle.chip_sheet.specs.declared.socket.Cause.TheVariants as because
use Rattle.chip_sheet.specs.declared.socket.Due.{Due}
use Rattle.chip_sheet.specs.declared.socket.Due.TheVariants as due
use Rattle.chip_sheet.specs.declared.event.Entry.{Entry}
use Rattle.chip_sheet.specs.declared.event.Entry.TheVariants.{Link}
use Rattle.chip_sheet.specs.declared.event.LinkEntry.{LinkEntry}
use Rattle.chip_sheet.specs.declared.event.LinkEntry.TheVariants as what
use Rattle.chip_sheet.specs.Past.{Past}
use Rattle.chip_sheet.specs.Life.{Life, life, life_after, happening, status, lives}
use Rattle.chip_sheet.specs.Streams.{Starts, sent, taken, taken_by, is_of, is_open}
use Rattle.chip_sheet.specs.Windows.{flight, offered_length, room_length}
use Rattle.chip_sheet.specs.LinkCalls.{outgoing_in, outgoing, outgoing_of, connection, kept_address, kept_port}
use Rattle.chip_sheet.specs.LinkAnswers.{LinkAnswer, Done, DoneWith, NotYet, Refused, TimedOut, Failed, entry_by, may_answer}
use Rattle.chip_sheet.proofs.SentLaws.{sent_same}
use Rattle.chip_shared.proofs.Destination.{no_link_sends}

-- How many calls that take no bytes are still to come at the outgoing place.
abbrev pub phases : Status → Bool → ℕ
phases SynSent shut = 2
phases FinWait false = 2
phases LastAck false = 2
phases at shut = 0

abbrev pub olds : Option ℕ → ℕ
olds None = 0
olds (Some life) = 1

abbrev pub turns : Life → ℕ
turns at = phases at.status at.shut + olds at.old

-- The bytes of the present life that the link did not take.
abbrev pub backlog : Starts → Past → ℕ → ℕ
backlog starts past n = length (sent starts past n (lives past n)) - taken past n (lives past n)

-- No more calls than these are made at the outgoing place of a socket, each of which does something.
abbrev pub calls_left : Starts → Past → ℕ → ℕ
calls_left starts past n = backlog starts past n + turns (life past n)

-- The call did something.
abbrev pub Moves : LinkAnswer → Type 0
Moves NotYet = ⊥
Moves Failed = ⊥
Moves answer = Unit {0}

-- An entry leads nearer, where so many bytes were not taken.
abbrev pub Nearer : ℕ → Life → ℕ → Entry → Type 0
Nearer n at more (Link m w) = (m ≡ n) × ((more - taken_by w) + turns (life_after at (happening w)) < more + turns at)
Nearer n at more entry = ⊥

-- So does each answer to a call.
abbrev pub Near : Life → ℕ → ℕ → ℕ → ℕ → ℕ → Due → Type 0
Near at more n fl offered room call = (answer : LinkAnswer) → may_answer call offered room answer ≡ true → Moves answer → Nearer n at more (entry_by n fl call answer)

abbrev pub at_of : Status → ℕ → Bool → Bool → Bool → Option ℕ → Life
at_of s l e h k o = record { status = s; lives = l; ended = e; shut = h; asked = k; old = o }

near_nothing : (at : Life) (more n fl offered room : ℕ) → Near at more n fl offered room due.Nothing
near_nothing at more n fl offered room answer may moves = cc

near_write : (at : Life) (more n fl offered room : ℕ) (c : ConnId) → offered ≤ more → ((k : ℕ) → turns (life_after at (because.Took k)) ≡ turns at) → Near at more n fl offered room (due.Write c)
near_write at more n fl offered room c few same (DoneWith k) may moves =
    let p = and_parts (leb 1 k) (leb k offered) may in
    let some = leb-true 1 k p.0 in
    let within = leb-true k offered p.1 in
    let stays = same k in
    (refl, omega (arith, some, within, few, stays))
near_write at more n fl offered room c few same NotYet may moves = absurd moves
near_write at more n fl offered room c few same Failed may moves = absurd moves
near_write at more n fl offered room c few same answer may moves = cc

near_send : (at : Life) (more n fl offered room port : ℕ) (c : ConnId) (to : Addr) → 0 < fl → fl ≤ more → ((k : ℕ) → turns (life_after at (because.Took k)) ≡ turns at) → Near at more n fl offered room (due.SendTo c port to)
near_send at more n fl offered room port c to some few same Done may moves = let stays = same fl in (refl, omega (arith, some, few, stays))
near_send at more n fl offered room port c to some few same NotYet may moves = absurd moves
near_send at more n fl offered room port c to some few same Failed may moves = absurd moves
near_send at more n fl offered room port c to some few same answer may moves = cc

near_connect : (l : ℕ) (e h k : Bool) (more n fl offered room : ℕ) (c : ConnId) (to : Addr) → Near (at_of SynSent l e h k None) more n fl offered room (due.Connect c to)
near_connect l e h k more n fl offered room c to Done may moves = (refl, omega arith)
near_connect l e h true more n fl offered room c to Refused may moves = (refl, omega arith)
near_connect l e h false more n fl offered room c to Refused may moves = (refl, omega arith)
near_connect l e h true more n fl offered room c to TimedOut may moves = (refl, omega arith)
near_connect l e h false more n fl offered room c to TimedOut may moves = (refl, omega arith)
near_connect l e h k more n fl offered room c to NotYet may moves = absurd moves
near_connect l e h k more n fl offered room c to Failed may moves = absurd moves
near_connect l e h k more n fl offered room c to answer may moves = cc

near_shut_fin : (l : ℕ) (e k : Bool) (more n fl offered room : ℕ) (c : ConnId) → Near (at_of FinWait l e false k None) more n fl offered room (due.Shut c)
near_shut_fin l false k more n fl offered room c Done may moves = (refl, omega arith)
near_shut_fin l true true more n fl offered room c Done may moves = (refl, omega arith)
near_shut_fin l true false more n fl offered room c Done may moves = (refl, omega arith)
near_shut_fin l e k more n fl offered room c NotYet may moves = absurd moves
near_shut_fin l e k more n fl offered room c Failed may moves = absurd moves
near_shut_fin l e k more n fl offered room c answer may moves = cc

near_shut_last : (l : ℕ) (e k : Bool) (more n fl offered room : ℕ) (c : ConnId) → Near (at_of LastAck l e false k None) more n fl offered room (due.Shut c)
near_shut_last l e true more n fl offered room c Done may moves = (refl, omega arith)
near_shut_last l e false more n fl offered room c Done may moves = (refl, omega arith)
near_shut_last l e k more n fl offered room c NotYet may moves = absurd moves
near_shut_last l e k more n fl offered room c Failed may moves = absurd moves
near_shut_last l e k more n fl offered room c answer may moves = cc

near_drop : (s : Status) (l : ℕ) (e h k : Bool) (life more n fl offered room : ℕ) (c : ConnId) → Near (at_of s l e h k (Some life)) more n fl offered room (due.Drop c)
near_drop Closed l e h k life more n fl offered room c Done may moves = (refl, omega arith)
near_drop Init l e h k life more n fl offered room c Done may moves = (refl, omega arith)
near_drop FinWait l e true k life more n fl offered room c Done may moves = (refl, omega arith)
near_drop FinWait l e false k life more n fl offered room c Done may moves = (refl, omega arith)
near_drop LastAck l e true k life more n fl offered room c Done may moves = (refl, omega arith)
near_drop LastAck l e false k life more n fl offered room c Done may moves = (refl, omega arith)
near_drop s l e h k life more n fl offered room c Done may moves = (refl, omega arith)
near_drop s l e h k life more n fl offered room c answer may moves = cc

-- Taking bytes changes nothing else.
took_fin : (l : ℕ) (e h k : Bool) (count : ℕ) → turns (life_after (at_of FinWait l e h k None) (because.Took count)) ≡ turns (at_of FinWait l e h k None)
took_fin l e true k count = refl
took_fin l e false k count = refl

took_last : (l : ℕ) (e h k : Bool) (count : ℕ) → turns (life_after (at_of LastAck l e h k None) (because.Took count)) ≡ turns (at_of LastAck l e h k None)
took_last l e true k count = refl
took_last l e false k count = refl

shut_fin : (l : ℕ) (e h k : Bool) (more n fl offered room : ℕ) (c : ConnId) → Near (at_of FinWait l e h k None) more n fl offered room (cond h due.Nothing (due.Shut c))
shut_fin l e true k more n fl offered room c = near_nothing (at_of FinWait l e true k None) more n fl offered room
shut_fin l e false k more n fl offered room c = near_shut_fin l e k more n fl offered room c

shut_last : (l : ℕ) (e h k : Bool) (more n fl offered room : ℕ) (c : ConnId) → Near (at_of LastAck l e h k None) more n fl offered room (cond h due.Nothing (due.Shut c))
shut_last l e true k more n fl offered room c = near_nothing (at_of LastAck l e true k None) more n fl offered room
shut_last l e false k more n fl offered room c = near_shut_last l e k more n fl offered room c

near_in : (s : Status) (l : ℕ) (e h k : Bool) (c : ConnId) (to : Addr) (port more n fl offered room : ℕ) → offered ≤ more → fl ≤ more
    → Near (at_of s l e h k None) more n fl offered room (outgoing_in s c to port fl h)
near_in SynSent l e h k c to port more n fl offered room few all = near_connect l e h k more n fl offered room c to
near_in Established l e h k c to port more n fl offered room few all =
    let at = at_of Established l e h k None in
    cond_both (ltb 0 fl) (due.Write c) due.Nothing (Near at more n fl offered room) (λ x. near_write at more n fl offered room c few (λ count. refl)) (λ x. near_nothing at more n fl offered room)
near_in CloseWait l e h k c to port more n fl offered room few all =
    let at = at_of CloseWait l e h k None in
    cond_both (ltb 0 fl) (due.Write c) due.Nothing (Near at more n fl offered room) (λ x. near_write at more n fl offered room c few (λ count. refl)) (λ x. near_nothing at more n fl offered room)
near_in FinWait l e h k c to port more n fl offered room few all =
    let at = at_of FinWait l e h k None in
    cond_both (ltb 0 fl) (due.Write c) (cond h due.Nothing (due.Shut c)) (Near at more n fl offered room)
    (λ x. near_write at more n fl offered room c few (took_fin l e h k)) (λ x. shut_fin l e h k more n fl offered room c)
near_in LastAck l e h k c to port more n fl offered room few all =
    let at = at_of LastAck l e h k None in
    cond_both (ltb 0 fl) (due.Write c) (cond h due.Nothing (due.Shut c)) (Near at more n fl offered room)
    (λ x. near_write at more n fl offered room c few (took_last l e h k)) (λ x. shut_last l e h k more n fl offered room c)
near_in Udp l e h k c to port more n fl offered room few all =
    let at = at_of Udp l e h k None in
    cond_both (ltb 0 fl) (due.SendTo c port to) due.Nothing (Near at more n fl offered room)
    (λ x. near_send at more n fl offered room port c to (ltb-true 0 fl x) all (λ count. refl)) (λ x. near_nothing at more n fl offered room)
near_in Closed l e h k c to port more n fl offered room few all = near_nothing (at_of Closed l e h k None) more n fl offered room
near_in Init l e h k c to port more n fl offered room few all = near_nothing (at_of Init l e h k None) more n fl offered room
near_in Listen l e h k c to port more n fl offered room few all = near_nothing (at_of Listen l e h k None) more n fl offered room

near_out : (s : Status) (l : ℕ) (e h k : Bool) (o : Option ℕ) (to : Addr) (port more n fl offered room : ℕ) → offered ≤ more → fl ≤ more
    → Near (at_of s l e h k o) more n fl offered room (outgoing_of n (at_of s l e h k o) to port fl)
near_out s l e h k (Some life) to port more n fl offered room few all = near_drop s l e h k life more n fl offered room (connection n life)
near_out s l e h k None to port more n fl offered room few all = near_in s l e h k (connection n l) to port more n fl offered room few all

-- An entry of a socket, as its own life, what was sent in it and what was taken see it.
pub own_life : (past : Past) (n : ℕ) (w : LinkEntry) → life (Link n w ∷ past) n ≡ life_after (life past n) (happening w)
own_life past n w = ap (λ (b : Bool). life_after (life past n) (cond b (happening w) because.Nothing)) (eq-eqb n n refl)

after_lives : (at : Life) (w : LinkEntry) → (life_after at (happening w)).lives ≡ at.lives
after_lives at what.Linked = refl
after_lives at w = refl

own_lives : (past : Past) (n : ℕ) (w : LinkEntry) → lives (Link n w ∷ past) n ≡ lives past n
own_lives past n w = ap (λ (at : Life). at.lives) (own_life past n w) ∙ after_lives (life past n) w

own_taken : (past : Past) (n : ℕ) (w : LinkEntry) → taken (Link n w ∷ past) n (lives past n) ≡ taken past n (lives past n) + taken_by w
own_taken past n w =
    let l = lives past n in
    cond-true (is_of past n n l) (taken past n l + taken_by w) (taken past n l)
    (ap (λ (b : Bool). b && eqb l l) (eq-eqb n n refl) ∙ eq-eqb l l refl)

own_backlog : (starts : Starts) (past : Past) (n : ℕ) (w : LinkEntry) → backlog starts (Link n w ∷ past) n ≡ backlog starts past n - taken_by w
own_backlog starts past n w =
    let l = lives past n in
    let now = Link n w ∷ past in
    let moved = ap (λ (x : ℕ). length (sent starts now n x) - taken now n x) (own_lives past n w) in
    let same = ap length (sent_same starts past (Link n w) n l (no_link_sends (eqb n n) w)) in
    let more = own_taken past n w in
    omega (arith, moved, same, more)

link_nearer : (starts : Starts) (past : Past) (n : ℕ) (w : LinkEntry) → (backlog starts past n - taken_by w) + turns (life_after (life past n) (happening w)) < backlog starts past n + turns (life past n)
    → calls_left starts (Link n w ∷ past) n < calls_left starts past n
link_nearer starts past n w less =
    let more = own_backlog starts past n w in
    let turn = ap turns (own_life past n w) in
    omega (arith, less, more, turn)

entry_nearer : (starts : Starts) (past : Past) (n : ℕ) (entry : Entry) → Nearer n (life past n) (backlog starts past n) entry → calls_left starts (entry ∷ past) n < calls_left starts past n
entry_nearer starts past n (Link m w) it =
    subst (λ (k : ℕ). calls_left starts (Link k w ∷ past) n < calls_left starts past n) (sym it.0) (link_nearer starts past n w it.1)
entry_nearer starts past n entry it = absurd it

flight_few : (on : Bool) (more : ℕ) → cond on more 0 ≤ more
flight_few true more = omega arith
flight_few false more = omega arith

-- A call at the outgoing place that did something leaves fewer calls.
pub calls_fall : (starts : Starts) (past : Past) (n : ℕ) (answer : LinkAnswer) → may_answer (outgoing starts past n) (offered_length starts past n) (room_length starts past n) answer ≡ true → Moves answer
    → calls_left starts (entry_by n (flight starts past n) (outgoing starts past n) answer ∷ past) n < calls_left starts past n
calls_fall starts past n answer may moves =
    let at = life past n in
    let fl = flight starts past n in
    let few : fl ≤ backlog starts past n = flight_few (is_open (status past n)) (backlog starts past n) in
    entry_nearer starts past n (entry_by n fl (outgoing starts past n) answer)
    (near_out at.status at.lives at.ended at.shut at.asked at.old (kept_address past n) (kept_port past n) (backlog starts past n) n fl (offered_length starts past n) (room_length starts past n)
    (omega (arith, few)) few answer may moves)
