-- What fits a socket says of its status and of the counts.
use Rattle.std.proofs.Common.{◌≡◌, ◌≤◌, ◌<◌, ℕ, ◌+◌, ◌*◌, ◌/◌, ◌%◌, Bool, true, false, ◌||◌, cond, eqb, ltb, leb, min, List, length, Option, None, Some, get_or, inl, inr, refl, sym, ap, ◌∙◌, arith}
use Rattle.std.proofs.lemmas.Bool.{and_parts, or_cases, leb-true, eqb-true, cases_Bool, cond-true, cond-false, eq-eqb, ne_eqb}
use Rattle.chip_sheet.specs.declared.event.Addr.{Addr}
use Rattle.chip_sheet.specs.declared.event.ConnId.{ConnId}
use Rattle.chip_sheet.specs.declared.event.LinkEntry.{LinkEntry}
use Rattle.chip_sheet.specs.declared.event.LinkEntry.TheVariants.{Took, Got, Datagram}
use Rattle.chip_sheet.specs.declared.socket.Status.{Status}
use Rattle.chip_sheet.specs.declared.socket.Status.TheVariants.{Established}
use Rattle.chip_sheet.specs.declared.socket.Due.{Due}
use Rattle.chip_sheet.specs.declared.socket.Due.TheVariants as due
use Rattle.chip_sheet.specs.Past.{Past}
use Rattle.chip_sheet.specs.Life as sheet
use Rattle.chip_sheet.specs.Connections.{carries}
use Rattle.chip_sheet.specs.Streams.{Starts, is_open, is_established, has_place}
use Rattle.chip_sheet.specs.Windows.{flight, rx_free, most_read}
use Rattle.chip_sheet.specs.LinkCalls.{answers_call, outgoing_in, incoming_in, outgoing_of, incoming_of, outgoing, incoming, connection, fits_either, fits}
use Rattle.sock_cmd.specs.declared.life.Life.{Life}
use Rattle.sock_cmd.specs.Lives.{life_of, address_of, port_of, due_of}
use Rattle.ring_mem.specs.Buffers as rings
use Rattle.chip_parts.specs.declared.parts.Parts.{Parts}
use Rattle.chip_parts.specs.Holding.{Holds}
use Rattle.chip_links.specs.Fitting.{no_life, fits_here}
use Rattle.chip_steps.proofs.Moving.{moves, out_open, in_open}

carried_moves : (call : Due) (flight free : ℕ) (what : LinkEntry) → carries what ≡ true → answers_call call flight free what ≡ true → moves call ≡ true
carried_moves (due.Write c) flight free what h a = refl
carried_moves (due.SendTo c port to) flight free what h a = refl
carried_moves (due.Read c) flight free what h a = refl
carried_moves (due.ReadAway c) flight free what h a = refl
carried_moves (due.RecvFrom c port) flight free what h a = refl
carried_moves call flight free (Took count) h a = a
carried_moves call flight free (Got bytes) h a = a
carried_moves call flight free (Datagram from body) h a = a
carried_moves call flight free what h a = cc

-- Where bytes move the socket is open.
pub carried_open : (starts : Starts) (past : Past) (n : ℕ) (what : LinkEntry) → carries what ≡ true → fits starts past n what ≡ true → is_open (sheet.status past n) ≡ true
carried_open starts past n what c h =
    let f = flight starts past n in
    let r = rx_free starts past n in
    elim (or_cases (answers_call (outgoing starts past n) f r what) (answers_call (incoming starts past n) f r what) h) [
      | inl out ↦ out_open starts past n (carried_moves (outgoing starts past n) f r what c out)
      | inr in_ ↦ in_open starts past n (carried_moves (incoming starts past n) f r what c in_)
    ]

-- The link takes no more than is in flight.
took_few : (call : Due) (flight free count : ℕ) → answers_call call flight free (Took count) ≡ true → count ≤ flight
took_few (due.Write c) flight free count h = leb-true count flight (and_parts (leb 1 count) (leb count flight) h).1
took_few (due.SendTo c port to) flight free count h = let is = eqb-true count flight h in omega (arith, is)
took_few call flight free count h = cc

pub took_within : (parts : Parts) (n count : ℕ) → fits_here parts n (Took count) ≡ true → count ≤ rings.flight_of parts.rings n
took_within parts n count h =
    let life = get_or parts.lives n no_life in
    let f = rings.flight_of parts.rings n in
    let r = rings.rx_free parts.rings n in
    let out = outgoing_of n (life_of life) (address_of life) (port_of life) f in
    let in_ = incoming_of n (life_of life) (port_of life) r in
    elim (or_cases (answers_call out f r (Took count)) (answers_call in_ f r (Took count)) h) [
      | inl one ↦ took_few out f r count one
      | inr other ↦ took_few in_ f r count other
    ]

-- In ESTABLISHED no more comes in than is free.
abbrev reads_away : Due → Bool
reads_away (due.ReadAway c) = true
reads_away call = false

got_few : (call : Due) (flight free : ℕ) (bytes : List ℕ) → reads_away call ≡ false → answers_call call flight free (Got bytes) ≡ true → length bytes ≤ free
got_few (due.Read c) flight free bytes away h =
    let most = leb-true (length bytes) (min free most_read) (and_parts (leb 1 (length bytes)) (leb (length bytes) (min free most_read)) h).1 in
    omega (arith, most)
got_few (due.ReadAway c) flight free bytes away h = cc
got_few call flight free bytes away h = cc

neither_away : (b : Bool) (x y : Due) → reads_away x ≡ false → reads_away y ≡ false → reads_away (cond b x y) ≡ false
neither_away true x y h k = h
neither_away false x y h k = k

away_out : (old : Option ℕ) (n : ℕ) (at : Status) (c : ConnId) (to : Addr) (port flying : ℕ) (shut : Bool) → is_established at ≡ true
    → reads_away (elim old as (λ o. Due) [ None ↦ outgoing_in at c to port flying shut | Some life ↦ due.Drop (connection n life) ]) ≡ false
away_out (Some life) n at c to port flying shut h = refl
away_out None n Established c to port flying shut h = neither_away (ltb 0 flying) (due.Write c) due.Nothing refl refl
away_out None n at c to port flying shut h = cc

away_in : (old : Option ℕ) (at : Status) (c : ConnId) (port free : ℕ) (ended : Bool) → is_established at ≡ true
    → reads_away (elim old as (λ o. Due) [ None ↦ incoming_in at c port free ended | Some life ↦ due.Nothing ]) ≡ false
away_in (Some life) at c port free ended h = refl
away_in None Established c port free ended h = neither_away (ltb 0 free) (due.Read c) due.Nothing refl refl
away_in None at c port free ended h = cc

pub got_within : (parts : Parts) (n : ℕ) (bytes : List ℕ) → fits_here parts n (Got bytes) ≡ true → is_established (life_of (get_or parts.lives n no_life)).status ≡ true
    → length bytes ≤ rings.rx_free parts.rings n
got_within parts n bytes h on =
    let life = get_or parts.lives n no_life in
    let at = life_of life in
    let f = rings.flight_of parts.rings n in
    let r = rings.rx_free parts.rings n in
    let conn = connection n at.lives in
    let out = outgoing_of n at (address_of life) (port_of life) f in
    let in_ = incoming_of n at (port_of life) r in
    elim (or_cases (answers_call out f r (Got bytes)) (answers_call in_ f r (Got bytes)) h) [
      | inl one ↦ got_few out f r bytes (away_out at.old n at.status conn (address_of life) (port_of life) f at.shut on) one
      | inr other ↦ got_few in_ f r bytes (away_in at.old at.status conn (port_of life) r at.ended on) other
    ]

-- What fits by the fields is what fits after the past.
pub flight_is : (starts : Starts) (past : Past) (parts : Parts) (n : ℕ) → n < 8 → Holds starts parts past → rings.flight_of parts.rings n ≡ flight starts past n
flight_is starts past parts n below held = sym (held.tx n below).flight

pub free_is : (starts : Starts) (past : Past) (parts : Parts) (n : ℕ) → n < 8 → Holds starts parts past → rings.rx_free parts.rings n ≡ rx_free starts past n
free_is starts past parts n below held =
    let size = (held.rx n below).size in
    let unread = (held.rx n below).unread in
    omega (arith, size, unread)

pub agrees : (starts : Starts) (past : Past) (parts : Parts) (n : ℕ) (what : LinkEntry) → n < 8 → Holds starts parts past → fits_here parts n what ≡ fits starts past n what
agrees starts past parts n what below held =
    let life = held.lives n no_life below in
    let f = flight_is starts past parts n below held in
    let r = free_is starts past parts n below held in
    λ i. fits_either (outgoing_of n (life.life i) (life.address i) (life.port i) (f i)) (incoming_of n (life.life i) (life.port i) (r i)) (f i) (r i) what

pub has_no_place : (count free : ℕ) → free < 8 + count → has_place count free ≡ false
has_no_place count free more = elim (cases_Bool (has_place count free)) [
  | inl so ↦ let few = leb-true (8 + count) free so in absurd (omega (arith, few, more))
  | inr not_so ↦ not_so
]

-- What a life answers at the two places of its socket.
pub due_out : (n : ℕ) (life : Life) (f r : ℕ) → due_of (2 * n) life f r ≡ outgoing_of n (life_of life) (address_of life) (port_of life) f
due_out n life f r =
    cond-true (eqb (2 * n % 2) 0) _ _ (eq-eqb (2 * n % 2) 0 (omega arith))
    ∙ ap (λ (k : ℕ). outgoing_of k (life_of life) (address_of life) (port_of life) f) (let is : 2 * n / 2 ≡ n = omega arith in is)

pub due_in : (n : ℕ) (life : Life) (f r : ℕ) → due_of (2 * n + 1) life f r ≡ incoming_of n (life_of life) (port_of life) r
due_in n life f r =
    cond-false (eqb ((2 * n + 1) % 2) 0) _ _ (ne_eqb ((2 * n + 1) % 2) 0 (λ z. omega (arith, z)))
    ∙ ap (λ (k : ℕ). incoming_of k (life_of life) (port_of life) r) (let is : (2 * n + 1) / 2 ≡ n = omega arith in is)

-- What the function answers by the calls that are due at the two places.
pub answered : (parts : Parts) (n f r : ℕ) (life : Life) (what : LinkEntry) (call : Due) → life ≡ get_or parts.lives n no_life → f ≡ rings.flight_of parts.rings n → r ≡ rings.rx_free parts.rings n
    → call ≡ due_of (2 * n) life f r
    → answers_call call f r what ≡ answers_call (outgoing_of n (life_of (get_or parts.lives n no_life)) (address_of (get_or parts.lives n no_life)) (port_of (get_or parts.lives n no_life)) (rings.flight_of parts.rings n)) (rings.flight_of parts.rings n) (rings.rx_free parts.rings n) what
answered parts n f r life what call it f_is r_is is =
    let same = is ∙ due_out n life f r in
    ap (λ (d : Due). answers_call d f r what) same
    ∙ (λ i. answers_call (outgoing_of n (life_of (it i)) (address_of (it i)) (port_of (it i)) (f_is i)) (f_is i) (r_is i) what)

pub answered_in : (parts : Parts) (n f r : ℕ) (life : Life) (what : LinkEntry) (call : Due) → life ≡ get_or parts.lives n no_life → f ≡ rings.flight_of parts.rings n → r ≡ rings.rx_free parts.rings n
    → call ≡ due_of (2 * n + 1) life f r
    → answers_call call f r what ≡ answers_call (incoming_of n (life_of (get_or parts.lives n no_life)) (port_of (get_or parts.lives n no_life)) (rings.rx_free parts.rings n)) (rings.flight_of parts.rings n) (rings.rx_free parts.rings n) what
answered_in parts n f r life what call it f_is r_is is =
    let same = is ∙ due_in n life f r in
    ap (λ (d : Due). answers_call d f r what) same
    ∙ (λ i. answers_call (incoming_of n (life_of (it i)) (port_of (it i)) (r_is i)) (f_is i) (r_is i) what)

pub or_first : (x a b : Bool) → x ≡ a → x ≡ true → x ≡ (a || b)
or_first x a b is so = so ∙ sym (ap (λ (y : Bool). y || b) (sym is ∙ so))

pub or_second : (x y a b : Bool) → x ≡ a → x ≡ false → y ≡ b → y ≡ (a || b)
or_second x y a b is not_so other = other ∙ sym (ap (λ (z : Bool). z || b) (sym is ∙ not_so))
