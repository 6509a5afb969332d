-- What a write or a read finds: a connection that is made, bytes in flight, and room.
use Rattle.std.proofs.Common.{◌≡◌, ◌≤◌, ◌<◌, ◌-◌, ◌/◌, ◌%◌, ℕ, min, zero, suc, Bool, true, false, ◌&&◌, cond, eqb, ltb, [], ◌∷◌, Option, None, Some, inl, inr, refl, sym, ap, ◌∙◌, subst, arith, mod-lt}
use Rattle.std.proofs.lemmas.Bool.{cond_both, ltb-true, eqb-true, or_cases, false≢true}
use Rattle.chip_sheet.specs.declared.event.Addr.{Addr}
use Rattle.chip_sheet.specs.declared.event.ConnId.{ConnId}
use Rattle.chip_sheet.specs.declared.event.Entry.TheVariants.{Bus, Link, Rest}
use Rattle.chip_sheet.specs.declared.event.LinkEntry.{LinkEntry}
use Rattle.chip_sheet.specs.declared.event.LinkEntry.TheVariants.{Dropped}
use Rattle.chip_sheet.specs.declared.socket.Status.{Status}
use Rattle.chip_sheet.specs.declared.socket.Status.TheVariants.{Closed, Init, Listen, SynSent, Established, FinWait, CloseWait, LastAck, Udp}
use Rattle.chip_sheet.specs.declared.socket.Cause.{Cause}
use Rattle.chip_sheet.specs.declared.socket.Cause.TheVariants as because
use Rattle.chip_sheet.specs.declared.socket.Due.{Due}
use Rattle.chip_sheet.specs.declared.socket.Due.TheVariants as due
use Rattle.chip_sheet.specs.Past.{Past}
use Rattle.chip_sheet.specs.Life.{Life, Facts, facts_of, life, life_after, lives_on, new_life, next, begins, cause, status, lives, old, is_closed, is_udp}
use Rattle.chip_sheet.specs.Sizes.{tx_size, rx_size}
use Rattle.chip_sheet.specs.Streams.{Starts, is_open}
use Rattle.chip_sheet.specs.Windows.{flight, rx_free, unread, offered_length, room_length, first_in_flight, received_position}
use Rattle.chip_sheet.specs.Connections.{is_dropped, is_drop, is_life}
use Rattle.chip_sheet.specs.LinkCalls.{outgoing_in, incoming_in, outgoing, incoming, outgoing_of, incoming_of, due_at, connection, kept_address, kept_port}
use Rattle.chip_sheet.specs.Legal.{Legal}
use Rattle.chip_sheet.proofs.LivesLaws.{old_behind}
use Rattle.chip_sheet.proofs.FitLaws.{flight_within}
use Rattle.chip_sheet.proofs.MadeLaws.{open_made}
use Rattle.link_trait.specs.Shown.{Shown}
use Rattle.chip_shared.specs.Tied.{Ready}

-- A life that the link forgot is closed, and stays so.
record Behind (at : Life) (l : ℕ) : Type 0 where
  most : l ≤ at.lives
  closed : l ≡ at.lives → is_closed at.status ≡ true

stays_closed : (at : Status) (why : Cause) (facts : Facts) → begins why at ≡ false → is_closed at ≡ true → is_closed (next at why facts) ≡ true
stays_closed Closed because.OpenTcp facts on h = cc
stays_closed Closed because.OpenUdp facts on h = cc
stays_closed Closed why facts on h = refl
stays_closed at why facts on h = cc

behind_on : (at : Life) (why : Cause) (l : ℕ) → Behind at l → Behind (life_after at why) l
behind_on at why l it =
    let after = next at.status why (facts_of why at) in
    let most = it.most in
    cond_both (begins why at.status) (new_life at after) (lives_on at why after) (λ (now : Life). Behind now l)
    (λ new. record { most = omega (arith, most); closed = λ same. absurd (omega (arith, most, same)) })
    (λ on. record { most = most; closed = λ same. stays_closed at.status why (facts_of why at) on (it.closed same) })

is_drop_of : (w : LinkEntry) (here : Bool) (l : ℕ) (old_ : Option ℕ) → (is_drop w && here && is_life l old_) ≡ true → (here ≡ true) × (old_ ≡ Some l)
is_drop_of Dropped true l (Some k) h = (refl, ap Some (eqb-true k l h))
is_drop_of Dropped true l None h = cc
is_drop_of Dropped false l old_ h = cc
is_drop_of w here l old_ h = cc

dropped_behind : (past : Past) (n l : ℕ) → is_dropped past n l ≡ true → Behind (life past n) l
dropped_behind [] n l h = cc
dropped_behind (Bus e a ∷ past) n l h = behind_on (life past n) (cause past n (Bus e a)) l (dropped_behind past n l h)
dropped_behind (Rest ∷ past) n l h = behind_on (life past n) (cause past n Rest) l (dropped_behind past n l h)
dropped_behind (Link m w ∷ past) n l h =
    behind_on (life past n) (cause past n (Link m w)) l
    (elim (or_cases (is_drop w && eqb m n && is_life l (old past n)) (is_dropped past n l) h) [
      | inl now ↦ let it = old_behind past n l (is_drop_of w (eqb m n) l (old past n) now).1 in record { most = it.0; closed = it.1 }
      | inr before ↦ dropped_behind past n l before
    ])

not_true : (b : Bool) → (b ≡ true → ⊥) → b ≡ false
not_true true h = absurd (h refl)
not_true false h = refl

alive_not_dropped : (past : Past) (n : ℕ) → is_closed (status past n) ≡ false → is_dropped past n (lives past n) ≡ false
alive_not_dropped past n alive = not_true (is_dropped past n (lives past n)) (λ h. false≢true (sym alive ∙ (dropped_behind past n (lives past n) h).closed refl))

-- The connection of an open TCP socket is made for the links.
pub made_here : (past : Past) (shown : Shown) (n : ℕ) (c : ConnId) → n < 8 → Ready past shown → c ≡ connection n (lives past n) → is_open (status past n) ≡ true → is_udp (status past n) ≡ false → is_closed (status past n) ≡ false
    → shown.made c ≡ true
made_here past shown n c few ready is on tcp alive = rw is (ready.made (connection n (lives past n)) few (open_made past n on tcp) (alive_not_dropped past n alive))

-- What a call says of the windows.
abbrev Opens : ℕ → ℕ → Due → Type 0
Opens fl free (due.Write d) = 0 < fl
Opens fl free (due.Read d) = 0 < free
Opens fl free call = Unit {0}

out_opens : (at : Status) (c : ConnId) (to : Addr) (port fl free : ℕ) (shut : Bool) → Opens fl free (outgoing_in at c to port fl shut)
out_opens Established c to port fl free shut = cond_both (ltb 0 fl) (due.Write c) due.Nothing (Opens fl free) (λ e. ltb-true 0 fl e) (λ e. tt)
out_opens CloseWait c to port fl free shut = cond_both (ltb 0 fl) (due.Write c) due.Nothing (Opens fl free) (λ e. ltb-true 0 fl e) (λ e. tt)
out_opens FinWait c to port fl free shut =
    cond_both (ltb 0 fl) (due.Write c) (cond shut due.Nothing (due.Shut c)) (Opens fl free) (λ e. ltb-true 0 fl e) (λ e. cond_both shut due.Nothing (due.Shut c) (Opens fl free) (λ f. tt) (λ f. tt))
out_opens LastAck c to port fl free shut =
    cond_both (ltb 0 fl) (due.Write c) (cond shut due.Nothing (due.Shut c)) (Opens fl free) (λ e. ltb-true 0 fl e) (λ e. cond_both shut due.Nothing (due.Shut c) (Opens fl free) (λ f. tt) (λ f. tt))
out_opens Udp c to port fl free shut = cond_both (ltb 0 fl) (due.SendTo c port to) due.Nothing (Opens fl free) (λ e. tt) (λ e. tt)
out_opens SynSent c to port fl free shut = tt
out_opens Closed c to port fl free shut = tt
out_opens Init c to port fl free shut = tt
out_opens Listen c to port fl free shut = tt

in_opens : (at : Status) (c : ConnId) (port fl free : ℕ) (ended : Bool) → Opens fl free (incoming_in at c port free ended)
in_opens Established c port fl free ended = cond_both (ltb 0 free) (due.Read c) due.Nothing (Opens fl free) (λ e. ltb-true 0 free e) (λ e. tt)
in_opens FinWait c port fl free ended = cond_both ended due.Nothing (due.ReadAway c) (Opens fl free) (λ e. tt) (λ e. tt)
in_opens Listen c port fl free ended = tt
in_opens Udp c port fl free ended = tt
in_opens Closed c port fl free ended = tt
in_opens Init c port fl free ended = tt
in_opens SynSent c port fl free ended = tt
in_opens CloseWait c port fl free ended = tt
in_opens LastAck c port fl free ended = tt

out_of : (n : ℕ) (at : Life) (to : Addr) (port fl free : ℕ) (o : Option ℕ) → at.old ≡ o → Opens fl free (outgoing_of n at to port fl)
out_of n at to port fl free (Some l) is = rw is tt
out_of n at to port fl free None is = rw is (out_opens at.status (connection n at.lives) to port fl free at.shut)

in_of : (n : ℕ) (at : Life) (port fl free : ℕ) (o : Option ℕ) → at.old ≡ o → Opens fl free (incoming_of n at port free)
in_of n at port fl free (Some l) is = rw is tt
in_of n at port fl free None is = rw is (in_opens at.status (connection n at.lives) port fl free at.ended)

opens : (starts : Starts) (past : Past) (place : ℕ) → Opens (flight starts past (place / 2)) (rx_free starts past (place / 2)) (due_at starts past place)
opens starts past place =
    let n = place / 2 in
    cond_both (eqb (place % 2) 0) (outgoing starts past n) (incoming starts past n) (Opens (flight starts past n) (rx_free starts past n))
    (λ e. out_of n (life past n) (kept_address past n) (kept_port past n) (flight starts past n) (rx_free starts past n) (old past n) refl)
    (λ e. in_of n (life past n) (kept_port past n) (flight starts past n) (rx_free starts past n) (old past n) refl)

-- A position's place in a buffer lies before its end.
behind_place : (at size : ℕ) → 0 < size → 0 < size - at % size
behind_place at zero h = absurd (omega (arith, h))
behind_place at (suc size) h = let some : 0 < suc size = omega arith in let less = mod-lt at some in omega (arith, less)

-- A write is offered at least one byte.
pub some_offered : (starts : Starts) (past : Past) (place : ℕ) (c : ConnId) → place < 16 → Legal starts past → due_at starts past place ≡ due.Write c → 0 < offered_length starts past (place / 2)
some_offered starts past place c few legal is =
    let n = place / 2 in
    let flies = subst (Opens (flight starts past n) (rx_free starts past n)) is (opens starts past place) in
    let within = flight_within starts past n (omega (arith, few)) legal in
    let size : 0 < tx_size past n = omega (arith, flies, within) in
    let rest = behind_place (first_in_flight starts past n) (tx_size past n) size in
    least (flight starts past n) _ flies rest
  where
    least : (a b : ℕ) → 0 < a → 0 < b → 0 < min a b
    least a b h k = omega (arith, h, k)

-- A read has room for at least one byte.
pub some_room : (starts : Starts) (past : Past) (place : ℕ) (c : ConnId) → due_at starts past place ≡ due.Read c → 0 < room_length starts past (place / 2)
some_room starts past place c is =
    let n = place / 2 in
    let free = subst (Opens (flight starts past n) (rx_free starts past n)) is (opens starts past place) in
    let size : 0 < rx_size past n = sized (rx_size past n) (unread starts past n) free in
    let rest = behind_place (received_position starts past n) (rx_size past n) size in
    least (rx_free starts past n) _ free rest
  where
    sized : (size used : ℕ) → 0 < size - used → 0 < size
    sized size used h = omega (arith, h)

    least : (a b : ℕ) → 0 < a → 0 < b → 0 < min a (min 1472 b)
    least a b h k = omega (arith, h, k)
