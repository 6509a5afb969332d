-- What a call that is due says of its socket.
use Rattle.std.proofs.Common.{◌≡◌, ◌<◌, ℕ, ◌/◌, ◌%◌, Bool, true, false, cond, eqb, ltb, Option, None, Some, ◌⊎◌, inl, inr, refl, subst}
use Rattle.std.proofs.lemmas.Bool.{cond_both, ltb-true}
use Rattle.chip_sheet.specs.declared.event.Addr.{Addr}
use Rattle.chip_sheet.specs.declared.event.ConnId.{ConnId}
use Rattle.chip_sheet.specs.declared.socket.Status.{Status}
use Rattle.chip_sheet.specs.declared.socket.Status.TheVariants.{Closed, Init, Listen, SynSent, Established, FinWait, CloseWait, LastAck, Udp}
use Rattle.chip_sheet.specs.declared.socket.Due.{Due}
use Rattle.chip_sheet.specs.declared.socket.Due.TheVariants as due
use Rattle.chip_sheet.specs.Past.{Past}
use Rattle.chip_sheet.specs.Life.{Life, life, status, lives, old, is_udp, is_closed}
use Rattle.chip_sheet.specs.Streams.{Starts, is_open}
use Rattle.chip_sheet.specs.Windows.{flight, rx_free}
use Rattle.chip_sheet.specs.LinkCalls.{outgoing_in, incoming_in, outgoing, incoming, outgoing_of, incoming_of, due_at, connection, kept_address, kept_port}

-- What a call says of the status, where this is the present connection, this address is kept, so many bytes are in flight, and this
-- life is still to be forgotten.
abbrev pub Says : Status → ConnId → Addr → ℕ → Option ℕ → Due → Type 0
Says at c to fl old due.Nothing = Unit {0}
Says at c to fl old (due.Drop d) = (d.sn ≡ c.sn) × (old ≡ Some d.life)
Says at c to fl old (due.Connect d a) = d ≡ c
Says at c to fl old (due.Write d) = (d ≡ c) × ((is_open at ≡ true) × ((is_udp at ≡ false) × (is_closed at ≡ false)))
Says at c to fl old (due.SendTo d port a) = (d ≡ c) × ((at ≡ Udp) × ((a ≡ to) × (0 < fl)))
Says at c to fl old (due.Shut d) = d ≡ c
Says at c to fl old (due.Accept d port) = d ≡ c
Says at c to fl old (due.Read d) = (d ≡ c) × ((is_open at ≡ true) × ((is_udp at ≡ false) × (is_closed at ≡ false)))
Says at c to fl old (due.ReadAway d) = (d ≡ c) × ((is_open at ≡ true) × ((is_udp at ≡ false) × (is_closed at ≡ false)))
Says at c to fl old (due.RecvFrom d port) = (d ≡ c) × (at ≡ Udp)

out_says : (at : Status) (c : ConnId) (to : Addr) (port fl : ℕ) (shut : Bool) (old : Option ℕ) → Says at c to fl old (outgoing_in at c to port fl shut)
out_says SynSent c to port fl shut old = refl
out_says Established c to port fl shut old = cond_both (ltb 0 fl) (due.Write c) due.Nothing (Says Established c to fl old) (λ e. (refl, (refl, (refl, refl)))) (λ e. tt)
out_says CloseWait c to port fl shut old = cond_both (ltb 0 fl) (due.Write c) due.Nothing (Says CloseWait c to fl old) (λ e. (refl, (refl, (refl, refl)))) (λ e. tt)
out_says FinWait c to port fl shut old =
    cond_both (ltb 0 fl) (due.Write c) (cond shut due.Nothing (due.Shut c)) (Says FinWait c to fl old) (λ e. (refl, (refl, (refl, refl))))
    (λ e. cond_both shut due.Nothing (due.Shut c) (Says FinWait c to fl old) (λ f. tt) (λ f. refl))
out_says LastAck c to port fl shut old =
    cond_both (ltb 0 fl) (due.Write c) (cond shut due.Nothing (due.Shut c)) (Says LastAck c to fl old) (λ e. (refl, (refl, (refl, refl))))
    (λ e. cond_both shut due.Nothing (due.Shut c) (Says LastAck c to fl old) (λ f. tt) (λ f. refl))
out_says Udp c to port fl shut old = cond_both (ltb 0 fl) (due.SendTo c port to) due.Nothing (Says Udp c to fl old) (λ e. (refl, (refl, (refl, ltb-true 0 fl e)))) (λ e. tt)
out_says Closed c to port fl shut old = tt
out_says Init c to port fl shut old = tt
out_says Listen c to port fl shut old = tt

in_says : (at : Status) (c : ConnId) (to : Addr) (port fl free : ℕ) (ended : Bool) (old : Option ℕ) → Says at c to fl old (incoming_in at c port free ended)
in_says Listen c to port fl free ended old = refl
in_says Established c to port fl free ended old = cond_both (ltb 0 free) (due.Read c) due.Nothing (Says Established c to fl old) (λ e. (refl, (refl, (refl, refl)))) (λ e. tt)
in_says FinWait c to port fl free ended old = cond_both ended due.Nothing (due.ReadAway c) (Says FinWait c to fl old) (λ e. tt) (λ e. (refl, (refl, (refl, refl))))
in_says Udp c to port fl free ended old = (refl, refl)
in_says Closed c to port fl free ended old = tt
in_says Init c to port fl free ended old = tt
in_says SynSent c to port fl free ended old = tt
in_says CloseWait c to port fl free ended old = tt
in_says LastAck c to port fl free ended old = tt

pub out_of : (n : ℕ) (at : Life) (to : Addr) (port fl : ℕ) (o : Option ℕ) → at.old ≡ o → Says at.status (connection n at.lives) to fl at.old (outgoing_of n at to port fl)
out_of n at to port fl (Some l) is = rw is (refl, refl)
out_of n at to port fl None is = rw is (out_says at.status (connection n at.lives) to port fl at.shut None)

pub in_of : (n : ℕ) (at : Life) (to : Addr) (port fl free : ℕ) (o : Option ℕ) → at.old ≡ o → Says at.status (connection n at.lives) to fl at.old (incoming_of n at port free)
in_of n at to port fl free (Some l) is = rw is tt
in_of n at to port fl free None is = rw is (in_says at.status (connection n at.lives) to port fl free at.ended None)

-- What a call that is due on socket n says.
abbrev pub Says_of : Starts → Past → ℕ → Due → Type 0
Says_of starts past n call = Says (status past n) (connection n (lives past n)) (kept_address past n) (flight starts past n) (old past n) call

says : (starts : Starts) (past : Past) (place : ℕ) → Says_of starts past (place / 2) (due_at starts past place)
says starts past place =
    let n = place / 2 in
    cond_both (eqb (place % 2) 0) (outgoing starts past n) (incoming starts past n) (Says (status past n) (connection n (lives past n)) (kept_address past n) (flight starts past n) (old past n))
    (λ e. out_of n (life past n) (kept_address past n) (kept_port past n) (flight starts past n) (old past n) refl)
    (λ e. in_of n (life past n) (kept_address past n) (kept_port past n) (flight starts past n) (rx_free starts past n) (old past n) refl)

-- What the call that is due at a place says of its socket.
pub told_of : (starts : Starts) (past : Past) (place : ℕ) (call : Due) → due_at starts past place ≡ call → Says_of starts past (place / 2) call
told_of starts past place call is = subst (Says_of starts past (place / 2)) is (says starts past place)

either_place : (b : Bool) (out in_ call : Due) → cond b out in_ ≡ call → (out ≡ call) ⊎ (in_ ≡ call)
either_place true out in_ call h = inl h
either_place false out in_ call h = inr h

-- The call that is due at a place is one of its socket's two.
pub of_socket : (starts : Starts) (past : Past) (place : ℕ) (call : Due) → due_at starts past place ≡ call → (outgoing starts past (place / 2) ≡ call) ⊎ (incoming starts past (place / 2) ≡ call)
of_socket starts past place call h = either_place (eqb (place % 2) 0) (outgoing starts past (place / 2)) (incoming starts past (place / 2)) call h
