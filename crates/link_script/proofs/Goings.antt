-- What a call on a peer keeps and adds.
use Rattle.std.proofs.Common.{◌≡◌, ◌==◌, ◌⊎◌, inl, inr, ℕ, Bool, true, false, not, refl, sym, ap, subst, ◌∙◌, List, [], ◌∷◌, ◌++◌, length, take, Option, Some, None, if◌then◌else◌, append-nil}
use Rattle.std.proofs.Common.{arith}
use Rattle.chip_sheet.specs.declared.event.Addr.{Addr}
use Rattle.chip_sheet.specs.declared.event.ConnId.{ConnId}
use Rattle.chip_sheet.specs.LinkAnswers.{LinkAnswer, Done, DoneFrom, DoneWith, DoneBytes, DoneDatagram, NotYet, End, Failed}
use Rattle.chip_sheet.specs.Windows.{most_read}
use Rattle.link_trait.specs.Calls.{Call, SetRoutes, Connect, Accept, Write, Read, SendTo, RecvFrom, Shut, DropConn, same, is_on}
use Rattle.link_trait.specs.Shown.{gives, addresses, gets, makes, ends}
use Rattle.link_script.specs.Acting.{Acting, fed, front, is_ready, part, countable, has_ended, moved, write_after, send_after, send_answer, takes_whole, takes_of, left_by, lowered, puts_off, read_after, read_answer, read_from, receive_answer, receive_from, counted, fails, counted_answer, counted_after, peer_answer, peer_after, wrote, is_udp, entry, used_after}
use Rattle.link_script.proofs.Hearing.{fed_moved}

pub record Goes (p q : Acting) (call : Call) (answer : LinkAnswer) : Type 0 where
  pub script : q.script ≡ p.script
  pub conn : q.conn ≡ p.conn
  pub tells : q.tells ≡ p.tells
  pub given : q.given ≡ p.given ++ gives call answer
  pub dests : q.dests ≡ p.dests ++ addresses call answer
  pub read : fed q ≡ fed p ++ gets answer

-- nothing is added
stays : (p q : Acting) (call : Call) (answer : LinkAnswer) → q.script ≡ p.script → q.conn ≡ p.conn → q.tells ≡ p.tells
    → q.given ≡ p.given → q.dests ≡ p.dests → fed q ≡ fed p → gives call answer ≡ [] → addresses call answer ≡ [] → gets answer ≡ []
    → Goes p q call answer
stays p q call answer s c t g d f g0 d0 f0 = record {
  script = s;
  conn = c;
  tells = t;
  given = rw (g0, append-nil p.given) g;
  dests = rw (d0, append-nil p.dests) d;
  read = rw (f0, append-nil (fed p)) f;
}

-- a call that is counted
counted_goes : (p : Acting) (call : Call) (apt : Bool) (answer : LinkAnswer) (q : Acting)
    → gives call NotYet ≡ [] → addresses call NotYet ≡ [] → gives call Failed ≡ [] → addresses call Failed ≡ []
    → Goes (counted p) q call answer → Goes p (counted_after apt p q) call (counted_answer apt p answer)
counted_goes p call false answer q g0 d0 g1 d1 h = stays p p call NotYet refl refl refl refl refl refl g0 d0 refl
counted_goes p call true answer q g0 d0 g1 d1 h =
    let go : (v : Bool) → Goes p (if v then counted p else q) call (if v then Failed else answer) = elim [
      | true ↦ stays p (counted p) call Failed refl refl refl refl refl refl g1 d1 refl
      | false ↦ record { script = h.script; conn = h.conn; tells = h.tells; given = h.given; dests = h.dests; read = h.read }
    ] in
    go (fails p)

write_gives : (c : ConnId) (piece : List ℕ) (n : ℕ) (v : Bool) → (n == 0) ≡ v
    → take n piece ≡ gives (Write c piece) (if v then NotYet else DoneWith n)
write_gives c piece n true e = let z : n ≡ 0 = grind (arith, e) in rw z refl
write_gives c piece n false e = refl

write_quiet : (c : ConnId) (piece : List ℕ) (n : ℕ) (v : Bool)
    → (addresses (Write c piece) (if v then NotYet else DoneWith n) ≡ []) × (gets (if v then NotYet else DoneWith n) ≡ [])
write_quiet c piece n true = (refl, refl)
write_quiet c piece n false = (refl, refl)

write_goes : (p : Acting) (c : ConnId) (piece : List ℕ) → Goes p (write_after p piece) (Write c piece) (wrote (takes_of p (length piece)))
write_goes p c piece =
    let n = takes_of p (length piece) in
    let still = write_quiet c piece n (n == 0) in
    record {
      script = refl;
      conn = refl;
      tells = refl;
      given = ap (λ l. p.given ++ l) (write_gives c piece n (n == 0) refl);
      dests = rw (still.0, append-nil p.dests) refl;
      read = rw (still.1, append-nil (fed p)) refl;
    }

send_goes : (p : Acting) (c : ConnId) (port : ℕ) (to : Addr) (body : List ℕ)
    → Goes p (send_after p to body) (SendTo c port to body) (send_answer p body)
send_goes p c port to body =
    let u = used_after (entry p) p.used in
    let go : (v : Bool)
    → Goes p (if v then record p { used = u; given = p.given ++ body; dests = p.dests ++ to ∷ [] } else record p { used = u })
    (SendTo c port to body) (if v then Done else NotYet) = elim [
      | true ↦ record { script = refl; conn = refl; tells = refl; given = refl; dests = refl; read = rw (append-nil (fed p)) refl }
      | false ↦ stays p (record p { used = u }) (SendTo c port to body) NotYet refl refl refl refl refl refl refl refl refl
    ] in
    go (takes_whole p (length body))

hears : (p : Acting) (call : Call) (count : ℕ) (answer : LinkAnswer) (o : Option ℕ) → front p ≡ o
    → gives call answer ≡ [] → addresses call answer ≡ []
    → ((passed : ℕ) → o ≡ Some passed → is_ready p passed ≡ true → gets answer ≡ part p passed count)
    → (o ≡ None → gets answer ≡ []) → ((passed : ℕ) → o ≡ Some passed → is_ready p passed ≡ false → gets answer ≡ [])
    → Goes p (left_by p count o) call answer
hears p call count answer None e g0 d0 some none wait = stays p p call answer refl refl refl refl refl refl g0 d0 (none refl)
hears p call count answer (Some passed) e g0 d0 some none wait =
    let go : (v : Bool) → is_ready p passed ≡ v → Goes p (if v then moved p passed (length (part p passed count)) else p) call answer = elim [
      | true ↦ (λ r. record {
        script = refl;
        conn = refl;
        tells = refl;
        given = rw (g0, append-nil p.given) refl;
        dests = rw (d0, append-nil p.dests) refl;
        read = fed_moved p passed count e ∙ ap (λ l. fed p ++ l) (sym (some passed refl r));
      })
      | false ↦ (λ r. stays p p call answer refl refl refl refl refl refl g0 d0 (wait passed refl r))
    ] in
    go (is_ready p passed) refl

ended_gets : (v : Bool) → gets (if v then End else NotYet) ≡ []
ended_gets true = refl
ended_gets false = refl

bytes_get : (v : Bool) (l : List ℕ) → v ≡ true → gets (if v then DoneBytes l else NotYet) ≡ l
bytes_get true l e = refl
bytes_get false l e = absurd (cc)

bytes_none : (v : Bool) (l : List ℕ) → v ≡ false → gets (if v then DoneBytes l else NotYet) ≡ []
bytes_none true l e = absurd (cc)
bytes_none false l e = refl

body_get : (v : Bool) (from : Addr) (l : List ℕ) → v ≡ true → gets (if v then DoneDatagram from l else NotYet) ≡ l
body_get true from l e = refl
body_get false from l e = absurd (cc)

body_none : (v : Bool) (from : Addr) (l : List ℕ) → v ≡ false → gets (if v then DoneDatagram from l else NotYet) ≡ []
body_none true from l e = absurd (cc)
body_none false from l e = refl

pub no_both : (v : Bool) → v ≡ true → v ≡ false → ⊥
no_both true h k = absurd (cc)
no_both false h k = absurd (cc)

some_is : (a b : ℕ) → Some a ≡ Some b → b ≡ a
some_is a b e = cc

ready_gets : (p : Acting) (passed q count : ℕ) → Some passed ≡ Some q → is_ready p q ≡ true
    → gets (if is_ready p passed then DoneBytes (part p passed count) else NotYet) ≡ part p q count
ready_gets p passed q count f r =
    let P : ℕ → Type 0 = λ n. gets (if is_ready p n then DoneBytes (part p n count) else NotYet) ≡ part p q count in
    subst P (some_is passed q f) (bytes_get (is_ready p q) (part p q count) r)

waiting_gets : (p : Acting) (passed q count : ℕ) → Some passed ≡ Some q → is_ready p q ≡ false
    → gets (if is_ready p passed then DoneBytes (part p passed count) else NotYet) ≡ []
waiting_gets p passed q count f r =
    let P : ℕ → Type 0 = λ n. gets (if is_ready p n then DoneBytes (part p n count) else NotYet) ≡ [] in
    subst P (some_is passed q f) (bytes_none (is_ready p q) (part p q count) r)

ready_receives : (p : Acting) (passed q : ℕ) → Some passed ≡ Some q → is_ready p q ≡ true
    → gets (receive_from p (Some passed)) ≡ part p q most_read
ready_receives p passed q f r =
    let P : ℕ → Type 0 = λ n. gets (receive_from p (Some n)) ≡ part p q most_read in
    subst P (some_is passed q f) (body_get (is_ready p q) p.script.addr (part p q most_read) r)

waiting_receives : (p : Acting) (passed q : ℕ) → Some passed ≡ Some q → is_ready p q ≡ false → gets (receive_from p (Some passed)) ≡ []
waiting_receives p passed q f r =
    let P : ℕ → Type 0 = λ n. gets (receive_from p (Some n)) ≡ [] in
    subst P (some_is passed q f) (body_none (is_ready p q) p.script.addr (part p q most_read) r)

-- a read that is put off adds nothing
put_off : (p q : Acting) (call : Call) (answer : LinkAnswer) → gives call NotYet ≡ [] → addresses call NotYet ≡ [] → Goes p q call answer
    → Goes p (if puts_off p then lowered p else q) call (if puts_off p then NotYet else answer)
put_off p q call answer g0 d0 h =
    let go : (v : Bool) → Goes p (if v then lowered p else q) call (if v then NotYet else answer) = elim [
      | true ↦ stays p (lowered p) call NotYet refl refl refl refl refl refl g0 d0 refl
      | false ↦ h
    ] in
    go (puts_off p)

read_goes : (p : Acting) (c : ConnId) (count : ℕ) → Goes p (read_after p count) (Read c count) (read_answer p count)
read_goes p c count =
    let go : (o : Option ℕ) → front p ≡ o → Goes p (left_by p (countable count) o) (Read c count) (read_from p count o) = elim [
      | None ↦ (λ e. hears p (Read c count) (countable count) (read_from p count None) None e refl refl
          (λ passed f r. absurd (cc)) (λ f. ended_gets (has_ended p.script.end (length p.given))) (λ passed f r. absurd (cc)))
      | Some passed ↦ (λ e. hears p (Read c count) (countable count) (read_from p count (Some passed)) (Some passed) e refl refl
          (λ q f r. ready_gets p passed q (countable count) f r) (λ f. absurd (cc)) (λ q f r. waiting_gets p passed q (countable count) f r))
    ] in
    put_off p _ (Read c count) _ refl refl (go (front p) refl)

receive_goes : (p : Acting) (c : ConnId) (port count : ℕ) → Goes p (read_after p most_read) (RecvFrom c port count) (receive_answer p)
receive_goes p c port count =
    let go : (o : Option ℕ) → front p ≡ o → Goes p (left_by p most_read o) (RecvFrom c port count) (receive_from p o) = elim [
      | None ↦ (λ e. hears p (RecvFrom c port count) most_read (receive_from p None) None e refl refl
          (λ passed f r. absurd (cc)) (λ f. refl) (λ passed f r. absurd (cc)))
      | Some passed ↦ (λ e. hears p (RecvFrom c port count) most_read (receive_from p (Some passed)) (Some passed) e refl refl
          (λ q f r. ready_receives p passed q f r) (λ f. absurd (cc)) (λ q f r. waiting_receives p passed q f r))
    ] in
    put_off p _ (RecvFrom c port count) _ refl refl (go (front p) refl)

-- What every call keeps and adds.
pub peer_goes : (p : Acting) (call : Call) → Goes p (peer_after p call) call (peer_answer p call)
peer_goes p (SetRoutes routes) = stays p p (SetRoutes routes) Done refl refl refl refl refl refl refl refl refl
peer_goes p (Connect c to) = stays p (record p { made = true }) (Connect c to) Done refl refl refl refl refl refl refl refl refl
peer_goes p (Accept c port) = stays p (record p { made = true }) (Accept c port) (DoneFrom p.script.addr) refl refl refl refl refl refl refl refl refl
peer_goes p (Write c piece) =
    counted_goes p (Write c piece) (not (is_udp p.script.kind)) _ _ refl refl refl refl (write_goes (counted p) c piece)
peer_goes p (Read c count) =
    counted_goes p (Read c count) (not (is_udp p.script.kind)) _ _ refl refl refl refl (read_goes (counted p) c count)
peer_goes p (SendTo c port to body) =
    counted_goes p (SendTo c port to body) (is_udp p.script.kind) _ _ refl refl refl refl (send_goes (counted p) c port to body)
peer_goes p (RecvFrom c port count) =
    counted_goes p (RecvFrom c port count) (is_udp p.script.kind) _ _ refl refl refl refl (receive_goes (counted p) c port count)
peer_goes p (Shut c) = counted_goes p (Shut c) true Done (counted p) refl refl refl refl
    (stays (counted p) (counted p) (Shut c) Done refl refl refl refl refl refl refl refl refl)
peer_goes p (DropConn c) = stays p (record p { made = false }) (DropConn c) Done refl refl refl refl refl refl refl refl refl

-- Whether its connection is made.

made_counted : (p : Acting) (apt : Bool) (q : Acting) → q.made ≡ p.made → (counted_after apt p q).made ≡ p.made
made_counted p false q e = refl
made_counted p true q e =
    let go : (v : Bool) → (if v then counted p else q).made ≡ p.made = elim [ true ↦ refl | false ↦ e ] in
    go (fails p)

made_read : (p : Acting) (count : ℕ) (o : Option ℕ) → (left_by p count o).made ≡ p.made
made_read p count None = refl
made_read p count (Some passed) =
    let go : (v : Bool) → (if v then moved p passed (length (part p passed count)) else p).made ≡ p.made = elim [ true ↦ refl | false ↦ refl ] in
    go (is_ready p passed)

made_put_off : (p : Acting) (count : ℕ) → (read_after p count).made ≡ p.made
made_put_off p count =
    let go : (v : Bool) → (if v then lowered p else left_by p (countable count) (front p)).made ≡ p.made = elim [
      | true ↦ refl
      | false ↦ made_read p (countable count) (front p)
    ] in
    go (puts_off p)

made_send : (p : Acting) (to : Addr) (body : List ℕ) → (send_after p to body).made ≡ p.made
made_send p to body =
    let u = used_after (entry p) p.used in
    let go : (v : Bool)
    → (if v then record p { used = u; given = p.given ++ body; dests = p.dests ++ to ∷ [] } else record p { used = u }).made ≡ p.made = elim [
      | true ↦ refl
      | false ↦ refl
    ] in
    go (takes_whole p (length body))

pub record Made (p q : Acting) (call : Call) (answer : LinkAnswer) (c : ConnId) : Type 0 where
  pub made : makes call answer c ≡ true → q.made ≡ true
  pub stays_made : p.made ≡ true → ends call c ≡ false → q.made ≡ true
  pub only : q.made ≡ true → (p.made ≡ true) ⊎ (makes call answer c ≡ true)

unmade : (p q : Acting) (call : Call) (answer : LinkAnswer) (c : ConnId) → q.made ≡ p.made → makes call answer c ≡ false → Made p q call answer c
unmade p q call answer c e n = record {
  made = λ h. absurd (no_both (makes call answer c) h n);
  stays_made = λ h k. e ∙ h;
  only = λ h. inl (sym e ∙ h);
}

-- a call on this connection
pub peer_made : (p : Acting) (call : Call) (c : ConnId) → is_on call c ≡ true → Made p (peer_after p call) call (peer_answer p call) c
peer_made p (SetRoutes routes) c own = unmade p p (SetRoutes routes) Done c refl refl
peer_made p (Connect d to) c own = record { made = λ h. refl; stays_made = λ h k. refl; only = λ h. inr own }
peer_made p (Accept d port) c own = record { made = λ h. refl; stays_made = λ h k. refl; only = λ h. inr own }
peer_made p (Write d piece) c own = unmade p _ (Write d piece) _ c (made_counted p (not (is_udp p.script.kind)) (write_after (counted p) piece) refl) refl
peer_made p (Read d count) c own = unmade p _ (Read d count) _ c
    (made_counted p (not (is_udp p.script.kind)) (read_after (counted p) count) (made_put_off (counted p) count)) refl
peer_made p (SendTo d port to body) c own = unmade p _ (SendTo d port to body) _ c
    (made_counted p (is_udp p.script.kind) (send_after (counted p) to body) (made_send (counted p) to body)) refl
peer_made p (RecvFrom d port count) c own = unmade p _ (RecvFrom d port count) _ c
    (made_counted p (is_udp p.script.kind) (read_after (counted p) most_read) (made_put_off (counted p) most_read)) refl
peer_made p (Shut d) c own = unmade p _ (Shut d) _ c (made_counted p true (counted p) refl) refl
peer_made p (DropConn d) c own = record {
  made = λ h. absurd (no_both false h refl);
  stays_made = λ h k. absurd (no_both (same d c) own k);
  only = λ h. absurd (no_both false h refl);
}
