-- The unread bytes fit the RX buffer.
use Rattle.std.proofs.Common.{◌≡◌, ◌≤◌, ◌<◌, ℕ, ◌+◌, ◌-◌, Bool, true, false, ◌&&◌, cond, eqb, ltb, leb, min, List, [], ◌∷◌, ◌++◌, length, length-append, Option, None, Some, inl, inr, refl, sym, ap, ◌∙◌, subst, arith, ◌⊎◌}
use Rattle.std.proofs.lemmas.Bool.{cases_Bool, and_parts, or_cases, leb-true, cond-true, cond-false, false≢true}
use Rattle.chip_sheet.specs.declared.event.Addr.{Addr}
use Rattle.chip_sheet.specs.declared.event.ConnId.{ConnId}
use Rattle.chip_sheet.specs.declared.socket.Status.{Status}
use Rattle.chip_sheet.specs.declared.socket.Status.TheVariants.{SynSent, Established, FinWait, CloseWait, LastAck, Udp}
use Rattle.chip_sheet.specs.declared.socket.Cause.{Cause}
use Rattle.chip_sheet.specs.declared.socket.Cause.TheVariants as because
use Rattle.chip_sheet.specs.declared.socket.Due.{Due}
use Rattle.chip_sheet.specs.declared.socket.Due.TheVariants as due
use Rattle.chip_sheet.specs.declared.event.Entry.{Entry}
use Rattle.chip_sheet.specs.declared.event.Entry.TheVariants.{Bus, Link, Rest}
use Rattle.chip_sheet.specs.declared.event.LinkEntry.{LinkEntry}
use Rattle.chip_sheet.specs.declared.event.LinkEntry.TheVariants.{Got, Datagram}
use Rattle.chip_sheet.specs.Past.{Past}
use Rattle.chip_sheet.specs.Life.{life, cause, status, lives}
use Rattle.chip_sheet.specs.Sizes.{rx_size}
use Rattle.chip_sheet.specs.Streams.{Starts, is_open, is_of, is_established, header, put_by, free_behind, got, released, released_by}
use Rattle.chip_sheet.specs.Windows.{flight, unread, rx_free, most_read}
use Rattle.chip_sheet.specs.LinkCalls.{outgoing, incoming, outgoing_in, incoming_in, connection, kept_address, kept_port, answers_call, fits}
use Rattle.chip_sheet.specs.Legal.{Legal}
use Rattle.chip_sheet.proofs.SizeLaws.{sizes_after}
use Rattle.chip_sheet.proofs.Within.{released_within, both_same, never_asks}
use Rattle.chip_sheet.proofs.LifeSteps.{is_fresh, was_alive, fresh_got, got_fresh}
use Rattle.chip_sheet.proofs.FitLaws.{open_socket, taken_more, more_fly, free_open, begun_got}

-- A link supplies no more than is free of the RX buffer, where the bytes are kept.
no_read_in : (b : Bool) (x y : Due) (flight free : ℕ) (bytes : List ℕ) → answers_call x flight free (Got bytes) ≡ false → answers_call y flight free (Got bytes) ≡ false
    → answers_call (cond b x y) flight free (Got bytes) ≡ false
no_read_in true x y flight free bytes h k = h
no_read_in false x y flight free bytes h k = k

no_read_out : (at : Status) (c : ConnId) (to : Addr) (port flying : ℕ) (shut : Bool) (flight free : ℕ) (bytes : List ℕ)
    → answers_call (outgoing_in at c to port flying shut) flight free (Got bytes) ≡ false
no_read_out Established c to port flying shut flight free bytes = no_read_in (ltb 0 flying) (due.Write c) due.Nothing flight free bytes refl refl
no_read_out CloseWait c to port flying shut flight free bytes = no_read_in (ltb 0 flying) (due.Write c) due.Nothing flight free bytes refl refl
no_read_out Udp c to port flying shut flight free bytes = no_read_in (ltb 0 flying) (due.SendTo c port to) due.Nothing flight free bytes refl refl
no_read_out FinWait c to port flying shut flight free bytes =
    no_read_in (ltb 0 flying) (due.Write c) _ flight free bytes refl (no_read_in shut due.Nothing (due.Shut c) flight free bytes refl refl)
no_read_out LastAck c to port flying shut flight free bytes =
    no_read_in (ltb 0 flying) (due.Write c) _ flight free bytes refl (no_read_in shut due.Nothing (due.Shut c) flight free bytes refl refl)
no_read_out SynSent c to port flying shut flight free bytes = refl
no_read_out at c to port flying shut flight free bytes = refl

no_read_old : (old : Option ℕ) (n : ℕ) (call : Due) (flight free : ℕ) (bytes : List ℕ) → answers_call call flight free (Got bytes) ≡ false
    → answers_call (elim old as (λ o. Due) [ None ↦ call | Some life ↦ due.Drop (connection n life) ]) flight free (Got bytes) ≡ false
no_read_old None n call flight free bytes h = h
no_read_old (Some life) n call flight free bytes h = refl

read_few : (b : Bool) (c : ConnId) (flight free : ℕ) (bytes : List ℕ) → answers_call (cond b (due.Read c) due.Nothing) flight free (Got bytes) ≡ true → length bytes ≤ free
read_few true c flight free bytes h =
    let most = leb-true (length bytes) (min free most_read) (and_parts (leb 1 (length bytes)) (leb (length bytes) (min free most_read)) h).1 in
    omega (arith, most)
read_few false c flight free bytes h = cc

read_in : (at : Status) (c : ConnId) (port free : ℕ) (ended : Bool) (flight : ℕ) (bytes : List ℕ) → is_established at ≡ true
    → answers_call (incoming_in at c port free ended) flight free (Got bytes) ≡ true → length bytes ≤ free
read_in Established c port free ended flight bytes on h = read_few (ltb 0 free) c flight free bytes h
read_in at c port free ended flight bytes on h = cc

read_old : (old : Option ℕ) (call : Due) (flight free : ℕ) (bytes : List ℕ) → (answers_call call flight free (Got bytes) ≡ true → length bytes ≤ free)
    → answers_call (elim old as (λ o. Due) [ None ↦ call | Some life ↦ due.Nothing ]) flight free (Got bytes) ≡ true → length bytes ≤ free
read_old None call flight free bytes few h = few h
read_old (Some life) call flight free bytes few h = cc

got_limit : (starts : Starts) (past : Past) (n : ℕ) (bytes : List ℕ) → is_established (status past n) ≡ true → fits starts past n (Got bytes) ≡ true
    → length bytes ≤ rx_free starts past n
got_limit starts past n bytes on h =
    let at = life past n in
    let fl = flight starts past n in
    let fr = rx_free starts past n in
    let to = kept_address past n in
    let port = kept_port past n in
    elim (or_cases (answers_call (outgoing starts past n) fl fr (Got bytes)) (answers_call (incoming starts past n) fl fr (Got bytes)) h) [
      | inl out ↦
          let call = outgoing_in at.status (connection n at.lives) to port fl at.shut in
          absurd (false≢true (sym (no_read_old at.old n call fl fr bytes (no_read_out at.status (connection n at.lives) to port fl at.shut fl fr bytes)) ∙ out))
      | inr in_ ↦
          let call = incoming_in at.status (connection n at.lives) port fr at.ended in
          read_old at.old call fl fr bytes (read_in at.status (connection n at.lives) port fr at.ended fl bytes on) in_
    ]

-- So a link event puts no more into the buffer than is free of it.
datagram_few : (b : Bool) (from : Addr) (body : List ℕ) (free : ℕ) → (b ≡ true → 8 + length body ≤ free) → length (cond b (header from (length body) ++ body) []) ≤ free
datagram_few true from body free few =
    let eight : length (header from (length body)) ≡ 8 = refl in
    omega (arith, eight, length-append (header from (length body)) body, few refl)
datagram_few false from body free few = omega arith

put_few : (at : Status) (free : ℕ) (what : LinkEntry) → ((bytes : List ℕ) → what ≡ Got bytes → is_established at ≡ true → length bytes ≤ free) → length (put_by at free what) ≤ free
put_few Established free (Got bytes) few = few bytes refl refl
put_few Udp free (Datagram from body) few = datagram_few (leb (8 + length body) free) from body free (λ h. leb-true (8 + length body) free h)
put_few at free what few = omega arith

cond_reads : (takes : Bool) (before more : List ℕ) (free : ℕ) → (takes ≡ true → length more ≤ free) → length (cond takes (before ++ more) before) ≤ length before + free
cond_reads true before more free few = omega (arith, length-append before more, few refl)
cond_reads false before more free few = omega arith

got_few : (starts : Starts) (past : Past) (m n : ℕ) (what : LinkEntry) → fits starts past m what ≡ true → is_open (status past n) ≡ true
    → length (got starts (Link m what ∷ past) n (lives past n)) ≤ length (got starts past n (lives past n)) + rx_free starts past n
got_few starts past m n what h on =
    let before = got starts past n (lives past n) in
    let free = free_behind starts past n (lives past n) (length before) in
    let same = free_open starts past n on in
    let few = cond_reads (is_of past m n (lives past n)) before (put_by (status past n) free what) free
    (λ takes. put_few (status past n) free what (λ bytes is established.
    let e = both_same m n (lives past n) (lives past n) takes in
    let may = subst (λ (w : LinkEntry). fits starts past n w ≡ true) is (subst (λ (k : ℕ). fits starts past k what ≡ true) e.0 h) in
    let limit = got_limit starts past n bytes established may in
    omega (arith, same, limit))) in
    omega (arith, same, few)

released_same : (starts : Starts) (past : Past) (n life : ℕ) (why : Cause) (before : ℕ) → (why ≡ because.Receive → ⊥) → released_by starts past n life why before ≡ before
released_same starts past n life because.Receive before h = absurd (h refl)
released_same starts past n life why before h = refl

released_more : (starts : Starts) (past : Past) (n life : ℕ) (why : Cause) (before : ℕ) → before ≤ released_by starts past n life why before
released_more starts past n life because.Receive before = taken_more (is_open (status past n) && eqb (lives past n) life) before _
released_more starts past n life why before = omega arith

open_reads : (starts : Starts) (past : Past) (entry : Entry) (n : ℕ) → Legal starts (entry ∷ past) → is_open (status past n) ≡ true → unread starts past n ≤ rx_size past n
    → length (got starts (entry ∷ past) n (lives past n)) - released starts (entry ∷ past) n (lives past n) ≤ rx_size past n
open_reads starts past (Link m what) n legal on fit =
    let g = length (got starts past n (lives past n)) in
    let r = released starts past n (lives past n) in
    let is : unread starts past n ≡ g - r = cond-true (is_open (status past n)) (g - r) 0 on in
    let same = released_same starts past n (lives past n) (cause past n (Link m what)) r (never_asks (eqb m n) what) in
    let few = got_few starts past m n what legal.0.1 on in
    let now = more_fly g (length (got starts (Link m what ∷ past) n (lives past n))) r (rx_size past n) (released_within starts past n (lives past n) legal.1)
    (omega (arith, is, fit)) (omega (arith, is, few)) in
    omega (arith, same, now)
open_reads starts past (Bus e a) n legal on fit =
    let g = length (got starts past n (lives past n)) in
    let r = released starts past n (lives past n) in
    let is : unread starts past n ≡ g - r = cond-true (is_open (status past n)) (g - r) 0 on in
    let more = released_more starts past n (lives past n) (cause past n (Bus e a)) r in
    omega (arith, is, fit, more)
open_reads starts past Rest n legal on fit =
    let g = length (got starts past n (lives past n)) in
    let r = released starts past n (lives past n) in
    let is : unread starts past n ≡ g - r = cond-true (is_open (status past n)) (g - r) 0 on in
    omega (arith, is, fit)

fresh_reads : (starts : Starts) (past : Past) (entry : Entry) (n size : ℕ) → is_fresh (status past n) ≡ true
    → length (got starts (entry ∷ past) n (lives past n)) - released starts (entry ∷ past) n (lives past n) ≤ size
fresh_reads starts past entry n size fresh =
    let none = ap length (got_fresh starts past entry n (lives past n) fresh ∙ fresh_got starts past n fresh) in
    omega (arith, none)

alive_reads : (starts : Starts) (past : Past) (entry : Entry) (n : ℕ) → Legal starts (entry ∷ past) → unread starts past n ≤ rx_size past n
    → (is_open (status past n) ≡ true) ⊎ (is_fresh (status past n) ≡ true)
    → length (got starts (entry ∷ past) n (lives past n)) - released starts (entry ∷ past) n (lives past n) ≤ rx_size past n
alive_reads starts past entry n legal fit (inl on) = open_reads starts past entry n legal on fit
alive_reads starts past entry n legal fit (inr fresh) = fresh_reads starts past entry n (rx_size past n) fresh

was_read : (starts : Starts) (past : Past) (entry : Entry) (n : ℕ) → Legal starts (entry ∷ past) → unread starts past n ≤ rx_size past n
    → ((lives (entry ∷ past) n ≡ lives past n) × ((is_open (status past n) ≡ true) ⊎ (is_fresh (status past n) ≡ true))) ⊎ (lives (entry ∷ past) n ≡ lives past n + 1)
    → length (got starts (entry ∷ past) n (lives (entry ∷ past) n)) - released starts (entry ∷ past) n (lives (entry ∷ past) n) ≤ rx_size past n
was_read starts past entry n legal fit (inl (same, was)) =
    subst (λ (l : ℕ). length (got starts (entry ∷ past) n l) - released starts (entry ∷ past) n l ≤ rx_size past n) (sym same) (alive_reads starts past entry n legal fit was)
was_read starts past entry n legal fit (inr begun) =
    subst (λ (l : ℕ). length (got starts (entry ∷ past) n l) - released starts (entry ∷ past) n l ≤ rx_size past n) (sym begun)
    (let none = ap length (begun_got starts past entry n) in omega (arith, none))

pub unread_within : (starts : Starts) (past : Past) (n : ℕ) → n < 8 → Legal starts past → unread starts past n ≤ rx_size past n
unread_within starts [] n below legal = omega arith
unread_within starts (entry ∷ past) n below legal =
    let after = length (got starts (entry ∷ past) n (lives (entry ∷ past) n)) - released starts (entry ∷ past) n (lives (entry ∷ past) n) in
    elim (cases_Bool (is_open (status (entry ∷ past) n))) [
      | inr shut ↦ let none : unread starts (entry ∷ past) n ≡ 0 = cond-false (is_open (status (entry ∷ past) n)) after 0 shut in omega (arith, none)
      | inl on ↦
          let is : unread starts (entry ∷ past) n ≡ after = cond-true (is_open (status (entry ∷ past) n)) after 0 on in
          let stay : rx_size (entry ∷ past) n ≡ rx_size past n = (sizes_after starts past entry n below legal (open_socket (status (entry ∷ past) n) on)).rx n in
          let now : after ≤ rx_size past n = was_read starts past entry n legal (unread_within starts past n below legal.1) (was_alive past entry n on).from in
          omega (arith, is, stay, now)
    ]
