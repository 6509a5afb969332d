-- Counts over all lives of a socket grow by no more than one entry can add.
use Rattle.std.proofs.Common.{◌≡◌, ◌≤◌, ◌<◌, ◌↔◌, ℕ, ◌+◌, ◌*◌, min, zero, suc, Bool, true, false, ◌||◌, cond, eqb, leb, List, [], ◌∷◌, ◌++◌, map, length, length-append, inl, inr, refl, sym, ap, ◌∙◌, subst, arith, ◌⊎◌}
use Rattle.std.proofs.lemmas.Bool.{cases_Bool, and_parts, or_cases, leb-true, eqb-true, eqb-false, eq-eqb, cond-true, cond-false, cond_both}
use Rattle.chip_sheet.specs.declared.event.Addr.{Addr}
use Rattle.chip_sheet.specs.declared.event.Entry.{Entry}
use Rattle.chip_sheet.specs.declared.event.Entry.TheVariants.{Bus, Link, Rest}
use Rattle.chip_sheet.specs.declared.event.LinkEntry.{LinkEntry}
use Rattle.chip_sheet.specs.declared.event.LinkEntry.TheVariants.{Linked, Got, Datagram}
use Rattle.chip_sheet.specs.declared.socket.Status.{Status}
use Rattle.chip_sheet.specs.declared.socket.Status.TheVariants.{Established, Udp}
use Rattle.chip_sheet.specs.declared.socket.Cause.{Cause}
use Rattle.chip_sheet.specs.declared.socket.Cause.TheVariants as because
use Rattle.chip_sheet.specs.declared.socket.Due.{Due}
use Rattle.chip_sheet.specs.declared.socket.Due.TheVariants as due
use Rattle.chip_sheet.specs.declared.socket.Interrupt.TheVariants.{SendOk}
use Rattle.chip_sheet.specs.Past.{Past}
use Rattle.chip_sheet.specs.Frames.{access}
use Rattle.chip_sheet.specs.Blocks.{sockets}
use Rattle.chip_sheet.specs.Positions.{has_between}
use Rattle.chip_sheet.specs.Sending.{bytes_from}
use Rattle.chip_sheet.specs.Life.{Life, life, lives_on, new_life, next, facts_of, begins, cause, happening, status, lives}
use Rattle.chip_sheet.specs.Sizes.{is_size, all_sizes, total, are_valid, size, tx_sizes, kilobytes}
use Rattle.chip_sheet.specs.Streams.{Starts, sent, sent_by, ends, sends, takes_send, range, range_length, tx_byte, taken, bytes_of, is_of, header, put_by, free_behind, got}
use Rattle.chip_sheet.specs.Windows.{flight, rx_free, most_read}
use Rattle.chip_sheet.specs.Interrupts.{raised_by, raised_by_life, raised_by_bytes}
use Rattle.chip_sheet.specs.LinkCalls.{outgoing, incoming, answers_call, fits}
use Rattle.chip_sheet.specs.Connections.{over_lives, sent_in_all, taken_in_all, got_in_all}
use Rattle.chip_sheet.specs.Legal.{Legal}
use Rattle.chip_sheet.proofs.SentLaws.{sent_other}
use Rattle.chip_sheet.proofs.LifeSteps.{got_other}
use Rattle.chip_sheet.proofs.Within.{send_within, taken_within}
use Rattle.chip_sheet.proofs.FitLaws.{begun_sent, begun_got}
use Rattle.chip_sheet.proofs.MadeLaws.{both_true}
use Rattle.chip_sheet.proofs.SizeLaws.{is_listed, is_socket}

-- A buffer has at most 16 KB.
each_size : (f : ℕ → ℕ) (ns : List ℕ) (n : ℕ) → is_listed n ns ≡ true → all_sizes (map f ns) ≡ true → is_size (f n) ≡ true
each_size f [] n h all = cc
each_size f (m ∷ more) n h all =
    let parts = and_parts (is_size (f m)) (all_sizes (map f more)) all in
    elim (or_cases (eqb n m) (is_listed n more) h) [
      | inl here ↦ ap (λ (k : ℕ). is_size (f k)) (eqb-true n m here) ∙ parts.0
      | inr there ↦ each_size f more n there parts.1
    ]

size_few : (a b c d e f : Bool) (k : ℕ) → (a || b || c || d || e || f) ≡ true → (a ≡ true → k ≡ 0) → (b ≡ true → k ≡ 1) → (c ≡ true → k ≡ 2) → (d ≡ true → k ≡ 4) → (e ≡ true → k ≡ 8) → (f ≡ true → k ≡ 16) → k ≤ 16
size_few true b c d e f k h p q r s t u = let x = p refl in omega (arith, x)
size_few false true c d e f k h p q r s t u = let x = q refl in omega (arith, x)
size_few false false true d e f k h p q r s t u = let x = r refl in omega (arith, x)
size_few false false false true e f k h p q r s t u = let x = s refl in omega (arith, x)
size_few false false false false true f k h p q r s t u = let x = t refl in omega (arith, x)
size_few false false false false false true k h p q r s t u = let x = u refl in omega (arith, x)
size_few false false false false false false k h p q r s t u = cc

is_size_few : (k : ℕ) → is_size k ≡ true → k ≤ 16
is_size_few k h =
    size_few (eqb k 0) (eqb k 1) (eqb k 2) (eqb k 4) (eqb k 8) (eqb k 16) k h (eqb-true k 0) (eqb-true k 1) (eqb-true k 2) (eqb-true k 4) (eqb-true k 8) (eqb-true k 16)

pub size_within : (past : Past) (sizes n : ℕ) → n < 8 → size past sizes n ≤ 16384
size_within past sizes n below =
    let ks = map (kilobytes past sizes) sockets in
    let k = kilobytes past sizes n in
    elim (cases_Bool (are_valid ks)) [
      | inr bad ↦ let none = cond-false (are_valid ks) (k * 1024) 0 bad in omega (arith, none)
      | inl good ↦
          let is = cond-true (are_valid ks) (k * 1024) 0 good in
          let few = is_size_few k (each_size (kilobytes past sizes) sockets n (is_socket n below) (and_parts (all_sizes ks) (leb (total ks) 16) good).0) in
          omega (arith, is, few)
    ]

-- A sum over lives, of which one grows.
pub over_same : (f g : ℕ → ℕ) (k : ℕ) → ((l : ℕ) → l ≤ k → f l ≡ g l) → over_lives f k ≡ over_lives g k
over_same f g zero h = refl
over_same f g (suc k) h =
    let one = h (suc k) (omega arith) in
    let rest = over_same f g k (λ l less. h l (omega (arith, less))) in
    omega (arith, one, rest)

over_step : (f g : ℕ → ℕ) (one more : ℕ) → ((l : ℕ) → (one ≡ l → ⊥) → f l ≡ g l) → f one ≤ g one + more → (k : ℕ) → over_lives f k ≤ over_lives g k + more
over_step f g one more other grows zero = omega arith
over_step f g one more other grows (suc k) =
    elim (cases_Bool (eqb one (suc k))) [
      | inl here ↦
          let is : one ≡ suc k = eqb-true one (suc k) here in
          let rest = over_same f g k (λ l less. other l (λ (e : one ≡ l). omega (arith, e, is, less))) in
          let now : f (suc k) ≤ g (suc k) + more = subst (λ (x : ℕ). f x ≤ g x + more) is grows in
          omega (arith, rest, now)
      | inr away ↦
          let rest = over_step f g one more other grows k in
          let now = other (suc k) (eqb-false one (suc k) away) in
          omega (arith, rest, now)
    ]

over_less : (f g : ℕ → ℕ) (k : ℕ) → ((l : ℕ) → f l ≤ g l) → over_lives f k ≤ over_lives g k
over_less f g zero h = omega arith
over_less f g (suc k) h = let one = h (suc k) in let rest = over_less f g k h in omega (arith, one, rest)

-- The number of lives after an entry: the same, or one more, whose lists are empty.
pub lives_cases : (past : Past) (entry : Entry) (n : ℕ) → (lives (entry ∷ past) n ≡ lives past n) ⊎ (lives (entry ∷ past) n ≡ lives past n + 1)
lives_cases past entry n =
    let at = life past n in
    let why = cause past n entry in
    let after = next at.status why (facts_of why at) in
    cond_both (begins why at.status) (new_life at after) (lives_on at why after) (λ (now : Life). (now.lives ≡ at.lives) ⊎ (now.lives ≡ at.lives + 1)) (λ new. inr refl) (λ on. inl refl)

over_now : (f g : ℕ → ℕ) (now was more : ℕ) → (now ≡ was) ⊎ (now ≡ was + 1) → f (suc was) ≡ 0 → over_lives f was ≤ over_lives g was + more → over_lives f now ≤ over_lives g was + more
over_now f g now was more (inl same) none h = subst (λ (k : ℕ). over_lives f k ≤ over_lives g was + more) (sym same) h
over_now f g now was more (inr begun) none h =
    subst (λ (k : ℕ). over_lives f k ≤ over_lives g was + more) (sym (begun ∙ one_more was)) (omega (arith, none, h))
  where
    one_more : (k : ℕ) → k + 1 ≡ suc k
    one_more k = omega arith

-- What was sent.
pub range_long : (f : ℕ → ℕ) (at count : ℕ) → length (bytes_from f at count) ≡ count
range_long f at zero = refl
range_long f at (suc count) = ap suc (range_long f (at + 1) count)

sent_grows : (starts : Starts) (past : Past) (n : ℕ) (why : Cause) (before : List ℕ) → (why ≡ because.Send → sends (status past n) ≡ true → range_length starts past n (length before) ≤ 16384)
    → length (sent_by starts past n (lives past n) why before) ≤ length before + 16384
sent_grows starts past n because.Send before few = by (takes_send past n (lives past n)) (λ takes. few refl (and_parts (sends (status past n)) (eqb (lives past n) (lives past n)) takes).0)
  where
    by : (b : Bool) → (b ≡ true → range_length starts past n (length before) ≤ 16384) → length (cond b (before ++ range starts past n (length before)) before) ≤ length before + 16384
    by true few =
        let long : length (range starts past n (length before)) ≡ range_length starts past n (length before) = range_long (tx_byte past n) _ (range_length starts past n (length before)) in
        omega (arith, length-append before (range starts past n (length before)), long, few refl)
    by false few = omega arith
sent_grows starts past n why before few = omega arith

pub no_send : (b : Bool) (what : LinkEntry) → cond b (happening what) because.Nothing ≡ because.Send → ⊥
no_send true Linked h = cc
no_send true what h = cc
no_send false what h = cc

sent_entry : (starts : Starts) (past : Past) (entry : Entry) (n : ℕ) → n < 8 → Legal starts (entry ∷ past) → length (sent starts (entry ∷ past) n (lives past n)) ≤ length (sent starts past n (lives past n)) + 16384
sent_entry starts past (Bus e a) n below legal =
    sent_grows starts past n (cause past n (Bus e a)) (sent starts past n (lives past n)) (λ why takes.
    let fits = send_within starts past n (access past e) why takes legal.0.0 in
    let most = size_within past tx_sizes n below in
    omega (arith, fits, most))
sent_entry starts past (Link m what) n below legal = sent_grows starts past n (cause past n (Link m what)) (sent starts past n (lives past n)) (λ why takes. absurd (no_send (eqb m n) what why))
sent_entry starts past Rest n below legal = omega arith

pub sent_few : (starts : Starts) (past : Past) (n : ℕ) → n < 8 → Legal starts past → sent_in_all starts past n ≤ 16384 * length past
sent_few starts [] n below legal = omega arith
sent_few starts (entry ∷ past) n below legal =
    let f = λ (l : ℕ). length (sent starts (entry ∷ past) n l) in
    let g = λ (l : ℕ). length (sent starts past n l) in
    let one : f (suc (lives past n)) ≡ 0 = ap (λ (l : ℕ). length (sent starts (entry ∷ past) n l)) (one_more (lives past n)) ∙ ap length (begun_sent starts past entry n) in
    let step = over_now f g (lives (entry ∷ past) n) (lives past n) 16384 (lives_cases past entry n) one
    (over_step f g (lives past n) 16384 (λ l other. ap length (sent_other starts past entry n l other)) (sent_entry starts past entry n below legal) (lives past n)) in
    let before = sent_few starts past n below legal.1 in
    omega (arith, step, before)
  where
    one_more : (k : ℕ) → suc k ≡ k + 1
    one_more k = omega arith

-- What was received.
call_few : (call : Due) (flight free : ℕ) (what : LinkEntry) → answers_call call flight free what ≡ true → length (bytes_of what) ≤ 1472
call_few (due.Read c) flight free (Got bytes) h =
    let most = leb-true (length bytes) (min free most_read) (and_parts (leb 1 (length bytes)) (leb (length bytes) (min free most_read)) h).1 in omega (arith, most)
call_few (due.ReadAway c) flight free (Got bytes) h = let most = leb-true (length bytes) most_read (and_parts (leb 1 (length bytes)) (leb (length bytes) most_read) h).1 in omega (arith, most)
call_few (due.RecvFrom c port) flight free (Datagram from body) h = let most = leb-true (length body) most_read h in omega (arith, most)
call_few call flight free (Got bytes) h = cc
call_few call flight free (Datagram from body) h = cc
call_few call flight free what h = omega arith

fits_few : (starts : Starts) (past : Past) (n : ℕ) (what : LinkEntry) → fits starts past n what ≡ true → length (bytes_of what) ≤ 1472
fits_few starts past n what h =
    let fl = flight starts past n in
    let fr = rx_free starts past n in
    elim (or_cases (answers_call (outgoing starts past n) fl fr what) (answers_call (incoming starts past n) fl fr what) h) [
      | inl out ↦ call_few (outgoing starts past n) fl fr what out
      | inr in_ ↦ call_few (incoming starts past n) fl fr what in_
    ]

datagram_most : (b : Bool) (from : Addr) (body : List ℕ) → length (cond b (header from (length body) ++ body) []) ≤ 8 + length body
datagram_most true from body = let eight : length (header from (length body)) ≡ 8 = refl in omega (arith, eight, length-append (header from (length body)) body)
datagram_most false from body = omega arith

put_most : (at : Status) (free : ℕ) (what : LinkEntry) → length (put_by at free what) ≤ 8 + length (bytes_of what)
put_most Established free (Got bytes) = omega arith
put_most Udp free (Datagram from body) = datagram_most (leb (8 + length body) free) from body
put_most at free what = omega arith

got_most : (b : Bool) (before more : List ℕ) → (b ≡ true → length more ≤ 1480) → length (cond b (before ++ more) before) ≤ length before + 1480
got_most true before more few = omega (arith, length-append before more, few refl)
got_most false before more few = omega arith

got_entry : (starts : Starts) (past : Past) (entry : Entry) (n : ℕ) → Legal starts (entry ∷ past) → length (got starts (entry ∷ past) n (lives past n)) ≤ length (got starts past n (lives past n)) + 1480
got_entry starts past (Link m what) n legal =
    let before = got starts past n (lives past n) in
    got_most (is_of past m n (lives past n)) before (put_by (status past n) (free_behind starts past n (lives past n) (length before)) what)
    (λ of_it.
    let most = put_most (status past n) (free_behind starts past n (lives past n) (length before)) what in
    let few = fits_few starts past m what legal.0.1 in
    omega (arith, most, few))
got_entry starts past (Bus e a) n legal = omega arith
got_entry starts past Rest n legal = omega arith

pub got_few : (starts : Starts) (past : Past) (n : ℕ) → Legal starts past → got_in_all starts past n ≤ 1480 * length past
got_few starts [] n legal = omega arith
got_few starts (entry ∷ past) n legal =
    let f = λ (l : ℕ). length (got starts (entry ∷ past) n l) in
    let g = λ (l : ℕ). length (got starts past n l) in
    let one : f (suc (lives past n)) ≡ 0 = ap (λ (l : ℕ). length (got starts (entry ∷ past) n l)) (one_more (lives past n)) ∙ ap length (begun_got starts past entry n) in
    let step = over_now f g (lives (entry ∷ past) n) (lives past n) 1480 (lives_cases past entry n) one
    (over_step f g (lives past n) 1480 (λ l other. ap length (got_other starts past entry n l other)) (got_entry starts past entry n legal) (lives past n)) in
    let before = got_few starts past n legal.1 in
    omega (arith, step, before)
  where
    one_more : (k : ℕ) → suc k ≡ k + 1
    one_more k = omega arith

pub taken_few : (starts : Starts) (past : Past) (n : ℕ) → Legal starts past → taken_in_all past n ≤ sent_in_all starts past n
taken_few starts past n legal = over_less (taken past n) (λ l. length (sent starts past n l)) (lives past n) (λ l. taken_within starts past n l legal)

-- SENDOK.
never_by_life : (why : Cause) (at : Status) → raised_by_life why SendOk at ≡ false
never_by_life because.Failed at = refl
never_by_life why at = refl

abbrev SendsNone : Starts → Past → ℕ → Cause → Type 0
SendsNone starts past n why = (why ≡ because.Send) × (sends (status past n) ≡ true) × (range_length starts past n (length (sent starts past n (lives past n))) ≡ 0)

abbrev PassesEnd : Starts → Past → ℕ → Cause → Type 0
PassesEnd starts past n why = (k : ℕ) × (why ≡ because.Took k) × (has_between (taken past n (lives past n)) (taken past n (lives past n) + k) (ends starts past n (lives past n)) ≡ true)

by_bytes : (starts : Starts) (past : Past) (n : ℕ) (entry : Entry) (why : Cause) → raised_by_bytes starts past n entry why SendOk (status past n) ≡ true → SendsNone starts past n why ⊎ PassesEnd starts past n why
by_bytes starts past n entry because.Send h =
    let parts = and_parts (sends (status past n)) (eqb (range_length starts past n (length (sent starts past n (lives past n)))) 0) h in
    inl (refl, parts.0, eqb-true (range_length starts past n (length (sent starts past n (lives past n)))) 0 parts.1)
by_bytes starts past n entry (because.Took k) h = inr (k, refl, h)
by_bytes starts past n entry why h = cc

or_second : (a b : Bool) → a ≡ false → (a || b) ≡ b
or_second a b h = ap (λ (x : Bool). x || b) h

pub sendok : (starts : Starts) (past : Past) (n : ℕ) (entry : Entry) → (raised_by starts past n SendOk entry ≡ true) ↔ (SendsNone starts past n (cause past n entry) ⊎ PassesEnd starts past n (cause past n entry))
sendok starts past n entry =
    let why = cause past n entry in
    let same = or_second (raised_by_life why SendOk (status past n)) (raised_by_bytes starts past n entry why SendOk (status past n)) (never_by_life why (status past n)) in
    (λ h. by_bytes starts past n entry why (sym same ∙ h), λ h. same ∙ back starts past n entry why h)
  where
    back : (starts : Starts) (past : Past) (n : ℕ) (entry : Entry) (why : Cause) → SendsNone starts past n why ⊎ PassesEnd starts past n why → raised_by_bytes starts past n entry why SendOk (status past n) ≡ true
    back starts past n entry why (inl (is, takes, none)) =
        ap (λ (w : Cause). raised_by_bytes starts past n entry w SendOk (status past n)) is ∙ both_true takes (eq-eqb (range_length starts past n (length (sent starts past n (lives past n)))) 0 none)
    back starts past n entry why (inr (k, is, passes)) = ap (λ (w : Cause). raised_by_bytes starts past n entry w SendOk (status past n)) is ∙ passes
