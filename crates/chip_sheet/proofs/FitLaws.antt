-- The bytes in flight fit the TX buffer; what a life that begins has sent and received.
use Rattle.std.proofs.Common.{◌≡◌, ◌≤◌, ◌<◌, ℕ, ◌+◌, ◌-◌, zero, suc, Bool, true, false, cond, eqb, List, [], ◌∷◌, ◌++◌, length, length-append, inl, inr, refl, sym, ap, ◌∙◌, subst, arith, ◌⊎◌}
use Rattle.std.proofs.lemmas.Bool.{cases_Bool, and_parts, cond-true, cond-false}
use Rattle.chip_sheet.specs.declared.socket.Status.{Status}
use Rattle.chip_sheet.specs.declared.socket.Status.TheVariants.{Closed}
use Rattle.chip_sheet.specs.declared.socket.Cause.{Cause}
use Rattle.chip_sheet.specs.declared.socket.Cause.TheVariants as because
use Rattle.chip_sheet.specs.declared.event.Entry.{Entry}
use Rattle.chip_sheet.specs.declared.event.Entry.TheVariants.{Bus, Link, Rest}
use Rattle.chip_sheet.specs.declared.event.LinkEntry.{LinkEntry}
use Rattle.chip_sheet.specs.declared.event.LinkEntry.TheVariants.{Linked}
use Rattle.chip_sheet.specs.Past.{Past}
use Rattle.chip_sheet.specs.Frames.{access}
use Rattle.chip_sheet.specs.Life.{life, cause, happening, status, lives, is_closed}
use Rattle.chip_sheet.specs.Sizes.{tx_size, rx_size}
use Rattle.chip_sheet.specs.Streams.{Starts, sent, sent_by, sends, takes_send, range_length, tx_byte, tx_bytes, tx_base, taken, taken_by, is_open, is_of, free_behind, got, released}
use Rattle.chip_sheet.specs.Windows.{flight, tx_free, rx_free}
use Rattle.chip_sheet.specs.Sending.{bytes_from}
use Rattle.chip_sheet.specs.Legal.{Legal}
use Rattle.chip_sheet.proofs.SentLaws.{sent_same, sent_other}
use Rattle.chip_sheet.proofs.SizeLaws.{sizes_after}
use Rattle.chip_sheet.proofs.Within.{send_within, taken_within}
use Rattle.chip_sheet.proofs.LifeSteps.{is_fresh, was_alive, unborn_sent, fresh_sent, unborn_got, got_other, sent_by_fresh}

pub open_socket : (at : Status) → is_open at ≡ true → is_closed at ≡ false
open_socket Closed h = cc
open_socket at h = refl

-- A SEND lengthens what was sent by the length of its range.
bytes_length : (f : ℕ → ℕ) (at count : ℕ) → length (bytes_from f at count) ≡ count
bytes_length f at zero = refl
bytes_length f at (suc count) = ap suc (bytes_length f (at + 1) count)

-- So many more bytes at most.
record Sends (before after free : ℕ) : Type 0 where
  at_most : after ≤ before + free

cond_sends : (takes : Bool) (before range : List ℕ) (free : ℕ) → (takes ≡ true → length range ≤ free) → Sends (length before) (length (cond takes (before ++ range) before)) free
cond_sends true before range free few = record { at_most = omega (arith, length-append before range, few refl) }
cond_sends false before range free few = record { at_most = omega arith }

sent_by_few : (starts : Starts) (past : Past) (n : ℕ) (why : Cause)
    → (why ≡ because.Send → sends (status past n) ≡ true → range_length starts past n (length (sent starts past n (lives past n))) ≤ tx_free starts past n)
    → Sends (length (sent starts past n (lives past n))) (length (sent_by starts past n (lives past n) why (sent starts past n (lives past n)))) (tx_free starts past n)
sent_by_few starts past n because.Send few =
    let so_far = length (sent starts past n (lives past n)) in
    let at = tx_base starts past n (lives past n) + so_far in
    cond_sends (takes_send past n (lives past n)) (sent starts past n (lives past n)) (tx_bytes past n at (range_length starts past n so_far)) (tx_free starts past n)
    (λ takes.
    let long : length (tx_bytes past n at (range_length starts past n so_far)) ≡ range_length starts past n so_far = bytes_length (tx_byte past n) at (range_length starts past n so_far) in
    let short = few refl (and_parts (sends (status past n)) (eqb (lives past n) (lives past n)) takes).0 in
    omega (arith, long, short))
sent_by_few starts past n why few = record { at_most = omega arith }

never_sends : (what : LinkEntry) → happening what ≡ because.Send → ⊥
never_sends Linked h = cc
never_sends what h = cc

link_sends : (b : Bool) (what : LinkEntry) → cond b (happening what) because.Nothing ≡ because.Send → ⊥
link_sends true what h = never_sends what h
link_sends false what h = cc

pub taken_more : (b : Bool) (before count : ℕ) → before ≤ cond b (before + count) before
taken_more true before count = omega arith
taken_more false before count = omega arith

-- So much was sent, and no less is taken; or so much more was sent, and the same is taken.
few_fly : (s s2 t t2 size : ℕ) → t ≤ s → s - t ≤ size → t ≤ t2 → s2 ≤ s → s2 - t2 ≤ size
few_fly s s2 t t2 size h fit more same = omega arith

pub more_fly : (s s2 t size : ℕ) → t ≤ s → s - t ≤ size → s2 ≤ s + (size - (s - t)) → s2 - t ≤ size
more_fly s s2 t size h fit more = omega arith

-- The bytes in flight of a life that was open before.
open_fly : (starts : Starts) (past : Past) (entry : Entry) (n : ℕ) → Legal starts (entry ∷ past) → is_open (status past n) ≡ true → flight starts past n ≤ tx_size past n
    → length (sent starts (entry ∷ past) n (lives past n)) - taken (entry ∷ past) n (lives past n) ≤ tx_size past n
open_fly starts past (Bus e a) n legal on fit =
    let s = length (sent starts past n (lives past n)) in
    let t = taken past n (lives past n) in
    let is : flight starts past n ≡ s - t = cond-true (is_open (status past n)) (s - t) 0 on in
    let few = sent_by_few starts past n (cause past n (Bus e a)) (λ why takes. send_within starts past n (access past e) why takes legal.0.0) in
    more_fly s _ t (tx_size past n) (taken_within starts past n (lives past n) legal.1) (omega (arith, is, fit)) (omega (arith, is, few.at_most))
open_fly starts past (Link m what) n legal on fit =
    let s = length (sent starts past n (lives past n)) in
    let t = taken past n (lives past n) in
    let is : flight starts past n ≡ s - t = cond-true (is_open (status past n)) (s - t) 0 on in
    let same = ap length (sent_same starts past (Link m what) n (lives past n) (link_sends (eqb m n) what)) in
    few_fly s _ t _ (tx_size past n) (taken_within starts past n (lives past n) legal.1) (omega (arith, is, fit))
    (taken_more (is_of past m n (lives past n)) t (taken_by what)) (omega (arith, same))
open_fly starts past Rest n legal on fit =
    let s = length (sent starts past n (lives past n)) in
    let t = taken past n (lives past n) in
    let is : flight starts past n ≡ s - t = cond-true (is_open (status past n)) (s - t) 0 on in
    omega (arith, is, fit)

-- Of a fresh life nothing is sent, so nothing is in flight.
fresh_fly : (starts : Starts) (past : Past) (entry : Entry) (n size : ℕ) → is_fresh (status past n) ≡ true
    → length (sent starts (entry ∷ past) n (lives past n)) - taken (entry ∷ past) n (lives past n) ≤ size
fresh_fly starts past entry n size fresh =
    let none = ap length (sent_by_fresh starts past n (lives past n) (cause past n entry) (sent starts past n (lives past n)) fresh ∙ fresh_sent starts past n fresh) in
    omega (arith, none)

alive_fly : (starts : Starts) (past : Past) (entry : Entry) (n : ℕ) → Legal starts (entry ∷ past) → flight starts past n ≤ tx_size past n
    → (is_open (status past n) ≡ true) ⊎ (is_fresh (status past n) ≡ true)
    → length (sent starts (entry ∷ past) n (lives past n)) - taken (entry ∷ past) n (lives past n) ≤ tx_size past n
alive_fly starts past entry n legal fit (inl on) = open_fly starts past entry n legal on fit
alive_fly starts past entry n legal fit (inr fresh) = fresh_fly starts past entry n (tx_size past n) fresh

-- In a life that begins nothing is sent yet.
pub begun_sent : (starts : Starts) (past : Past) (entry : Entry) (n : ℕ) → sent starts (entry ∷ past) n (lives past n + 1) ≡ []
begun_sent starts past entry n = sent_other starts past entry n (lives past n + 1) (λ e. omega (arith, e)) ∙ unborn_sent starts past n (lives past n + 1) (omega arith)

was_fly : (starts : Starts) (past : Past) (entry : Entry) (n : ℕ) → Legal starts (entry ∷ past) → flight starts past n ≤ tx_size past n
    → ((lives (entry ∷ past) n ≡ lives past n) × ((is_open (status past n) ≡ true) ⊎ (is_fresh (status past n) ≡ true))) ⊎ (lives (entry ∷ past) n ≡ lives past n + 1)
    → length (sent starts (entry ∷ past) n (lives (entry ∷ past) n)) - taken (entry ∷ past) n (lives (entry ∷ past) n) ≤ tx_size past n
was_fly starts past entry n legal fit (inl (same, was)) =
    subst (λ (l : ℕ). length (sent starts (entry ∷ past) n l) - taken (entry ∷ past) n l ≤ tx_size past n) (sym same) (alive_fly starts past entry n legal fit was)
was_fly starts past entry n legal fit (inr begun) =
    subst (λ (l : ℕ). length (sent starts (entry ∷ past) n l) - taken (entry ∷ past) n l ≤ tx_size past n) (sym begun)
    (let none = ap length (begun_sent starts past entry n) in omega (arith, none))

pub flight_within : (starts : Starts) (past : Past) (n : ℕ) → n < 8 → Legal starts past → flight starts past n ≤ tx_size past n
flight_within starts [] n below legal = omega arith
flight_within starts (entry ∷ past) n below legal =
    let after = length (sent starts (entry ∷ past) n (lives (entry ∷ past) n)) - taken (entry ∷ past) n (lives (entry ∷ past) n) in
    elim (cases_Bool (is_open (status (entry ∷ past) n))) [
      | inr shut ↦ let none : flight starts (entry ∷ past) n ≡ 0 = cond-false (is_open (status (entry ∷ past) n)) after 0 shut in omega (arith, none)
      | inl on ↦
          let is : flight starts (entry ∷ past) n ≡ after = cond-true (is_open (status (entry ∷ past) n)) after 0 on in
          let stay : tx_size (entry ∷ past) n ≡ tx_size past n = (sizes_after starts past entry n below legal (open_socket (status (entry ∷ past) n) on)).tx n in
          let now : after ≤ tx_size past n = was_fly starts past entry n legal (flight_within starts past n below legal.1) (was_alive past entry n on).from in
          omega (arith, is, stay, now)
    ]

-- What is free behind the received bytes of an open life is what is free of the buffer.
pub free_open : (starts : Starts) (past : Past) (n : ℕ) → is_open (status past n) ≡ true
    → free_behind starts past n (lives past n) (length (got starts past n (lives past n))) ≡ rx_free starts past n
free_open starts past n on =
    ap (λ (x : ℕ). rx_size past n - x) (sym (cond-true (is_open (status past n)) (length (got starts past n (lives past n)) - released starts past n (lives past n)) 0 on))

-- In a life that begins nothing is received yet.
pub begun_got : (starts : Starts) (past : Past) (entry : Entry) (n : ℕ) → got starts (entry ∷ past) n (lives past n + 1) ≡ []
begun_got starts past entry n = got_other starts past entry n (lives past n + 1) (λ e. omega (arith, e)) ∙ unborn_got starts past n (lives past n + 1) (omega arith)
