-- How an entry changes the counts over all lives of a socket.
use Rattle.std.proofs.Common.{◌≡◌, ◌≤◌, ℕ, ◌+◌, ◌-◌, zero, suc, Bool, true, false, ◌&&◌, cond, eqb, [], ◌∷◌, ◌++◌, length, length-append, inl, inr, refl, sym, ap, ◌∙◌, subst, arith, ◌⊎◌}
use Rattle.std.proofs.lemmas.Bool.{cases_eq, cond-true, cond-false, cond_both, ne_eqb}
use Rattle.board_bus.specs.declared.event.BusEvent.{BusEvent}
use Rattle.board_bus.specs.declared.event.BusAnswer.{BusAnswer}
use Rattle.chip_sheet.specs.declared.event.Entry.{Entry}
use Rattle.chip_sheet.specs.declared.event.Entry.TheVariants.{Bus, Link}
use Rattle.chip_sheet.specs.declared.event.LinkEntry.{LinkEntry}
use Rattle.chip_sheet.specs.declared.socket.Status.{Status}
use Rattle.chip_sheet.specs.declared.socket.Status.TheVariants.{Closed, Established, Udp}
use Rattle.chip_sheet.specs.declared.socket.Cause.{Cause}
use Rattle.chip_sheet.specs.declared.socket.Cause.TheVariants as because
use Rattle.chip_sheet.specs.Past.{Past}
use Rattle.chip_sheet.specs.Life.{Life, Facts, life, life_after, lives_on, new_life, next, facts_of, begins, cause, status, lives, is_closed}
use Rattle.chip_sheet.specs.Streams.{Starts, sent, sent_by, sends, takes_send, is_open, range, range_length, tx_byte, taken, taken_by, is_of, put_by, free_behind, got}
use Rattle.chip_sheet.specs.Windows.{rx_free}
use Rattle.chip_sheet.specs.LinkCalls.{fits}
use Rattle.chip_sheet.specs.Connections.{over_lives, sent_in_all, taken_in_all, got_in_all}
use Rattle.chip_sheet.specs.Legal.{Legal}
use Rattle.chip_sheet.proofs.SentLaws.{sent_other, sent_same}
use Rattle.chip_sheet.proofs.LifeSteps.{got_other, unborn_sent}
use Rattle.chip_sheet.proofs.LivesLaws.{leaves_other}
use Rattle.chip_sheet.proofs.Within.{taken_within, taken_limit}
use Rattle.chip_sheet.proofs.FitLaws.{begun_sent, begun_got, free_open}
use Rattle.chip_steps.proofs.OverLives.{over_same, lives_cases, range_long}

-- A sum over lives, of which one grows by so much.
over_one : (f g : ℕ → ℕ) (one more : ℕ) → ((l : ℕ) → (one ≡ l → ⊥) → f l ≡ g l) → f one ≡ g one + more → (k : ℕ) → 1 ≤ one → one ≤ k → over_lives f k ≡ over_lives g k + more
over_one f g one more other grows zero some most = absurd (omega (arith, some, most))
over_one f g one more other grows (suc k) some most =
    elim (cases_eq one (suc k)) [
      | inl here ↦
          let rest = over_same f g k (λ l less. other l (λ (e : one ≡ l). omega (arith, e, here, less))) in
          let now : f (suc k) ≡ g (suc k) + more = subst (λ (x : ℕ). f x ≡ g x + more) here grows in
          omega (arith, rest, now)
      | inr away ↦
          let rest = over_one f g one more other grows k some (omega (arith, most, away)) in
          let now = other (suc k) away in
          omega (arith, rest, now)
    ]

over_present : (f g : ℕ → ℕ) (was more : ℕ) → ((l : ℕ) → (was ≡ l → ⊥) → f l ≡ g l) → f was ≡ g was + more → (was ≡ 0 → more ≡ 0) → over_lives f was ≡ over_lives g was + more
over_present f g zero more other grows none = let no = none refl in omega (arith, no)
over_present f g (suc k) more other grows none = over_one f g (suc k) more other grows (suc k) (omega arith) (omega arith)

-- The lives after an entry are as many, or one more, of which nothing is counted yet.
over_entry : (f g : ℕ → ℕ) (was now more : ℕ) → ((l : ℕ) → (was ≡ l → ⊥) → f l ≡ g l) → f was ≡ g was + more → (was ≡ 0 → more ≡ 0) → (now ≡ was) ⊎ (now ≡ was + 1) → f (was + 1) ≡ 0
    → over_lives f now ≡ over_lives g was + more
over_entry f g was now more other grows none (inl same) begun = subst (λ (k : ℕ). over_lives f k ≡ over_lives g was + more) (sym same) (over_present f g was more other grows none)
over_entry f g was now more other grows none (inr one) begun =
    let step : was + 1 ≡ suc was = omega arith in
    let new : f (suc was) ≡ 0 = subst (λ (k : ℕ). f k ≡ 0) step begun in
    let present = over_present f g was more other grows none in
    subst (λ (k : ℕ). over_lives f k ≡ over_lives g was + more) (sym (one ∙ step)) (omega (arith, new, present))

-- A socket of which no life has begun is closed.
closed_on : (at : Status) (why : Cause) (facts : Facts) → begins why at ≡ false → is_closed at ≡ true → is_closed (next at why facts) ≡ true
closed_on Closed because.OpenTcp facts old h = cc
closed_on Closed because.OpenUdp facts old h = cc
closed_on Closed why facts old h = refl
closed_on at why facts old h = cc

unborn_after : (at : Life) (why : Cause) → (at.lives ≡ 0 → is_closed at.status ≡ true) → (life_after at why).lives ≡ 0 → is_closed (life_after at why).status ≡ true
unborn_after at why before =
    let after = next at.status why (facts_of why at) in
    cond_both (begins why at.status) (new_life at after) (lives_on at why after) (λ (now : Life). now.lives ≡ 0 → is_closed now.status ≡ true)
    (λ new h. absurd (omega (arith, h)))
    (λ on h. closed_on at.status why (facts_of why at) on (before h))

unborn_closed : (past : Past) (n : ℕ) → lives past n ≡ 0 → is_closed (status past n) ≡ true
unborn_closed [] n h = refl
unborn_closed (entry ∷ past) n h = unborn_after (life past n) (cause past n entry) (unborn_closed past n) h

closed_sends : (at : Status) → is_closed at ≡ true → sends at ≡ true → ⊥
closed_sends Closed h s = cc
closed_sends at h s = cc

closed_open : (at : Status) → is_closed at ≡ true → is_open at ≡ false
closed_open Closed h = refl
closed_open at h = cc

closed_puts : (at : Status) (free : ℕ) (what : LinkEntry) → is_closed at ≡ true → put_by at free what ≡ []
closed_puts Closed free what h = refl
closed_puts at free what h = cc

-- What was sent.
sent_step : (starts : Starts) (past : Past) (entry : Entry) (n more : ℕ) → length (sent starts (entry ∷ past) n (lives past n)) ≡ length (sent starts past n (lives past n)) + more → (lives past n ≡ 0 → more ≡ 0)
    → sent_in_all starts (entry ∷ past) n ≡ sent_in_all starts past n + more
sent_step starts past entry n more grows none =
    over_entry (λ l. length (sent starts (entry ∷ past) n l)) (λ l. length (sent starts past n l)) (lives past n) (lives (entry ∷ past) n) more
    (λ l other. ap length (sent_other starts past entry n l other)) grows none (lives_cases past entry n) (ap length (begun_sent starts past entry n))

sent_is : (starts : Starts) (past : Past) (entry : Entry) (n : ℕ) → cause past n entry ≡ because.Send
    → sent starts (entry ∷ past) n (lives past n) ≡ cond (takes_send past n (lives past n)) (sent starts past n (lives past n) ++ range starts past n (length (sent starts past n (lives past n)))) (sent starts past n (lives past n))
sent_is starts past entry n why = ap (λ (w : Cause). sent_by starts past n (lives past n) w (sent starts past n (lives past n))) why

present : (past : Past) (n : ℕ) → takes_send past n (lives past n) ≡ sends (status past n)
present past n = grind arith

pub by_send : (starts : Starts) (past : Past) (entry : Entry) (n : ℕ) → cause past n entry ≡ because.Send → sends (status past n) ≡ true
    → sent_in_all starts (entry ∷ past) n ≡ sent_in_all starts past n + range_length starts past n (length (sent starts past n (lives past n)))
by_send starts past entry n why takes =
    let before = sent starts past n (lives past n) in
    let len = range_length starts past n (length before) in
    let long : length (range starts past n (length before)) ≡ len = range_long (tx_byte past n) _ len in
    let is = ap length (sent_is starts past entry n why ∙ cond-true _ _ _ (present past n ∙ takes)) ∙ length-append before (range starts past n (length before)) in
    sent_step starts past entry n len (is ∙ ap (λ (k : ℕ). length before + k) long) (λ none. absurd (closed_sends (status past n) (unborn_closed past n none) takes))

is_send : (why : Cause) → (why ≡ because.Send) ⊎ (why ≡ because.Send → ⊥)
is_send because.Send = inl refl
is_send why = inr (λ h. cc)

pub sent_stays : (starts : Starts) (past : Past) (entry : Entry) (n : ℕ) → (cause past n entry ≡ because.Send → sends (status past n) ≡ false) → sent_in_all starts (entry ∷ past) n ≡ sent_in_all starts past n
sent_stays starts past entry n not =
    let before = sent starts past n (lives past n) in
    let same : sent starts (entry ∷ past) n (lives past n) ≡ before =
    elim (is_send (cause past n entry)) [
      | inl why ↦ sent_is starts past entry n why ∙ cond-false _ _ _ (present past n ∙ not why)
      | inr other ↦ sent_same starts past entry n (lives past n) other
    ] in
    let len = ap length same in
    let more = sent_step starts past entry n 0 (omega (arith, len)) (λ none. refl) in
    omega (arith, more)

-- What was taken.
begun_taken : (starts : Starts) (past : Past) (entry : Entry) (n : ℕ) → Legal starts past → taken (entry ∷ past) n (lives past n + 1) ≡ 0
begun_taken starts past entry n legal =
    let same = (leaves_other starts past entry n (lives past n + 1) (λ e. omega (arith, e))).taken in
    let within = taken_within starts past n (lives past n + 1) legal in
    let none = ap length (unborn_sent starts past n (lives past n + 1) (omega arith)) in
    omega (arith, same, within, none)

taken_step : (starts : Starts) (past : Past) (entry : Entry) (n more : ℕ) → Legal starts past → taken (entry ∷ past) n (lives past n) ≡ taken past n (lives past n) + more → (lives past n ≡ 0 → more ≡ 0)
    → taken_in_all (entry ∷ past) n ≡ taken_in_all past n + more
taken_step starts past entry n more legal grows none =
    over_entry (taken (entry ∷ past) n) (taken past n) (lives past n) (lives (entry ∷ past) n) more
    (λ l other. (leaves_other starts past entry n l other).taken) grows none (lives_cases past entry n) (begun_taken starts past entry n legal)

own : (past : Past) (n : ℕ) → is_of past n n (lives past n) ≡ true
own past n = grind arith

pub taken_by_link : (starts : Starts) (past : Past) (n : ℕ) (what : LinkEntry) → Legal starts past → fits starts past n what ≡ true → taken_in_all (Link n what ∷ past) n ≡ taken_in_all past n + taken_by what
taken_by_link starts past n what legal fit =
    taken_step starts past (Link n what) n (taken_by what) legal (cond-true _ _ _ (own past n)) (λ none.
    let most = taken_limit starts past n what fit in
    let nothing = cond-false (is_open (status past n)) (length (sent starts past n (lives past n)) - taken past n (lives past n)) 0 (closed_open (status past n) (unborn_closed past n none)) in
    omega (arith, most, nothing))

other_of : (past : Past) (m n life : ℕ) → (m ≡ n → ⊥) → is_of past m n life ≡ false
other_of past m n life away = ap (λ (b : Bool). b && eqb (lives past n) life) (ne_eqb m n away)

pub taken_other_link : (starts : Starts) (past : Past) (m n : ℕ) (what : LinkEntry) → Legal starts past → (m ≡ n → ⊥) → taken_in_all (Link m what ∷ past) n ≡ taken_in_all past n
taken_other_link starts past m n what legal away =
    let same = cond-false (is_of past m n (lives past n)) (taken past n (lives past n) + taken_by what) (taken past n (lives past n)) (other_of past m n (lives past n) away) in
    let more = taken_step starts past (Link m what) n 0 legal (omega (arith, same)) (λ none. refl) in
    omega (arith, more)

pub taken_bus : (starts : Starts) (past : Past) (e : BusEvent) (a : BusAnswer) (n : ℕ) → Legal starts past → taken_in_all (Bus e a ∷ past) n ≡ taken_in_all past n
taken_bus starts past e a n legal = let more = taken_step starts past (Bus e a) n 0 legal (omega arith) (λ none. refl) in omega (arith, more)

-- What was received.
got_step : (starts : Starts) (past : Past) (entry : Entry) (n more : ℕ) → length (got starts (entry ∷ past) n (lives past n)) ≡ length (got starts past n (lives past n)) + more → (lives past n ≡ 0 → more ≡ 0)
    → got_in_all starts (entry ∷ past) n ≡ got_in_all starts past n + more
got_step starts past entry n more grows none =
    over_entry (λ l. length (got starts (entry ∷ past) n l)) (λ l. length (got starts past n l)) (lives past n) (lives (entry ∷ past) n) more
    (λ l other. ap length (got_other starts past entry n l other)) grows none (lives_cases past entry n) (ap length (begun_got starts past entry n))

put_same : (at : Status) (free free' : ℕ) (what : LinkEntry) → (is_open at ≡ true → free ≡ free') → put_by at free what ≡ put_by at free' what
put_same Udp free free' what same = ap (λ (k : ℕ). put_by Udp k what) (same refl)
put_same Established free free' what same = ap (λ (k : ℕ). put_by Established k what) (same refl)
put_same at free free' what same = refl

pub got_by_link : (starts : Starts) (past : Past) (n : ℕ) (what : LinkEntry) → got_in_all starts (Link n what ∷ past) n ≡ got_in_all starts past n + length (put_by (status past n) (rx_free starts past n) what)
got_by_link starts past n what =
    let before = got starts past n (lives past n) in
    let free = free_behind starts past n (lives past n) (length before) in
    let put = put_by (status past n) free what in
    let same : length put ≡ length (put_by (status past n) (rx_free starts past n) what) = ap length (put_same (status past n) free (rx_free starts past n) what (free_open starts past n)) in
    let grows : length (got starts (Link n what ∷ past) n (lives past n)) ≡ length before + length put = ap length (cond-true (is_of past n n (lives past n)) (before ++ put) before (own past n)) ∙ length-append before put in
    got_step starts past (Link n what) n _ (grows ∙ ap (λ (k : ℕ). length before + k) same)
    (λ none. ap length (closed_puts (status past n) (rx_free starts past n) what (unborn_closed past n none)))

pub got_other_link : (starts : Starts) (past : Past) (m n : ℕ) (what : LinkEntry) → (m ≡ n → ⊥) → got_in_all starts (Link m what ∷ past) n ≡ got_in_all starts past n
got_other_link starts past m n what away =
    let before = got starts past n (lives past n) in
    let same = ap length (cond-false (is_of past m n (lives past n)) (before ++ put_by (status past n) (free_behind starts past n (lives past n) (length before)) what) before (other_of past m n (lives past n) away)) in
    let more = got_step starts past (Link m what) n 0 (omega (arith, same)) (λ none. refl) in
    omega (arith, more)

pub got_bus : (starts : Starts) (past : Past) (e : BusEvent) (a : BusAnswer) (n : ℕ) → got_in_all starts (Bus e a ∷ past) n ≡ got_in_all starts past n
got_bus starts past e a n = let more = got_step starts past (Bus e a) n 0 (omega arith) (λ none. refl) in omega (arith, more)
