-- How a life comes to be open, and that nothing was sent or received in it before.
use Rattle.std.proofs.Common.{◌≡◌, ◌≤◌, ◌<◌, ℕ, ◌+◌, Bool, true, false, cond, eqb, List, [], ◌∷◌, ◌++◌, length, append-nil, inl, inr, refl, ap, ◌∙◌, arith, ◌⊎◌}
use Rattle.std.proofs.lemmas.Bool.{cond-false, and_left, and_right, ne_eqb, cond_both}
use Rattle.chip_sheet.specs.declared.socket.Status.{Status}
use Rattle.chip_sheet.specs.declared.socket.Status.TheVariants.{Closed, Init, Listen, SynSent, Established, FinWait, CloseWait, LastAck, Udp}
use Rattle.chip_sheet.specs.declared.socket.Cause.{Cause}
use Rattle.chip_sheet.specs.declared.socket.Cause.TheVariants as because
use Rattle.chip_sheet.specs.declared.event.Entry.{Entry}
use Rattle.chip_sheet.specs.declared.event.Entry.TheVariants.{Bus, Link, Rest}
use Rattle.chip_sheet.specs.declared.event.LinkEntry.{LinkEntry}
use Rattle.chip_sheet.specs.Past.{Past}
use Rattle.chip_sheet.specs.Life.{Life, Facts, facts_of, life, life_after, lives_on, new_life, next, begins, cause, status, lives}
use Rattle.chip_sheet.specs.Streams.{Starts, sent, sent_by, sends, takes_send, is_open, is_of, put_by, free_behind, got}
use Rattle.chip_sheet.proofs.SentLaws.{sent_other}

-- A life in which the link was not connected yet.
abbrev pub is_fresh : Status → Bool
is_fresh Init = true
is_fresh Listen = true
is_fresh SynSent = true
is_fresh at = false

-- A new life begins, or the life goes on, in the next status.
pub life_cases : (P : Life → Type 0) (at : Life) (why : Cause) → P (new_life at (next at.status why (facts_of why at))) → P (lives_on at why (next at.status why (facts_of why at))) → P (life_after at why)
life_cases P at why new on =
    let after = next at.status why (facts_of why at) in
    cond_both (begins why at.status) (new_life at after) (lives_on at why after) P (λ h. new) (λ h. on)

-- A life that goes on is open only where it was, or where it was fresh; and fresh only where it was.
pub open_from : (at : Status) (why : Cause) (facts : Facts) → begins why at ≡ false → is_open (next at why facts) ≡ true → (is_open at ≡ true) ⊎ (is_fresh at ≡ true)
open_from Init why facts old h = inr refl
open_from Listen why facts old h = inr refl
open_from SynSent why facts old h = inr refl
open_from Established why facts old h = inl refl
open_from FinWait why facts old h = inl refl
open_from CloseWait why facts old h = inl refl
open_from LastAck why facts old h = inl refl
open_from Udp why facts old h = inl refl
open_from Closed because.OpenTcp facts old h = cc
open_from Closed because.OpenUdp facts old h = cc
open_from Closed because.Reset facts old h = cc
open_from Closed why facts old h = cc

closes_not_fresh : (b : Bool) → is_fresh (cond b Closed FinWait) ≡ true → ⊥
closes_not_fresh true h = cc
closes_not_fresh false h = cc

pub fresh_from : (at : Status) (why : Cause) (facts : Facts) → begins why at ≡ false → is_fresh (next at why facts) ≡ true → is_fresh at ≡ true
fresh_from Init why facts old h = refl
fresh_from Listen why facts old h = refl
fresh_from SynSent why facts old h = refl
fresh_from Closed because.OpenTcp facts old h = cc
fresh_from Closed because.OpenUdp facts old h = cc
fresh_from Closed why facts old h = cc
fresh_from Established because.Reset facts old h = cc
fresh_from Established why facts old h = cc
fresh_from FinWait because.Ended facts old h = absurd (closes_not_fresh facts.both h)
fresh_from FinWait because.Shut facts old h = absurd (closes_not_fresh facts.both h)
fresh_from FinWait why facts old h = cc
fresh_from CloseWait because.Reset facts old h = cc
fresh_from CloseWait why facts old h = cc
fresh_from LastAck because.Reset facts old h = cc
fresh_from LastAck why facts old h = cc
fresh_from Udp because.Reset facts old h = cc
fresh_from Udp why facts old h = cc

-- What an open socket was before the entry that left it open: open or fresh in the same life, or its life begins.
pub record WasAlive (past : Past) (entry : Entry) (n : ℕ) : Type 0 where
  pub from : ((lives (entry ∷ past) n ≡ lives past n) × ((is_open (status past n) ≡ true) ⊎ (is_fresh (status past n) ≡ true))) ⊎ (lives (entry ∷ past) n ≡ lives past n + 1)

alive_from : (at : Life) (why : Cause) → is_open (life_after at why).status ≡ true
    → (((life_after at why).lives ≡ at.lives) × ((is_open at.status ≡ true) ⊎ (is_fresh at.status ≡ true))) ⊎ ((life_after at why).lives ≡ at.lives + 1)
alive_from at why =
    let after = next at.status why (facts_of why at) in
    cond_both (begins why at.status) (new_life at after) (lives_on at why after)
    (λ (now : Life). is_open now.status ≡ true → ((now.lives ≡ at.lives) × ((is_open at.status ≡ true) ⊎ (is_fresh at.status ≡ true))) ⊎ (now.lives ≡ at.lives + 1))
    (λ new h. inr refl) (λ old h. inl (refl, open_from at.status why (facts_of why at) old h))

pub was_alive : (past : Past) (entry : Entry) (n : ℕ) → is_open (status (entry ∷ past) n) ≡ true → WasAlive past entry n
was_alive past entry n h = record { from = alive_from (life past n) (cause past n entry) h }

-- What a fresh socket was: fresh in the same life, or its life begins.
pub record WasYoung (past : Past) (entry : Entry) (n : ℕ) : Type 0 where
  pub from : ((lives (entry ∷ past) n ≡ lives past n) × (is_fresh (status past n) ≡ true)) ⊎ (lives (entry ∷ past) n ≡ lives past n + 1)

young_from : (at : Life) (why : Cause) → is_fresh (life_after at why).status ≡ true
    → (((life_after at why).lives ≡ at.lives) × (is_fresh at.status ≡ true)) ⊎ ((life_after at why).lives ≡ at.lives + 1)
young_from at why =
    let after = next at.status why (facts_of why at) in
    cond_both (begins why at.status) (new_life at after) (lives_on at why after)
    (λ (now : Life). is_fresh now.status ≡ true → ((now.lives ≡ at.lives) × (is_fresh at.status ≡ true)) ⊎ (now.lives ≡ at.lives + 1))
    (λ new h. inr refl) (λ old h. inl (refl, fresh_from at.status why (facts_of why at) old h))

pub was_young : (past : Past) (entry : Entry) (n : ℕ) → is_fresh (status (entry ∷ past) n) ≡ true → WasYoung past entry n
was_young past entry n h = record { from = young_from (life past n) (cause past n entry) h }

pub lives_grow : (at : Life) (why : Cause) → at.lives ≤ (life_after at why).lives
lives_grow at why = life_cases (λ (after : Life). at.lives ≤ after.lives) at why (omega arith) (omega arith)

-- Nothing was sent in a life that has not begun.
pub unborn_sent : (starts : Starts) (past : Past) (n life : ℕ) → lives past n < life → sent starts past n life ≡ []
unborn_sent starts [] n life h = refl
unborn_sent starts (entry ∷ past) n other h =
    let grow = lives_grow (life past n) (cause past n entry) in
    let differs : lives past n ≡ other → ⊥ = λ (e : lives past n ≡ other). omega (arith, grow, h, e) in
    sent_other starts past entry n other differs ∙ unborn_sent starts past n other (omega (arith, grow, h))

pub fresh_sends : (at : Status) → is_fresh at ≡ true → sends at ≡ false
fresh_sends Established h = cc
fresh_sends CloseWait h = cc
fresh_sends Udp h = cc
fresh_sends at h = refl

pub sent_by_fresh : (starts : Starts) (past : Past) (n life : ℕ) (why : Cause) (before : List ℕ) → is_fresh (status past n) ≡ true → sent_by starts past n life why before ≡ before
sent_by_fresh starts past n life because.Send before h =
    cond-false (takes_send past n life) _ before (and_left (sends (status past n)) (eqb (lives past n) life) (fresh_sends (status past n) h))
sent_by_fresh starts past n life why before h = refl

-- Nothing was sent in a life that is fresh.
pub fresh_sent : (starts : Starts) (past : Past) (n : ℕ) → is_fresh (status past n) ≡ true → sent starts past n (lives past n) ≡ []
fresh_sent starts [] n h = refl
fresh_sent starts (entry ∷ past) n h =
    elim (was_young past entry n h).from [
      | inl (same, fresh) ↦
          ap (sent starts (entry ∷ past) n) same
          ∙ sent_by_fresh starts past n (lives past n) (cause past n entry) (sent starts past n (lives past n)) fresh
          ∙ fresh_sent starts past n fresh
      | inr begun ↦
          ap (sent starts (entry ∷ past) n) begun
          ∙ sent_other starts past entry n (lives past n + 1) (λ e. omega (arith, e))
          ∙ unborn_sent starts past n (lives past n + 1) (omega arith)
    ]

-- The same of what was received.
pub got_other : (starts : Starts) (past : Past) (entry : Entry) (n life : ℕ) → (lives past n ≡ life → ⊥) → got starts (entry ∷ past) n life ≡ got starts past n life
got_other starts past (Link m what) n life h =
    cond-false (is_of past m n life) _ (got starts past n life) (and_right (eqb m n) (eqb (lives past n) life) (ne_eqb (lives past n) life h))
got_other starts past (Bus e a) n life h = refl
got_other starts past Rest n life h = refl

fresh_puts : (at : Status) (free : ℕ) (what : LinkEntry) → is_fresh at ≡ true → put_by at free what ≡ []
fresh_puts Established free what h = cc
fresh_puts Udp free what h = cc
fresh_puts at free what h = refl

cond_none : (b : Bool) (before more : List ℕ) → more ≡ [] → cond b (before ++ more) before ≡ before
cond_none true before more none = ap (λ (l : List ℕ). before ++ l) none ∙ append-nil before
cond_none false before more none = refl

pub got_fresh : (starts : Starts) (past : Past) (entry : Entry) (n life : ℕ) → is_fresh (status past n) ≡ true → got starts (entry ∷ past) n life ≡ got starts past n life
got_fresh starts past (Link m what) n life h =
    cond_none (is_of past m n life) (got starts past n life) _ (fresh_puts (status past n) (free_behind starts past n life (length (got starts past n life))) what h)
got_fresh starts past (Bus e a) n life h = refl
got_fresh starts past Rest n life h = refl

pub unborn_got : (starts : Starts) (past : Past) (n life : ℕ) → lives past n < life → got starts past n life ≡ []
unborn_got starts [] n life h = refl
unborn_got starts (entry ∷ past) n other h =
    let grow = lives_grow (life past n) (cause past n entry) in
    let differs : lives past n ≡ other → ⊥ = λ (e : lives past n ≡ other). omega (arith, grow, h, e) in
    got_other starts past entry n other differs ∙ unborn_got starts past n other (omega (arith, grow, h))

pub fresh_got : (starts : Starts) (past : Past) (n : ℕ) → is_fresh (status past n) ≡ true → got starts past n (lives past n) ≡ []
fresh_got starts [] n h = refl
fresh_got starts (entry ∷ past) n h =
    elim (was_young past entry n h).from [
      | inl (same, fresh) ↦
          ap (got starts (entry ∷ past) n) same ∙ got_fresh starts past entry n (lives past n) fresh ∙ fresh_got starts past n fresh
      | inr begun ↦
          ap (got starts (entry ∷ past) n) begun
          ∙ got_other starts past entry n (lives past n + 1) (λ e. omega (arith, e))
          ∙ unborn_got starts past n (lives past n + 1) (omega arith)
    ]
