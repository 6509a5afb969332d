-- The lists and counts of a life that an entry leaves, and those of a life that begins.
use Rattle.std.proofs.Common.{◌≡◌, ◌<◌, ℕ, ◌+◌, zero, suc, Bool, true, false, not, ◌&&◌, cond, eqb, List, [], ◌∷◌, ◌++◌, length, append-nil, inl, inr, refl, ap, ◌∙◌, arith}
use Rattle.std.proofs.lemmas.Bool.{cond-false, and_left, and_right, ne_eqb}
use Rattle.chip_sheet.specs.declared.socket.Status.{Status}
use Rattle.chip_sheet.specs.declared.socket.Status.TheVariants.{Established, Udp}
use Rattle.chip_sheet.specs.declared.socket.Cause.{Cause}
use Rattle.chip_sheet.specs.declared.socket.Cause.TheVariants as because
use Rattle.chip_sheet.specs.declared.event.Entry.{Entry}
use Rattle.chip_sheet.specs.declared.event.Entry.TheVariants.{Bus, Link, Rest}
use Rattle.chip_sheet.specs.declared.event.LinkEntry.{LinkEntry}
use Rattle.chip_sheet.specs.declared.event.LinkEntry.TheVariants.{Took, Got, Datagram}
use Rattle.chip_sheet.specs.Past.{Past}
use Rattle.chip_sheet.specs.Life.{life, cause, happening, status, lives}
use Rattle.chip_sheet.specs.Sending.{bytes_from}
use Rattle.chip_sheet.specs.Streams.{Starts, sent, sent_by, ends, ends_by, sends, takes_send, taken, taken_by, is_open, put_by, free_behind, got, released, released_by}
use Rattle.chip_sheet.proofs.LifeSteps.{is_fresh, was_young, lives_grow, fresh_sends}
use Rattle.chip_sheet.proofs.Within.{never_asks}
use Rattle.chip_steps.specs.Steps.{leaves_sent, leaves_got}
use Rattle.chip_steps.proofs.Going.{not_true}

sent_left : (starts : Starts) (past : Past) (n l : ℕ) (why : Cause) (before : List ℕ) → leaves_sent why (status past n) ≡ true → sent_by starts past n l why before ≡ before
sent_left starts past n l because.Send before h =
    cond-false (takes_send past n l) _ before (and_left (sends (status past n)) (eqb (lives past n) l) (not_true (sends (status past n)) h))
sent_left starts past n l why before h = refl

pub sent_same : (starts : Starts) (past : Past) (entry : Entry) (n l : ℕ) → leaves_sent (cause past n entry) (status past n) ≡ true → sent starts (entry ∷ past) n l ≡ sent starts past n l
sent_same starts past entry n l h = sent_left starts past n l (cause past n entry) (sent starts past n l) h

ends_left : (starts : Starts) (past : Past) (n l : ℕ) (why : Cause) (before : List ℕ) → leaves_sent why (status past n) ≡ true → ends_by starts past n l why before ≡ before
ends_left starts past n l because.Send before h =
    cond-false (takes_send past n l) _ before (and_left (sends (status past n)) (eqb (lives past n) l) (not_true (sends (status past n)) h))
ends_left starts past n l why before h = refl

pub ends_same : (starts : Starts) (past : Past) (entry : Entry) (n l : ℕ) → leaves_sent (cause past n entry) (status past n) ≡ true → ends starts (entry ∷ past) n l ≡ ends starts past n l
ends_same starts past entry n l h = ends_left starts past n l (cause past n entry) (ends starts past n l) h

takes_none : (what : LinkEntry) (at : Status) → leaves_sent (happening what) at ≡ true → taken_by what ≡ 0
takes_none (Took count) at h = cc
takes_none what at h = refl

taken_left : (here same : Bool) (what : LinkEntry) (at : Status) (before : ℕ) → leaves_sent (cond here (happening what) because.Nothing) at ≡ true → cond (here && same) (before + taken_by what) before ≡ before
taken_left true true what at before h = let none = takes_none what at h in omega (arith, none)
taken_left true false what at before h = refl
taken_left false same what at before h = refl

pub taken_same : (starts : Starts) (past : Past) (entry : Entry) (n l : ℕ) → leaves_sent (cause past n entry) (status past n) ≡ true → taken (entry ∷ past) n l ≡ taken past n l
taken_same starts past (Bus e a) n l h = refl
taken_same starts past Rest n l h = refl
taken_same starts past (Link m what) n l h = taken_left (eqb m n) (eqb (lives past n) l) what (status past n) (taken past n l) h

-- A SEND takes nothing: what was taken stays with each entry but a link's.
pub taken_stays : (past : Past) (entry : Entry) (n l : ℕ) → cause past n entry ≡ because.Send → taken (entry ∷ past) n l ≡ taken past n l
taken_stays past (Bus e a) n l h = refl
taken_stays past Rest n l h = refl
taken_stays past (Link m what) n l h = sends_none (eqb m n) (eqb (lives past n) l) what (taken past n l) h
  where
    no_send : (what : LinkEntry) → happening what ≡ because.Send → taken_by what ≡ 0
    no_send (Took count) h = cc
    no_send what h = refl

    sends_none : (here same : Bool) (what : LinkEntry) (before : ℕ) → cond here (happening what) because.Nothing ≡ because.Send → cond (here && same) (before + taken_by what) before ≡ before
    sends_none true true what before h = let none = no_send what h in omega (arith, none)
    sends_none true false what before h = refl
    sends_none false same what before h = refl

puts_none : (what : LinkEntry) (at : Status) (free : ℕ) → leaves_got (happening what) at ≡ true → put_by at free what ≡ []
puts_none (Got bytes) Established free h = cc
puts_none (Got bytes) Udp free h = refl
puts_none (Got bytes) at free h = refl
puts_none (Datagram from body) at free h = cc
puts_none what Established free h = refl
puts_none what Udp free h = refl
puts_none what at free h = refl

got_left : (here same : Bool) (what : LinkEntry) (at : Status) (free : ℕ) (before : List ℕ) → leaves_got (cond here (happening what) because.Nothing) at ≡ true
    → cond (here && same) (before ++ put_by at free what) before ≡ before
got_left true true what at free before h = ap (λ (more : List ℕ). before ++ more) (puts_none what at free h) ∙ append-nil before
got_left true false what at free before h = refl
got_left false same what at free before h = refl

pub got_same : (starts : Starts) (past : Past) (entry : Entry) (n l : ℕ) → leaves_got (cause past n entry) (status past n) ≡ true → got starts (entry ∷ past) n l ≡ got starts past n l
got_same starts past (Bus e a) n l h = refl
got_same starts past Rest n l h = refl
got_same starts past (Link m what) n l h =
    got_left (eqb m n) (eqb (lives past n) l) what (status past n) (free_behind starts past n l (length (got starts past n l))) (got starts past n l) h

released_left : (starts : Starts) (past : Past) (n l : ℕ) (why : Cause) (before : ℕ) → leaves_got why (status past n) ≡ true → released_by starts past n l why before ≡ before
released_left starts past n l because.Receive before h =
    cond-false (is_open (status past n) && eqb (lives past n) l) _ before (and_left (is_open (status past n)) (eqb (lives past n) l) (not_true (is_open (status past n)) h))
released_left starts past n l why before h = refl

pub released_same : (starts : Starts) (past : Past) (entry : Entry) (n l : ℕ) → leaves_got (cause past n entry) (status past n) ≡ true → released starts (entry ∷ past) n l ≡ released starts past n l
released_same starts past entry n l h = released_left starts past n l (cause past n entry) (released starts past n l) h

-- Where SENDs ended: nowhere in a life that has not begun or that is fresh.
ends_other : (starts : Starts) (past : Past) (n l : ℕ) (why : Cause) (before : List ℕ) → (lives past n ≡ l → ⊥) → ends_by starts past n l why before ≡ before
ends_other starts past n l because.Send before h =
    cond-false (takes_send past n l) _ before (and_right (sends (status past n)) (eqb (lives past n) l) (ne_eqb (lives past n) l h))
ends_other starts past n l why before h = refl

unborn_ends : (starts : Starts) (past : Past) (n l : ℕ) → lives past n < l → ends starts past n l ≡ []
unborn_ends starts [] n l h = refl
unborn_ends starts (entry ∷ past) n l h =
    let grow = lives_grow (life past n) (cause past n entry) in
    ends_other starts past n l (cause past n entry) (ends starts past n l) (λ (e : lives past n ≡ l). omega (arith, grow, h, e))
    ∙ unborn_ends starts past n l (omega (arith, grow, h))

pub begun_ends : (starts : Starts) (past : Past) (entry : Entry) (n : ℕ) → ends starts (entry ∷ past) n (lives past n + 1) ≡ []
begun_ends starts past entry n =
    ends_other starts past n (lives past n + 1) (cause past n entry) (ends starts past n (lives past n + 1)) (λ e. omega (arith, e)) ∙ unborn_ends starts past n (lives past n + 1) (omega arith)

pub ends_by_fresh : (starts : Starts) (past : Past) (n l : ℕ) (why : Cause) (before : List ℕ) → is_fresh (status past n) ≡ true → ends_by starts past n l why before ≡ before
ends_by_fresh starts past n l because.Send before h =
    cond-false (takes_send past n l) _ before (and_left (sends (status past n)) (eqb (lives past n) l) (fresh_sends (status past n) h))
ends_by_fresh starts past n l why before h = refl

pub fresh_ends : (starts : Starts) (past : Past) (n : ℕ) → is_fresh (status past n) ≡ true → ends starts past n (lives past n) ≡ []
fresh_ends starts [] n h = refl
fresh_ends starts (entry ∷ past) n h =
    elim (was_young past entry n h).from [
      | inl (same, fresh) ↦
          ap (ends starts (entry ∷ past) n) same
          ∙ ends_by_fresh starts past n (lives past n) (cause past n entry) (ends starts past n (lives past n)) fresh
          ∙ fresh_ends starts past n fresh
      | inr begun ↦ ap (ends starts (entry ∷ past) n) begun ∙ begun_ends starts past entry n
    ]

pub bytes_length : (f : ℕ → ℕ) (at count : ℕ) → length (bytes_from f at count) ≡ count
bytes_length f at zero = refl
bytes_length f at (suc count) = ap suc (bytes_length f (at + 1) count)

-- A RECV brings nothing in.
pub got_stays : (starts : Starts) (past : Past) (entry : Entry) (n l : ℕ) → cause past n entry ≡ because.Receive → got starts (entry ∷ past) n l ≡ got starts past n l
got_stays starts past (Bus e a) n l h = refl
got_stays starts past Rest n l h = refl
got_stays starts past (Link m what) n l h = absurd (never_asks (eqb m n) what h)
