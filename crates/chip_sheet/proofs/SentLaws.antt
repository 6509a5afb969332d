-- What was sent in a life stays, and only SEND adds to it.
use Rattle.std.proofs.Common.{◌≡◌, ℕ, Bool, true, false, cond, eqb, List, [], ◌∷◌, ◌++◌, append-nil, append_assoc, refl, sym, ap, ◌∙◌}
use Rattle.std.proofs.lemmas.Bool.{cond-false, and_right, ne_eqb}
use Rattle.chip_sheet.specs.declared.socket.Cause.{Cause}
use Rattle.chip_sheet.specs.declared.socket.Cause.TheVariants as because
use Rattle.chip_sheet.specs.declared.event.Entry.{Entry}
use Rattle.chip_sheet.specs.Past.{Past, GoesOn}
use Rattle.chip_sheet.specs.Life.{cause, status, lives}
use Rattle.chip_sheet.specs.Streams.{Starts, sent, sent_by, sends, takes_send}

-- The second list is the first and more.
abbrev pub IsLonger : List ℕ → List ℕ → Type 0
IsLonger before after = (more : List ℕ) × (after ≡ before ++ more)

pub cond_longer : (b : Bool) (before more : List ℕ) → IsLonger before (cond b (before ++ more) before)
cond_longer true before more = (more, refl)
cond_longer false before more = ([], sym (append-nil before))

sent_by_longer : (starts : Starts) (past : Past) (n life : ℕ) (why : Cause) (before : List ℕ) → IsLonger before (sent_by starts past n life why before)
sent_by_longer starts past n life because.Send before = cond_longer _ before _
sent_by_longer starts past n life why before = ([], sym (append-nil before))

pub sent_longer : (starts : Starts) (past : Past) (entry : Entry) (n life : ℕ) → IsLonger (sent starts past n life) (sent starts (entry ∷ past) n life)
sent_longer starts past entry n life = sent_by_longer starts past n life (cause past n entry) (sent starts past n life)

longer_still : (a b c : List ℕ) → IsLonger a b → IsLonger b c → IsLonger a c
longer_still a b c (more, e) (again, f) = (more ++ again, f ∙ ap (λ (xs : List ℕ). xs ++ again) e ∙ append_assoc a more again)

sent_longer_by : (starts : Starts) (older more : Past) (n life : ℕ) → IsLonger (sent starts older n life) (sent starts (more ++ older) n life)
sent_longer_by starts older [] n life = ([], sym (append-nil (sent starts older n life)))
sent_longer_by starts older (entry ∷ more) n life =
    longer_still _ _ _ (sent_longer_by starts older more n life) (sent_longer starts (more ++ older) entry n life)

pub sent_front : (starts : Starts) (older newer : Past) (n life : ℕ) → GoesOn older newer → IsLonger (sent starts older n life) (sent starts newer n life)
sent_front starts older newer n life on = rw on.1 (sent_longer_by starts older on.0 n life)

sent_by_same : (starts : Starts) (past : Past) (n life : ℕ) (why : Cause) (before : List ℕ) → (why ≡ because.Send → ⊥) → sent_by starts past n life why before ≡ before
sent_by_same starts past n life because.Send before h = absurd (h refl)
sent_by_same starts past n life why before h = refl

pub sent_same : (starts : Starts) (past : Past) (entry : Entry) (n life : ℕ) → (cause past n entry ≡ because.Send → ⊥) → sent starts (entry ∷ past) n life ≡ sent starts past n life
sent_same starts past entry n life h = sent_by_same starts past n life (cause past n entry) (sent starts past n life) h

sent_by_other : (starts : Starts) (past : Past) (n life : ℕ) (why : Cause) (before : List ℕ) → takes_send past n life ≡ false → sent_by starts past n life why before ≡ before
sent_by_other starts past n life because.Send before h = cond-false _ _ before h
sent_by_other starts past n life why before h = refl

pub sent_other : (starts : Starts) (past : Past) (entry : Entry) (n life : ℕ) → (lives past n ≡ life → ⊥) → sent starts (entry ∷ past) n life ≡ sent starts past n life
sent_other starts past entry n life h =
    sent_by_other starts past n life (cause past n entry) (sent starts past n life)
    (and_right (sends (status past n)) (eqb (lives past n) life) (ne_eqb (lives past n) life h))
