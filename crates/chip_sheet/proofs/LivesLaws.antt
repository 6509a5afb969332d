-- The lives of a socket: which of them is still to be forgotten, and that an entry changes the present one alone.
use Rattle.std.proofs.Common.{◌≡◌, ◌≤◌, ◌<◌, ℕ, ◌+◌, Bool, true, false, not, ◌&&◌, cond, eqb, List, [], ◌∷◌, length, Option, None, Some, inl, inr, refl, sym, ap, ◌∙◌, subst, arith, ◌⊎◌}
use Rattle.std.proofs.lemmas.Bool.{cond-false, and_right, and_parts, ne_eqb, cond_both}
use Rattle.chip_sheet.specs.declared.event.Addr.{Addr}
use Rattle.chip_sheet.specs.declared.event.Entry.{Entry}
use Rattle.chip_sheet.specs.declared.event.Entry.TheVariants.{Bus, Link, Rest}
use Rattle.chip_sheet.specs.declared.socket.Status.{Status}
use Rattle.chip_sheet.specs.declared.socket.Status.TheVariants.{Closed}
use Rattle.chip_sheet.specs.declared.socket.Cause.{Cause}
use Rattle.chip_sheet.specs.declared.socket.Cause.TheVariants as because
use Rattle.chip_sheet.specs.Past.{Past}
use Rattle.chip_sheet.specs.Life.{Life, Facts, facts_of, life, life_after, lives_on, new_life, next, begins, cause, status, lives, old, old_after, closing, is_closed, asks_link}
use Rattle.chip_sheet.specs.Streams.{Starts, is_of, sent, ends, destinations, destinations_by, sends_datagram, ends_by, takes_send, taken, supplied, got, released, released_by, is_open, range_length, sends}
use Rattle.chip_sheet.specs.Quiet.{LeavesOther}
use Rattle.chip_sheet.proofs.SentLaws.{sent_other}
use Rattle.chip_sheet.proofs.LifeSteps.{got_other}

-- The old life of a socket is closed: it is the present one only where the socket is closed, and else an earlier one.
record IsBehind (at : Life) (l : ℕ) : Type 0 where
  most : l ≤ at.lives
  closed : l ≡ at.lives → is_closed at.status ≡ true

closed_stays : (at : Status) (why : Cause) (facts : Facts) → begins why at ≡ false → is_closed at ≡ true → is_closed (next at why facts) ≡ true
closed_stays Closed because.OpenTcp facts old h = cc
closed_stays Closed because.OpenUdp facts old h = cc
closed_stays Closed why facts old h = refl
closed_stays at why facts old h = cc

some_same : (a b : ℕ) → Some a ≡ Some b → a ≡ b
some_same a b h = cc

closes_now : (closed after asked : Bool) (lives l : ℕ) → cond (not closed && after && asked) (Some lives) None ≡ Some l → (lives ≡ l) × (after ≡ true)
closes_now false true true lives l h = (some_same lives l h, refl)
closes_now false true false lives l h = cc
closes_now false false asked lives l h = cc
closes_now true after asked lives l h = cc

old_from : (why : Cause) (closes before : Option ℕ) (l : ℕ) → old_after why closes before ≡ Some l → (before ≡ Some l) ⊎ (closes ≡ Some l)
old_from because.Dropped closes before l h = cc
old_from because.Nothing closes None l h = inr h
old_from because.Nothing closes (Some life) l h = inl h
old_from why closes None l h = inr h
old_from why closes (Some life) l h = inl h

behind_after : (at : Life) (why : Cause) → ((l : ℕ) → at.old ≡ Some l → IsBehind at l) → (l : ℕ) → (life_after at why).old ≡ Some l → IsBehind (life_after at why) l
behind_after at why before l =
    let after = next at.status why (facts_of why at) in
    cond_both (begins why at.status) (new_life at after) (lives_on at why after) (λ (now : Life). now.old ≡ Some l → IsBehind now l)
    (λ new h. let it = before l h in record { most = let most = it.most in omega (arith, most); closed = λ same. let most = it.most in absurd (omega (arith, most, same)) })
    (λ on h. elim (old_from why (closing at after) at.old l h) [
      | inl was ↦ let it = before l was in record { most = it.most; closed = λ same. closed_stays at.status why (facts_of why at) on (it.closed same) }
      | inr now ↦
          let it = closes_now (is_closed at.status) (is_closed after) at.asked at.lives l now in
          let same = it.0 in
          record { most = omega (arith, same); closed = λ e. it.1 }
    ])

behind : (past : Past) (n l : ℕ) → old past n ≡ Some l → IsBehind (life past n) l
behind [] n l h = cc
behind (entry ∷ past) n l h = behind_after (life past n) (cause past n entry) (λ k before. behind past n k before) l h

pub old_behind : (past : Past) (n l : ℕ) → old past n ≡ Some l → (l ≤ lives past n) × (l ≡ lives past n → is_closed (status past n) ≡ true)
old_behind past n l h = let it = behind past n l h in (it.most, it.closed)

-- A life that is not the present one keeps its lists.
taken_other : (past : Past) (entry : Entry) (n l : ℕ) → (lives past n ≡ l → ⊥) → taken (entry ∷ past) n l ≡ taken past n l
taken_other past (Link m what) n l h = cond-false (is_of past m n l) _ (taken past n l) (and_right (eqb m n) (eqb (lives past n) l) (ne_eqb (lives past n) l h))
taken_other past (Bus e a) n l h = refl
taken_other past Rest n l h = refl

supplied_other : (past : Past) (entry : Entry) (n l : ℕ) → (lives past n ≡ l → ⊥) → supplied (entry ∷ past) n l ≡ supplied past n l
supplied_other past (Link m what) n l h = cond-false (is_of past m n l) _ (supplied past n l) (and_right (eqb m n) (eqb (lives past n) l) (ne_eqb (lives past n) l h))
supplied_other past (Bus e a) n l h = refl
supplied_other past Rest n l h = refl

third_false : (a b c : Bool) → b ≡ false → (a && b && c) ≡ false
third_false true b c h = ap (λ (x : Bool). x && c) h
third_false false b c h = refl

destinations_by_other : (starts : Starts) (past : Past) (n l : ℕ) (why : Cause) (before : List Addr) → eqb (lives past n) l ≡ false → destinations_by starts past n l why before ≡ before
destinations_by_other starts past n l because.Send before h = cond-false (sends_datagram starts past n l) _ before (third_false _ (eqb (lives past n) l) _ h)
destinations_by_other starts past n l why before h = refl

released_by_other : (starts : Starts) (past : Past) (n l : ℕ) (why : Cause) (before : ℕ) → eqb (lives past n) l ≡ false → released_by starts past n l why before ≡ before
released_by_other starts past n l because.Receive before h = cond-false (is_open (status past n) && eqb (lives past n) l) _ before (and_right (is_open (status past n)) (eqb (lives past n) l) h)
released_by_other starts past n l why before h = refl

pub leaves_other : (starts : Starts) (past : Past) (entry : Entry) (n life : ℕ) → (lives past n ≡ life → ⊥) → LeavesOther starts past entry n life
leaves_other starts past entry n life h = record {
  sent = sent_other starts past entry n life h;
  taken = taken_other past entry n life h;
  got = got_other starts past entry n life h;
  supplied = supplied_other past entry n life h;
  destinations = destinations_by_other starts past n life (cause past n entry) (destinations starts past n life) (ne_eqb (lives past n) life h);
  released = released_by_other starts past n life (cause past n entry) (released starts past n life) (ne_eqb (lives past n) life h);
}

-- Each entry begins at most one life.
lives_one : (at : Life) (why : Cause) → (life_after at why).lives ≤ at.lives + 1
lives_one at why =
    let after = next at.status why (facts_of why at) in
    cond_both (begins why at.status) (new_life at after) (lives_on at why after) (λ (now : Life). now.lives ≤ at.lives + 1) (λ new. omega arith) (λ on. omega arith)

pub lives_few : (past : Past) (n : ℕ) → lives past n ≤ length past
lives_few [] n = omega arith
lives_few (entry ∷ past) n = let few = lives_few past n in let one = lives_one (life past n) (cause past n entry) in omega (arith, few, one)

-- An old life stays until it is dropped.
old_kept : (why : Cause) (closes : Option ℕ) (l : ℕ) → (why ≡ because.Dropped → ⊥) → old_after why closes (Some l) ≡ Some l
old_kept because.Dropped closes l h = absurd (h refl)
old_kept why closes l h = refl

old_on : (at : Life) (why : Cause) (l : ℕ) → (why ≡ because.Dropped → ⊥) → at.old ≡ Some l → (life_after at why).old ≡ Some l
old_on at why l other h =
    let after = next at.status why (facts_of why at) in
    cond_both (begins why at.status) (new_life at after) (lives_on at why after) (λ (now : Life). now.old ≡ Some l) (λ new. h)
    (λ on. ap (old_after why (closing at after)) h ∙ old_kept why (closing at after) l other)

pub old_stays : (past : Past) (entry : Entry) (n l : ℕ) → (cause past n entry ≡ because.Dropped → ⊥) → old past n ≡ Some l → old (entry ∷ past) n ≡ Some l
old_stays past entry n l other h = old_on (life past n) (cause past n entry) l other h
