-- What a link may answer to a call that is due makes an entry that fits.
use Rattle.std.proofs.Common.{◌≡◌, ◌≤◌, ◌<◌, ℕ, ◌+◌, ◌-◌, min, zero, suc, Bool, true, false, ◌&&◌, eqb, leb, List, [], ◌∷◌, ◌++◌, length, take, drop, inl, inr, refl, sym, ap, ◌∙◌, subst, arith, ◌⊎◌}
use Rattle.std.proofs.lemmas.List.{take-append-drop, drop-take}
use Rattle.std.proofs.lemmas.Bool.{and_parts, leb-true, eq-eqb, or_left, or_right, cond-true}
use Rattle.chip_sheet.specs.declared.event.Entry.{Entry}
use Rattle.chip_sheet.specs.declared.event.Entry.TheVariants.{Bus, Link, Rest}
use Rattle.chip_sheet.specs.declared.event.LinkEntry.{LinkEntry}
use Rattle.chip_sheet.specs.declared.socket.Due.{Due}
use Rattle.chip_sheet.specs.declared.socket.Due.TheVariants as due
use Rattle.chip_sheet.specs.Past.{Past}
use Rattle.chip_sheet.specs.Life.{status, lives}
use Rattle.chip_sheet.specs.Streams.{Starts, is_open, sent, taken}
use Rattle.chip_sheet.specs.Windows.{flight, rx_free, most_read, offered_length, offered, in_flight, room_length}
use Rattle.chip_sheet.specs.LinkCalls.{outgoing, incoming, answers_call, fits, one_to}
use Rattle.chip_sheet.specs.LinkAnswers.{LinkAnswer, Done, DoneFrom, DoneWith, DoneBytes, DoneDatagram, NotYet, Refused, TimedOut, End, Failed, entry_by, may_answer}
use Rattle.chip_sheet.specs.Legal.{FitsAfter}

-- The entry is a turn in which nothing happened, or it answers this call.
abbrev AnswersBy : ℕ → Due → ℕ → ℕ → Entry → Type 0
AnswersBy n call flight free (Bus e a) = ⊥
AnswersBy n call flight free (Link m what) = (m ≡ n) × (answers_call call flight free what ≡ true)
AnswersBy n call flight free Rest = Unit {0}

within : (few many count : ℕ) → few ≤ many → one_to few count ≡ true → one_to many count ≡ true
within few many count less h =
    let parts = and_parts (leb 1 count) (leb count few) h in
    let from = leb-true 1 count parts.0 in
    let to = leb-true count few parts.1 in
    both (le_leb 1 count from) (le_leb count many (omega (arith, to, less)))
  where
    le_leb : (a b : ℕ) → a ≤ b → leb a b ≡ true
    le_leb a b h = grind arith

    both : {a b : Bool} → a ≡ true → b ≡ true → (a && b) ≡ true
    both {a} {b} h k = ap (λ (x : Bool). x && b) h ∙ k

-- A call and an answer that it may get, one by one.
proper : (n : ℕ) (call : Due) (answer : LinkAnswer) (offered room flight free : ℕ) → offered ≤ flight → room ≤ min free most_read → may_answer call offered room answer ≡ true
    → AnswersBy n call flight free (entry_by n flight call answer)
proper n due.Nothing answer offered room flight free few small h = tt
proper n (due.Connect c to) Done offered room flight free few small h = (refl, refl)
proper n (due.Connect c to) Refused offered room flight free few small h = (refl, refl)
proper n (due.Connect c to) TimedOut offered room flight free few small h = (refl, refl)
proper n (due.Connect c to) Failed offered room flight free few small h = (refl, refl)
proper n (due.Connect c to) NotYet offered room flight free few small h = tt
proper n (due.Connect c to) answer offered room flight free few small h = cc
proper n (due.Accept c port) (DoneFrom from) offered room flight free few small h = (refl, refl)
proper n (due.Accept c port) Failed offered room flight free few small h = (refl, refl)
proper n (due.Accept c port) NotYet offered room flight free few small h = tt
proper n (due.Accept c port) answer offered room flight free few small h = cc
proper n (due.Write c) (DoneWith count) offered room flight free few small h = (refl, within offered flight count few h)
proper n (due.Write c) Failed offered room flight free few small h = (refl, refl)
proper n (due.Write c) NotYet offered room flight free few small h = tt
proper n (due.Write c) answer offered room flight free few small h = cc
proper n (due.SendTo c port to) Done offered room flight free few small h = (refl, eq-eqb flight flight refl)
proper n (due.SendTo c port to) Failed offered room flight free few small h = (refl, refl)
proper n (due.SendTo c port to) NotYet offered room flight free few small h = tt
proper n (due.SendTo c port to) answer offered room flight free few small h = cc
proper n (due.Shut c) Done offered room flight free few small h = (refl, refl)
proper n (due.Shut c) Failed offered room flight free few small h = (refl, refl)
proper n (due.Shut c) NotYet offered room flight free few small h = tt
proper n (due.Shut c) answer offered room flight free few small h = cc
proper n (due.Read c) (DoneBytes bytes) offered room flight free few small h = (refl, within room (min free most_read) (length bytes) small h)
proper n (due.Read c) End offered room flight free few small h = (refl, refl)
proper n (due.Read c) Failed offered room flight free few small h = (refl, refl)
proper n (due.Read c) NotYet offered room flight free few small h = tt
proper n (due.Read c) answer offered room flight free few small h = cc
proper n (due.ReadAway c) (DoneBytes bytes) offered room flight free few small h = (refl, h)
proper n (due.ReadAway c) End offered room flight free few small h = (refl, refl)
proper n (due.ReadAway c) Failed offered room flight free few small h = (refl, refl)
proper n (due.ReadAway c) NotYet offered room flight free few small h = tt
proper n (due.ReadAway c) answer offered room flight free few small h = cc
proper n (due.RecvFrom c port) (DoneDatagram from body) offered room flight free few small h = (refl, h)
proper n (due.RecvFrom c port) Failed offered room flight free few small h = (refl, refl)
proper n (due.RecvFrom c port) NotYet offered room flight free few small h = tt
proper n (due.RecvFrom c port) answer offered room flight free few small h = cc
proper n (due.Drop c) Done offered room flight free few small h = (refl, refl)
proper n (due.Drop c) answer offered room flight free few small h = cc

offered_few : (a b : ℕ) → min a b ≤ a
offered_few a b = omega arith

room_few : (a b c : ℕ) → min a (min b c) ≤ min a b
room_few a b c = omega arith

-- It fits, where the call is due at one of the socket's places.
fits_by : (starts : Starts) (past : Past) (n : ℕ) (call : Due) (entry : Entry) → n < 8 → (outgoing starts past n ≡ call) ⊎ (incoming starts past n ≡ call)
    → AnswersBy n call (flight starts past n) (rx_free starts past n) entry → FitsAfter starts past entry
fits_by starts past n call (Bus e a) below is h = absurd h
fits_by starts past n call Rest below is h = tt
fits_by starts past n call (Link m what) below (inl out) (same, h) = (
  subst (λ (k : ℕ). k < 8) (sym same) below,
  subst (λ (k : ℕ). fits starts past k what ≡ true) (sym same)
      (or_left (answers_call (outgoing starts past n) (flight starts past n) (rx_free starts past n) what) _ (ap (λ (d : Due). answers_call d (flight starts past n) (rx_free starts past n) what) out ∙ h)),
)
fits_by starts past n call (Link m what) below (inr in_) (same, h) = (
  subst (λ (k : ℕ). k < 8) (sym same) below,
  subst (λ (k : ℕ). fits starts past k what ≡ true) (sym same)
      (or_right (answers_call (outgoing starts past n) (flight starts past n) (rx_free starts past n) what) _ (ap (λ (d : Due). answers_call d (flight starts past n) (rx_free starts past n) what) in_ ∙ h)),
)

pub answer_fits : (starts : Starts) (past : Past) (n : ℕ) (call : Due) (answer : LinkAnswer) → n < 8 → (outgoing starts past n ≡ call) ⊎ (incoming starts past n ≡ call)
    → may_answer call (offered_length starts past n) (room_length starts past n) answer ≡ true → FitsAfter starts past (entry_by n (flight starts past n) call answer)
answer_fits starts past n call answer below is h =
    fits_by starts past n call (entry_by n (flight starts past n) call answer) below is
    (proper n call answer (offered_length starts past n) (room_length starts past n) (flight starts past n) (rx_free starts past n) (offered_few _ _) (room_few _ _ _) h)

-- What was taken of what is offered stands behind what was taken before.
take_of : (xs : List ℕ) (k m : ℕ) → k ≤ m → take k (take m xs) ≡ take k xs
take_of xs zero m few = refl
take_of xs (suc k) zero few = absurd (omega (arith, few))
take_of [] (suc k) (suc m) few = refl
take_of (x ∷ xs) (suc k) (suc m) few = ap (λ (l : List ℕ). x ∷ l) (take_of xs k m (omega (arith, few)))

take_more : (xs : List ℕ) (t k : ℕ) → take (t + k) xs ≡ take t xs ++ take k (drop t xs)
take_more xs t k =
    sym (take-append-drop t (take (t + k) xs))
    ∙ ap (λ (l : List ℕ). l ++ drop t (take (t + k) xs)) (take_of xs t (t + k) (omega arith))
    ∙ ap (λ (l : List ℕ). take t xs ++ l) (drop-take t k xs)

pub given_goes_on : (starts : Starts) (past : Past) (n k : ℕ) → is_open (status past n) ≡ true → k ≤ offered_length starts past n
    → take (taken past n (lives past n) + k) (sent starts past n (lives past n)) ≡ take (taken past n (lives past n)) (sent starts past n (lives past n)) ++ take k (offered starts past n)
given_goes_on starts past n k on few =
    let s = sent starts past n (lives past n) in
    let t = taken past n (lives past n) in
    take_more s t k
    ∙ ap (λ (xs : List ℕ). take t s ++ xs)
    (ap (take k) (sym (cond-true (is_open (status past n)) (drop t s) [] on)) ∙ sym (take_of (in_flight starts past n) k (offered_length starts past n) few))
