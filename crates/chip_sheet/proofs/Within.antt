-- No more is taken than was sent, and no more released than was received.
use Rattle.std.proofs.Common.{◌≡◌, ◌≤◌, ℕ, ◌+◌, ◌-◌, Bool, true, false, ◌&&◌, cond, eqb, ltb, leb, List, [], ◌∷◌, length, length-append, append-nil, Option, None, inl, inr, refl, sym, ap, ◌∙◌, subst, arith}
use Rattle.std.proofs.lemmas.Bool.{and_parts, or_cases, leb-true, ltb-false, eqb-true}
use Rattle.chip_sheet.specs.declared.phase.Access.{Access}
use Rattle.chip_sheet.specs.declared.socket.Cause.{Cause}
use Rattle.chip_sheet.specs.declared.socket.Cause.TheVariants as because
use Rattle.chip_sheet.specs.declared.socket.Due.{Due}
use Rattle.chip_sheet.specs.declared.socket.Due.TheVariants as due
use Rattle.chip_sheet.specs.declared.stop.ChipStop.{ChipStop}
use Rattle.chip_sheet.specs.declared.stop.ChipStop.TheVariants.{SendTooLong, RecvPastEnd}
use Rattle.chip_sheet.specs.declared.event.Entry.{Entry}
use Rattle.chip_sheet.specs.declared.event.Entry.TheVariants.{Bus, Link, Rest}
use Rattle.chip_sheet.specs.declared.event.LinkEntry.{LinkEntry}
use Rattle.chip_sheet.specs.declared.event.LinkEntry.TheVariants.{Linked, Took}
use Rattle.chip_sheet.specs.Past.{Past}
use Rattle.chip_sheet.specs.Frames.{access}
use Rattle.chip_sheet.specs.Blocks.{registers_of}
use Rattle.chip_sheet.specs.Life.{cause, cause_by, happening, status, lives}
use Rattle.chip_sheet.specs.Streams.{Starts, sent, range_length, sends, taken, taken_by, is_open, got, bytes_of, released, released_by, release_length}
use Rattle.chip_sheet.specs.Windows.{flight, unread, tx_free, rx_free}
use Rattle.chip_sheet.specs.Stops.{block_access, stop_by}
use Rattle.chip_sheet.specs.LinkCalls.{outgoing, incoming, answers_call, fits}
use Rattle.chip_sheet.specs.Legal.{Legal}
use Rattle.chip_sheet.proofs.SentLaws.{IsLonger, cond_longer, sent_longer}
use Rattle.chip_sheet.proofs.StopRows.{none_there, free_command, send_access, recv_access}

-- A SEND without a stop takes no more than is free, and a RECV goes no further than the unread bytes.
last_false : (a b c : Bool) → (a && b && c) ≡ false → a ≡ true → b ≡ true → c ≡ false
last_false true true c h k l = h
last_false true false c h k l = cc
last_false false b c h k l = cc

pub send_within : (starts : Starts) (past : Past) (n : ℕ) (made : Access) → cause_by past n made ≡ because.Send → sends (status past n) ≡ true
    → stop_by starts past (block_access made) ≡ None → range_length starts past n (length (sent starts past n (lives past n))) ≤ tx_free starts past n
send_within starts past n made why takes clear =
    let len = range_length starts past n (length (sent starts past n (lives past n))) in
    let free = tx_free starts past n in
    let row = (free_command starts past n made 0x20 (send_access past n made why) clear).send in
    ltb-false free len (last_false true (sends (status past n)) (ltb free len) (none_there _ (SendTooLong n len free) row) refl takes)

pub recv_within : (starts : Starts) (past : Past) (n : ℕ) (made : Access) → cause_by past n made ≡ because.Receive → is_open (status past n) ≡ true
    → stop_by starts past (block_access made) ≡ None → release_length starts past n (released starts past n (lives past n)) ≤ unread starts past n
recv_within starts past n made why takes clear =
    let asked = release_length starts past n (released starts past n (lives past n)) in
    let there = unread starts past n in
    let row = (free_command starts past n made 0x40 (recv_access past n made why) clear).recv in
    ltb-false there asked (last_false true (is_open (status past n)) (ltb there asked) (none_there _ (RecvPastEnd n asked there) row) refl takes)

-- A link takes no more than is in flight.
took_limit : (call : Due) (flight free count : ℕ) → answers_call call flight free (Took count) ≡ true → count ≤ flight
took_limit (due.SendTo c port to) flight free count h = let e = eqb-true count flight h in omega (arith, e)
took_limit (due.Write c) flight free count h = leb-true count flight (and_parts (leb 1 count) (leb count flight) h).1
took_limit call flight free count h = cc

pub taken_limit : (starts : Starts) (past : Past) (n : ℕ) (what : LinkEntry) → fits starts past n what ≡ true → taken_by what ≤ flight starts past n
taken_limit starts past n (Took count) h =
    elim (or_cases (answers_call (outgoing starts past n) (flight starts past n) (rx_free starts past n) (Took count)) (answers_call (incoming starts past n) (flight starts past n) (rx_free starts past n) (Took count)) h) [
      | inl out ↦ took_limit (outgoing starts past n) (flight starts past n) (rx_free starts past n) count out
      | inr in_ ↦ took_limit (incoming starts past n) (flight starts past n) (rx_free starts past n) count in_
    ]
taken_limit starts past n what h = omega arith

pub both_same : (a b c d : ℕ) → (eqb a b && eqb c d) ≡ true → (a ≡ b) × (c ≡ d)
both_same a b c d h = let p = and_parts (eqb a b) (eqb c d) h in (eqb-true a b p.0, eqb-true c d p.1)

longer_length : (before after : List ℕ) → IsLonger before after → length before ≤ length after
longer_length before after (more, e) = omega (arith, ap length e, length-append before more)

took_within : (b live : Bool) (t s k : ℕ) → t ≤ s → (b ≡ true → k ≤ cond live (s - t) 0) → cond b (t + k) t ≤ s
took_within false live t s k h few = h
took_within true true t s k h few = omega (arith, few refl)
took_within true false t s k h few = omega (arith, few refl)

pub taken_within : (starts : Starts) (past : Past) (n life : ℕ) → Legal starts past → taken past n life ≤ length (sent starts past n life)
taken_within starts [] n life h = omega arith
taken_within starts (Link m what ∷ past) n life (may, h) =
    let longer = longer_length _ _ (sent_longer starts past (Link m what) n life) in
    let t = taken past n life in
    let s = length (sent starts past n life) in
    let now = took_within (eqb m n && eqb (lives past n) life) (is_open (status past n)) t s (taken_by what) (taken_within starts past n life h)
    (λ yes. let e = both_same m n (lives past n) life yes in
    subst (λ (l : ℕ). taken_by what ≤ cond (is_open (status past n)) (length (sent starts past n l) - taken past n l) 0) e.1
    (subst (λ (j : ℕ). taken_by what ≤ flight starts past j) e.0 (taken_limit starts past m what may.1))) in
    omega (arith, longer, now)
taken_within starts (Bus e a ∷ past) n life (may, h) =
    omega (arith, longer_length _ _ (sent_longer starts past (Bus e a) n life), taken_within starts past n life h)
taken_within starts (Rest ∷ past) n life (may, h) =
    omega (arith, longer_length _ _ (sent_longer starts past Rest n life), taken_within starts past n life h)

never_happens : (what : LinkEntry) → happening what ≡ because.Receive → ⊥
never_happens Linked h = cc
never_happens what h = cc

pub never_asks : (b : Bool) (what : LinkEntry) → cond b (happening what) because.Nothing ≡ because.Receive → ⊥
never_asks true what h = never_happens what h
never_asks false what h = cc

pub got_longer : (starts : Starts) (past : Past) (entry : Entry) (n life : ℕ) → IsLonger (got starts past n life) (got starts (entry ∷ past) n life)
got_longer starts past (Link m what) n life = cond_longer _ _ _
got_longer starts past (Bus e a) n life = ([], sym (append-nil (got starts past n life)))
got_longer starts past Rest n life = ([], sym (append-nil (got starts past n life)))

released_one : (live same : Bool) (r g step : ℕ) → r ≤ g → (same ≡ true → live ≡ true → step ≤ cond live (g - r) 0) → cond (live && same) (r + step) r ≤ g
released_one true true r g step h few = omega (arith, few refl refl)
released_one true false r g step h few = h
released_one false same r g step h few = h

released_by_within : (starts : Starts) (past : Past) (n life : ℕ) (why : Cause)
    → (why ≡ because.Receive → is_open (status past n) ≡ true → release_length starts past n (released starts past n (lives past n)) ≤ unread starts past n)
    → released starts past n life ≤ length (got starts past n life)
    → released_by starts past n life why (released starts past n life) ≤ length (got starts past n life)
released_by_within starts past n life because.Receive few h =
    released_one (is_open (status past n)) (eqb (lives past n) life) _ _ _ h
    (λ same live. subst
    (λ (l : ℕ). release_length starts past n (released starts past n l) ≤ cond (is_open (status past n)) (length (got starts past n l) - released starts past n l) 0)
    (eqb-true (lives past n) life same) (few refl live))
released_by_within starts past n life why few h = h

pub released_within : (starts : Starts) (past : Past) (n life : ℕ) → Legal starts past → released starts past n life ≤ length (got starts past n life)
released_within starts [] n life h = omega arith
released_within starts (Bus e a ∷ past) n life (may, h) =
    released_by_within starts past n life (cause past n (Bus e a)) (λ why takes. recv_within starts past n (access past e) why takes may.0) (released_within starts past n life h)
released_within starts (Rest ∷ past) n life (may, h) = released_within starts past n life h
released_within starts (Link m what ∷ past) n life (may, h) =
    omega (
      arith,
      longer_length _ _ (got_longer starts past (Link m what) n life),
      released_by_within starts past n life (cause past n (Link m what)) (λ e. absurd (never_asks (eqb m n) what e)) (released_within starts past n life h),
    )
