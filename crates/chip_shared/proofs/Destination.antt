-- The datagram in flight goes to the kept address.
use Rattle.std.proofs.Common.{◌≡◌, ◌≤◌, ◌<◌, ℕ, ◌+◌, ◌-◌, zero, suc, Bool, true, false, not, ◌&&◌, cond, eqb, ltb, List, [], ◌∷◌, ◌++◌, length, length-append, inl, inr, refl, sym, ap, ◌∙◌, subst, arith, ◌⊎◌}
use Rattle.std.proofs.lemmas.Bool.{cond-true, cond-false, cond_both, eq-eqb, ltb-false, ne_eqb}
use Rattle.chip_sheet.specs.declared.event.Addr.{Addr}
use Rattle.chip_sheet.specs.declared.event.Entry.{Entry}
use Rattle.chip_sheet.specs.declared.event.Entry.TheVariants.{Bus, Link, Rest}
use Rattle.chip_sheet.specs.declared.event.LinkEntry.{LinkEntry}
use Rattle.chip_sheet.specs.declared.event.LinkEntry.TheVariants.{Linked}
use Rattle.chip_sheet.specs.declared.socket.Status.{Status}
use Rattle.chip_sheet.specs.declared.socket.Status.TheVariants.{Init, Udp}
use Rattle.chip_sheet.specs.declared.socket.Cause.{Cause}
use Rattle.chip_sheet.specs.declared.socket.Cause.TheVariants as because
use Rattle.chip_sheet.specs.declared.stop.ChipStop.TheVariants.{SendBusy}
use Rattle.chip_sheet.specs.Past.{Past}
use Rattle.chip_sheet.specs.Frames.{access}
use Rattle.chip_sheet.specs.Life.{Life, life, life_after, lives_on, new_life, next, facts_of, begins, is_udp, cause, happening, status, lives}
use Rattle.chip_sheet.specs.Peers.{destination}
use Rattle.chip_sheet.specs.Sending.{bytes_from}
use Rattle.chip_sheet.specs.Streams.{Starts, is_of, is_open, sends, sent, sent_by, range, range_length, destinations, destinations_by, taken, taken_by, tx_byte}
use Rattle.chip_sheet.specs.Windows.{flight}
use Rattle.chip_sheet.specs.LinkCalls.{keeps_address, kept_address}
use Rattle.chip_sheet.specs.Legal.{Legal}
use Rattle.chip_sheet.proofs.SentLaws.{sent_same}
use Rattle.chip_sheet.proofs.StopRows.{none_there, free_command, send_access}
use Rattle.chip_sheet.proofs.FitLaws.{begun_sent}
use Rattle.chip_sheet.proofs.MadeLaws.{udp_next}

abbrev IsLast : List Addr → Addr → Type 0
IsLast all to = (before : List Addr) × (all ≡ before ++ to ∷ [])

pub udp_from : (at : Life) (why : Cause) → is_udp (life_after at why).status ≡ true → (((life_after at why).lives ≡ at.lives) × (is_udp at.status ≡ true)) ⊎ ((life_after at why).lives ≡ at.lives + 1)
udp_from at why =
    let after = next at.status why (facts_of why at) in
    cond_both (begins why at.status) (new_life at after) (lives_on at why after)
    (λ (now : Life). is_udp now.status ≡ true → ((now.lives ≡ at.lives) × (is_udp at.status ≡ true)) ⊎ (now.lives ≡ at.lives + 1))
    (λ new h. inr refl) (λ old h. inl (refl, udp_next at.status why (facts_of why at) old h))

pub send_cases : (why : Cause) → (why ≡ because.Send) ⊎ (why ≡ because.Send → ⊥)
send_cases because.Send = inl refl
send_cases why = inr (λ h. cc)

pub udp_open : (at : Status) → is_udp at ≡ true → is_open at ≡ true
udp_open Udp h = refl
udp_open at h = cc

udp_sends : (at : Status) → is_udp at ≡ true → sends at ≡ true
udp_sends Udp h = refl
udp_sends at h = cc

udp_keeps : (at : Status) → is_udp at ≡ true → keeps_address because.Send at ≡ true
udp_keeps Udp h = refl
udp_keeps at h = cc

keeps_no : (why : Cause) (at : Status) → is_udp at ≡ true → (why ≡ because.Send → ⊥) → keeps_address why at ≡ false
keeps_no because.Send at udp other = absurd (other refl)
keeps_no because.Connect Init udp other = cc
keeps_no because.Connect at udp other = refl
keeps_no why at udp other = refl

pub destinations_same : (starts : Starts) (past : Past) (n l : ℕ) (why : Cause) (before : List Addr) → (why ≡ because.Send → ⊥) → destinations_by starts past n l why before ≡ before
destinations_same starts past n l because.Send before other = absurd (other refl)
destinations_same starts past n l why before other = refl

taken_less : (past : Past) (entry : Entry) (n l : ℕ) → taken past n l ≤ taken (entry ∷ past) n l
taken_less past (Bus e a) n l = omega arith
taken_less past Rest n l = omega arith
taken_less past (Link m what) n l = by (is_of past m n l) (taken past n l) (taken_by what)
  where
    by : (b : Bool) (t k : ℕ) → t ≤ cond b (t + k) t
    by true t k = omega arith
    by false t k = omega arith

pub range_long : (f : ℕ → ℕ) (at count : ℕ) → length (bytes_from f at count) ≡ count
range_long f at zero = refl
range_long f at (suc count) = ap suc (range_long f (at + 1) count)

flies : (b : Bool) (x : ℕ) → 0 < cond b x 0 → 0 < x
flies true x h = h
flies false x h = absurd (omega (arith, h))

-- What is in flight of the present life after an entry.
pub flies_now : (starts : Starts) (past : Past) (entry : Entry) (n l : ℕ) → lives (entry ∷ past) n ≡ l → 0 < flight starts (entry ∷ past) n → 0 < length (sent starts (entry ∷ past) n l) - taken (entry ∷ past) n l
flies_now starts past entry n l same h =
    subst (λ (k : ℕ). 0 < length (sent starts (entry ∷ past) n k) - taken (entry ∷ past) n k) same
    (flies (is_open (status (entry ∷ past) n)) (length (sent starts (entry ∷ past) n (lives (entry ∷ past) n)) - taken (entry ∷ past) n (lives (entry ∷ past) n)) h)

-- A SEND in UDP finds nothing in flight.
udp_idle : (udp : Bool) (fl : ℕ) → (true && udp && ltb 0 fl) ≡ false → udp ≡ true → fl ≡ 0
udp_idle true fl h k = let none = ltb-false 0 fl h in omega (arith, none)
udp_idle false fl h k = cc

pub no_link_sends : (b : Bool) (what : LinkEntry) → cond b (happening what) because.Nothing ≡ because.Send → ⊥
no_link_sends true Linked h = cc
no_link_sends true what h = cc
no_link_sends false what h = cc

pub idle_before : (starts : Starts) (past : Past) (entry : Entry) (n : ℕ) → Legal starts (entry ∷ past) → cause past n entry ≡ because.Send → is_udp (status past n) ≡ true → flight starts past n ≡ 0
idle_before starts past (Bus e a) n legal why udp =
    let row = (free_command starts past n (access past e) 0x20 (send_access past n (access past e) why) legal.0.0).busy in
    udp_idle (is_udp (status past n)) (flight starts past n) (none_there _ (SendBusy n) row) udp
idle_before starts past (Link m what) n legal why udp = absurd (no_link_sends (eqb m n) what why)
idle_before starts past Rest n legal why udp = cc

-- A SEND after which something is in flight is a datagram's.
pub sent_now : (starts : Starts) (past : Past) (entry : Entry) (n : ℕ) → cause past n entry ≡ because.Send → is_udp (status past n) ≡ true
    → sent starts (entry ∷ past) n (lives past n) ≡ sent starts past n (lives past n) ++ range starts past n (length (sent starts past n (lives past n)))
sent_now starts past entry n why udp =
    let s = sent starts past n (lives past n) in
    ap (λ (w : Cause). sent_by starts past n (lives past n) w s) why
    ∙ ap (λ (b : Bool). cond (b && eqb (lives past n) (lives past n)) (s ++ range starts past n (length s)) s) (udp_sends (status past n) udp)
    ∙ ap (λ (b : Bool). cond b (s ++ range starts past n (length s)) s) (eq-eqb (lives past n) (lives past n) refl)

by_send : (starts : Starts) (past : Past) (entry : Entry) (n : ℕ) → Legal starts (entry ∷ past) → cause past n entry ≡ because.Send → is_udp (status past n) ≡ true
    → 0 < length (sent starts (entry ∷ past) n (lives past n)) - taken (entry ∷ past) n (lives past n) → IsLast (destinations starts (entry ∷ past) n (lives past n)) (kept_address (entry ∷ past) n)
by_send starts past entry n legal why udp some =
    let l = lives past n in
    let s = sent starts past n l in
    let d = destinations starts past n l in
    let r = range_length starts past n (length s) in
    let idle = idle_before starts past entry n legal why udp in
    let is : flight starts past n ≡ length s - taken past n l = cond-true (is_open (status past n)) (length s - taken past n l) 0 (udp_open (status past n) udp) in
    let less = taken_less past entry n l in
    let long = ap length (sent_now starts past entry n why udp) in
    let count : length (range starts past n (length s)) ≡ r = range_long (tx_byte past n) _ r in
    let all = length-append s (range starts past n (length s)) in
    let some_range : r ≡ 0 → ⊥ = λ (e : r ≡ 0). omega (arith, e, idle, is, less, long, count, all, some) in
    let added : destinations starts (entry ∷ past) n l ≡ d ++ destination past n ∷ [] =
    ap (λ (w : Cause). destinations_by starts past n l w d) why
    ∙ ap (λ (b : Bool). cond (b && eqb l l && not (eqb r 0)) (d ++ destination past n ∷ []) d) udp
    ∙ ap (λ (b : Bool). cond (b && not (eqb r 0)) (d ++ destination past n ∷ []) d) (eq-eqb l l refl)
    ∙ ap (λ (b : Bool). cond (not b) (d ++ destination past n ∷ []) d) (ne_eqb r 0 some_range) in
    let kept : kept_address (entry ∷ past) n ≡ destination past n =
    ap (λ (w : Cause). cond (keeps_address w (status past n)) (destination past n) (kept_address past n)) why
    ∙ cond-true (keeps_address because.Send (status past n)) (destination past n) (kept_address past n) (udp_keeps (status past n) udp) in
    (d, added ∙ ap (λ (to : Addr). d ++ to ∷ []) (sym kept))

by_other : (starts : Starts) (past : Past) (entry : Entry) (n : ℕ) → (cause past n entry ≡ because.Send → ⊥) → is_udp (status past n) ≡ true
    → IsLast (destinations starts past n (lives past n)) (kept_address past n) → IsLast (destinations starts (entry ∷ past) n (lives past n)) (kept_address (entry ∷ past) n)
by_other starts past entry n other udp (before, e) =
    let kept : kept_address (entry ∷ past) n ≡ kept_address past n =
    cond-false (keeps_address (cause past n entry) (status past n)) (destination past n) (kept_address past n) (keeps_no (cause past n entry) (status past n) udp other) in
    (before, destinations_same starts past n (lives past n) (cause past n entry) (destinations starts past n (lives past n)) other ∙ e ∙ ap (λ (to : Addr). before ++ to ∷ []) (sym kept))

pub addressed : (starts : Starts) (past : Past) (n : ℕ) → Legal starts past → is_udp (status past n) ≡ true → 0 < flight starts past n
    → (before : List Addr) × (destinations starts past n (lives past n) ≡ before ++ kept_address past n ∷ [])
addressed starts [] n legal udp some = cc
addressed starts (entry ∷ past) n legal udp some =
    elim (udp_from (life past n) (cause past n entry) udp) [
      | inl (same, was) ↦
          let now = flies_now starts past entry n (lives past n) same some in
          subst (λ (l : ℕ). IsLast (destinations starts (entry ∷ past) n l) (kept_address (entry ∷ past) n)) (sym same)
          (elim (send_cases (cause past n entry)) [
            | inl why ↦ by_send starts past entry n legal why was now
            | inr other ↦
                let s = sent starts past n (lives past n) in
                let t = taken past n (lives past n) in
                let is : flight starts past n ≡ length s - t = cond-true (is_open (status past n)) (length s - t) 0 (udp_open (status past n) was) in
                let long = ap length (sent_same starts past entry n (lives past n) other) in
                let less = taken_less past entry n (lives past n) in
                by_other starts past entry n other was (addressed starts past n legal.1 was (omega (arith, is, long, less, now)))
          ])
      | inr begun ↦
          let now = flies_now starts past entry n (lives past n + 1) begun some in
          let none = ap length (begun_sent starts past entry n) in
          absurd (omega (arith, now, none))
    ]
