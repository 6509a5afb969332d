-- How many destinations the present life of a UDP socket has: one for each datagram that the link took, and one more while one is in
-- flight.
use Rattle.std.proofs.Common.{◌≡◌, ◌≤◌, ◌<◌, ℕ, ◌+◌, ◌-◌, Bool, true, false, not, ◌&&◌, cond, eqb, List, [], ◌∷◌, ◌++◌, length, length-append, Option, inl, inr, refl, sym, ap, ◌∙◌, subst, arith}
use Rattle.std.proofs.lemmas.Bool.{cond-true, cond-false, eq-eqb, ne_eqb, and_right, or_cases, false≢true}
use Rattle.board_bus.specs.declared.event.BusEvent.{BusEvent}
use Rattle.board_bus.specs.declared.event.BusAnswer.{BusAnswer}
use Rattle.chip_sheet.specs.declared.event.Addr.{Addr}
use Rattle.chip_sheet.specs.declared.event.ConnId.{ConnId}
use Rattle.chip_sheet.specs.declared.event.Entry.{Entry}
use Rattle.chip_sheet.specs.declared.event.Entry.TheVariants.{Bus, Link, Rest}
use Rattle.chip_sheet.specs.declared.event.LinkEntry.{LinkEntry}
use Rattle.chip_sheet.specs.declared.event.LinkEntry.TheVariants.{Took}
use Rattle.chip_sheet.specs.declared.socket.Status.{Status}
use Rattle.chip_sheet.specs.declared.socket.Status.TheVariants.{Udp}
use Rattle.chip_sheet.specs.declared.socket.Cause.{Cause}
use Rattle.chip_sheet.specs.declared.socket.Cause.TheVariants as because
use Rattle.chip_sheet.specs.declared.socket.Due.{Due}
use Rattle.chip_sheet.specs.declared.socket.Due.TheVariants as due
use Rattle.chip_sheet.specs.Past.{Past}
use Rattle.chip_sheet.specs.Life.{life, is_udp, cause, status, lives, old}
use Rattle.chip_sheet.specs.Peers.{destination}
use Rattle.chip_sheet.specs.Streams.{Starts, is_of, is_open, sent, range, range_length, sends_datagram, destinations, destinations_by, taken, taken_by, tx_byte}
use Rattle.chip_sheet.specs.Windows.{flight, rx_free}
use Rattle.chip_sheet.specs.LinkCalls.{answers_call, fits, outgoing, incoming, connection, kept_address, kept_port}
use Rattle.chip_sheet.specs.Legal.{Legal}
use Rattle.chip_sheet.proofs.SentLaws.{sent_same}
use Rattle.chip_sheet.proofs.Within.{taken_within, both_same}
use Rattle.chip_sheet.proofs.FitLaws.{begun_sent}
use Rattle.chip_sheet.proofs.LifeSteps.{lives_grow}
use Rattle.chip_sheet.proofs.DatagramLaws.{taken_whole}
use Rattle.chip_shared.specs.Tied.{takes, times_taken}
use Rattle.chip_shared.proofs.DueFacts.{Says, out_of, in_of}
use Rattle.chip_shared.proofs.Destination.{no_link_sends, send_cases, destinations_same, idle_before, sent_now, udp_from, udp_open, range_long}

-- An entry of another life.
other_life : (starts : Starts) (past : Past) (n l : ℕ) (why : Cause) (before : List Addr) → (lives past n ≡ l → ⊥) → destinations_by starts past n l why before ≡ before
other_life starts past n l because.Send before h =
    cond-false (sends_datagram starts past n l) _ before
    (by (is_udp (status past n)) (eqb (lives past n) l) (not (eqb (range_length starts past n (length (sent starts past n l))) 0)) (ne_eqb (lives past n) l h))
  where
    by : (a b c : Bool) → b ≡ false → (a && b && c) ≡ false
    by true true c k = cc
    by true false c k = refl
    by false b c k = refl
other_life starts past n l why before h = refl

unborn_destinations : (starts : Starts) (past : Past) (n l : ℕ) → lives past n < l → destinations starts past n l ≡ []
unborn_destinations starts [] n l h = refl
unborn_destinations starts (entry ∷ past) n l h =
    let grow = lives_grow (life past n) (cause past n entry) in
    other_life starts past n l (cause past n entry) (destinations starts past n l) (λ (e : lives past n ≡ l). omega (arith, grow, h, e))
    ∙ unborn_destinations starts past n l (omega (arith, grow, h))

times_other : (past : Past) (entry : Entry) (n l : ℕ) → (lives past n ≡ l → ⊥) → times_taken (entry ∷ past) n l ≡ times_taken past n l
times_other past (Link m what) n l h = cond-false (is_of past m n l) _ _ (and_right (eqb m n) (eqb (lives past n) l) (ne_eqb (lives past n) l h))
times_other past (Bus e a) n l h = refl
times_other past Rest n l h = refl

unborn_times : (past : Past) (n l : ℕ) → lives past n < l → times_taken past n l ≡ 0
unborn_times [] n l h = refl
unborn_times (entry ∷ past) n l h =
    let grow = lives_grow (life past n) (cause past n entry) in
    times_other past entry n l (λ (e : lives past n ≡ l). omega (arith, grow, h, e)) ∙ unborn_times past n l (omega (arith, grow, h))

-- So many destinations, where so many datagrams were taken, while so many bytes are in flight.
pub record Counted (flight count times : ℕ) : Type 0 where
  pub some : 0 < flight → count ≡ times + 1
  pub none : flight ≡ 0 → count ≡ times

-- A Took in UDP finds a datagram in flight.
took_flies : (at : Status) (c : ConnId) (to : Addr) (fl free k : ℕ) (o : Option ℕ) (call : Due) → Says at c to fl o call → at ≡ Udp → answers_call call fl free (Took k) ≡ true → 0 < fl
took_flies at c to fl free k o (due.Write d) says udp h = absurd (false≢true (sym says.1.1.0 ∙ ap is_udp udp))
took_flies at c to fl free k o (due.SendTo d port a) says udp h = says.1.1.1
took_flies at c to fl free k o call says udp h = cc

flies_where_taken : (starts : Starts) (past : Past) (n k : ℕ) → status past n ≡ Udp → fits starts past n (Took k) ≡ true → 0 < flight starts past n
flies_where_taken starts past n k udp h =
    let at = life past n in
    let fl = flight starts past n in
    let fr = rx_free starts past n in
    let to = kept_address past n in
    elim (or_cases (answers_call (outgoing starts past n) fl fr (Took k)) (answers_call (incoming starts past n) fl fr (Took k)) h) [
      | inl out ↦ took_flies at.status (connection n at.lives) to fl fr k (old past n) (outgoing starts past n) (out_of n at to (kept_port past n) fl (old past n) refl) udp out
      | inr in_ ↦ took_flies at.status (connection n at.lives) to fl fr k (old past n) (incoming starts past n) (in_of n at to (kept_port past n) fl fr (old past n) refl) udp in_
    ]

is_udp_is : (at : Status) → is_udp at ≡ true → at ≡ Udp
is_udp_is Udp h = refl
is_udp_is at h = cc

abbrev one : Bool → ℕ
one true = 1
one false = 0

-- What a SEND adds.
adds : (starts : Starts) (past : Past) (n : ℕ) (why : Cause) → why ≡ because.Send → is_udp (status past n) ≡ true
    → length (destinations_by starts past n (lives past n) why (destinations starts past n (lives past n)))
    ≡ length (destinations starts past n (lives past n)) + one (not (eqb (range_length starts past n (length (sent starts past n (lives past n)))) 0))
adds starts past n why is udp =
    let l = lives past n in
    let d = destinations starts past n l in
    let r = range_length starts past n (length (sent starts past n l)) in
    ap (λ (w : Cause). length (destinations_by starts past n l w d)) is
    ∙ ap (λ (b : Bool). length (cond (b && eqb l l && not (eqb r 0)) (d ++ destination past n ∷ []) d)) udp
    ∙ ap (λ (b : Bool). length (cond (b && not (eqb r 0)) (d ++ destination past n ∷ []) d)) (eq-eqb l l refl)
    ∙ by (not (eqb r 0)) d (destination past n)
  where
    by : (b : Bool) (d : List Addr) (to : Addr) → length (cond b (d ++ to ∷ []) d) ≡ length d + one b
    by true d to = length-append d (to ∷ [])
    by false d to = omega arith

one_where : (r : ℕ) → (r ≡ 0 → one (not (eqb r 0)) ≡ 0) × (0 < r → one (not (eqb r 0)) ≡ 1)
one_where r = ((λ e. ap (λ (b : Bool). one (not b)) (eq-eqb r 0 e)), (λ h. ap (λ (b : Bool). one (not b)) (ne_eqb r 0 (λ e. omega (arith, e, h)))))

step_bus : (starts : Starts) (past : Past) (e : BusEvent) (a : BusAnswer) (n : ℕ) → Legal starts (Bus e a ∷ past) → is_udp (status past n) ≡ true
    → Counted (flight starts past n) (length (destinations starts past n (lives past n))) (times_taken past n (lives past n))
    → Counted (length (sent starts (Bus e a ∷ past) n (lives past n)) - taken past n (lives past n)) (length (destinations starts (Bus e a ∷ past) n (lives past n))) (times_taken past n (lives past n))
step_bus starts past e a n legal udp before =
    let l = lives past n in
    let s = sent starts past n l in
    let t = taken past n l in
    let is : flight starts past n ≡ length s - t = cond-true (is_open (status past n)) (length s - t) 0 (udp_open (status past n) udp) in
    elim (send_cases (cause past n (Bus e a))) [
      | inl why ↦
          let r = range_length starts past n (length s) in
          let idle = idle_before starts past (Bus e a) n legal why udp in
          let within = taken_within starts past n l legal.1 in
          let long = ap length (sent_now starts past (Bus e a) n why udp) in
          let count : length (range starts past n (length s)) ≡ r = range_long (tx_byte past n) _ r in
          let all = length-append s (range starts past n (length s)) in
          let more = adds starts past n (cause past n (Bus e a)) why udp in
          let one = one_where r in
          let was = before.none idle in
          record {
            some = λ some. let it = one.1 (omega (arith, idle, is, within, long, count, all, some)) in omega (arith, more, it, was);
            none = λ none. let it = one.0 (omega (arith, idle, is, within, long, count, all, none)) in omega (arith, more, it, was);
          }
      | inr other ↦
          let long = ap length (sent_same starts past (Bus e a) n l other) in
          let same = ap length (destinations_same starts past n l (cause past n (Bus e a)) (destinations starts past n l) other) in
          record {
            some = λ some. let it = before.some (omega (arith, is, long, some)) in omega (arith, same, it);
            none = λ none. let it = before.none (omega (arith, is, long, none)) in omega (arith, same, it);
          }
    ]

-- What a link event makes of the counts of its own life.
own : (starts : Starts) (past : Past) (n : ℕ) (what : LinkEntry) (f s t count times : ℕ) → status past n ≡ Udp → fits starts past n what ≡ true → f ≡ flight starts past n → f ≡ s - t → t ≤ s
    → Counted f count times → Counted (s - (t + taken_by what)) count (times + takes what)
own starts past n (Took k) f s t count times udp fit same is within before =
    let whole = taken_whole starts past n k udp fit in
    let flies = flies_where_taken starts past n k udp fit in
    let was = before.some (omega (arith, same, flies)) in
    record {
      some = λ some. absurd (omega (arith, whole, same, is, some));
      none = λ none. omega (arith, was);
    }
own starts past n what f s t count times udp fit same is within before = record {
  some = λ some. let it = before.some (omega (arith, is, some)) in omega (arith, it);
  none = λ none. let it = before.none (omega (arith, is, none)) in omega (arith, it);
}

own_or_not : (b : Bool) (s t k count times j : ℕ) → (b ≡ true → Counted (s - (t + k)) count (times + j)) → Counted (s - t) count times → Counted (s - cond b (t + k) t) count (cond b (times + j) times)
own_or_not true s t k count times j h before = h refl
own_or_not false s t k count times j h before = before

step_link : (starts : Starts) (past : Past) (m : ℕ) (what : LinkEntry) (n : ℕ) → Legal starts (Link m what ∷ past) → is_udp (status past n) ≡ true
    → Counted (flight starts past n) (length (destinations starts past n (lives past n))) (times_taken past n (lives past n))
    → Counted (length (sent starts (Link m what ∷ past) n (lives past n)) - taken (Link m what ∷ past) n (lives past n)) (length (destinations starts (Link m what ∷ past) n (lives past n)))
    (times_taken (Link m what ∷ past) n (lives past n))
step_link starts past m what n legal udp before =
    let l = lives past n in
    let s = length (sent starts past n l) in
    let t = taken past n l in
    let d = length (destinations starts past n l) in
    let u = times_taken past n l in
    let is : flight starts past n ≡ s - t = cond-true (is_open (status past n)) (s - t) 0 (udp_open (status past n) udp) in
    let none = no_link_sends (eqb m n) what in
    let long = ap length (sent_same starts past (Link m what) n l none) in
    let same = ap length (destinations_same starts past n l (cause past n (Link m what)) (destinations starts past n l) none) in
    let at = is_udp_is (status past n) udp in
    let within = taken_within starts past n l legal.1 in
    let now : Counted (s - t) d u = subst (λ (f : ℕ). Counted f d u) is before in
    rw (long, same) (own_or_not (is_of past m n l) s t (taken_by what) d u (takes what)
    (λ of_it. own starts past n what (flight starts past n) s t d u at (subst (λ (k : ℕ). fits starts past k what ≡ true) (both_same m n l l of_it).0 legal.0.1) refl is within before)
    now)

step : (starts : Starts) (past : Past) (entry : Entry) (n : ℕ) → Legal starts (entry ∷ past) → is_udp (status past n) ≡ true
    → Counted (flight starts past n) (length (destinations starts past n (lives past n))) (times_taken past n (lives past n))
    → Counted (length (sent starts (entry ∷ past) n (lives past n)) - taken (entry ∷ past) n (lives past n)) (length (destinations starts (entry ∷ past) n (lives past n)))
    (times_taken (entry ∷ past) n (lives past n))
step starts past (Bus e a) n legal udp before = step_bus starts past e a n legal udp before
step starts past (Link m what) n legal udp before = step_link starts past m what n legal udp before
step starts past Rest n legal udp before =
    let s = length (sent starts past n (lives past n)) in
    let t = taken past n (lives past n) in
    let is : flight starts past n ≡ s - t = cond-true (is_open (status past n)) (s - t) 0 (udp_open (status past n) udp) in
    subst (λ (f : ℕ). Counted f (length (destinations starts past n (lives past n))) (times_taken past n (lives past n))) is before

pub counted : (starts : Starts) (past : Past) (n : ℕ) → Legal starts past → is_udp (status past n) ≡ true
    → Counted (flight starts past n) (length (destinations starts past n (lives past n))) (times_taken past n (lives past n))
counted starts [] n legal udp = cc
counted starts (entry ∷ past) n legal udp =
    let now = entry ∷ past in
    let is : flight starts now n ≡ length (sent starts now n (lives now n)) - taken now n (lives now n) =
    cond-true (is_open (status now n)) (length (sent starts now n (lives now n)) - taken now n (lives now n)) 0 (udp_open (status now n) udp) in
    rw is (elim (udp_from (life past n) (cause past n entry) udp) [
      | inl (same, was) ↦
          subst (λ (l : ℕ). Counted (length (sent starts now n l) - taken now n l) (length (destinations starts now n l)) (times_taken now n l)) (sym same)
          (step starts past entry n legal was (counted starts past n legal.1 was))
      | inr begun ↦
          subst (λ (l : ℕ). Counted (length (sent starts now n l) - taken now n l) (length (destinations starts now n l)) (times_taken now n l)) (sym begun)
          (fresh starts past entry n)
    ])
  where
    fresh : (starts : Starts) (past : Past) (entry : Entry) (n : ℕ)
        → Counted (length (sent starts (entry ∷ past) n (lives past n + 1)) - taken (entry ∷ past) n (lives past n + 1)) (length (destinations starts (entry ∷ past) n (lives past n + 1)))
        (times_taken (entry ∷ past) n (lives past n + 1))
    fresh starts past entry n =
        let l = lives past n + 1 in
        let sent_none = ap length (begun_sent starts past entry n) in
        let none = ap length (other_life starts past n l (cause past n entry) (destinations starts past n l) (λ (e : lives past n ≡ l). omega (arith, e)) ∙ unborn_destinations starts past n l (omega arith)) in
        let zero_times = times_other past entry n l (λ (e : lives past n ≡ l). omega (arith, e)) ∙ unborn_times past n l (omega arith) in
        record {
          some = λ some. absurd (omega (arith, sent_none, some));
          none = λ idle. omega (arith, none, zero_times);
        }
