-- In a legal history each byte in flight stands in the TX buffer at the place of its position.
use Rattle.std.proofs.Common.{◌≡◌, ◌≤◌, ◌<◌, ℕ, ◌+◌, ◌-◌, ◌*◌, ◌%◌, zero, suc, Bool, true, false, not, ◌&&◌, ◌||◌, cond, eqb, List, [], ◌∷◌, ◌++◌, length, length-append, get_or, Option, None, Some, inl, inr, refl, sym, ap, ◌∙◌, subst, arith, ◌⊎◌}
use Rattle.std.specs.Prelude.{slice_index}
use Rattle.std.specs.Option.{is_some}
use Rattle.std.proofs.lemmas.Bool.{cases_Bool, cases_lt, cond-true, cond-false, and_left, and_right, and_parts, eqb-true, eq-eqb, false_from_ne_true, false≢true}
use Rattle.std.proofs.lemmas.List.{get_or_append_left, get_or-append_right}
use Rattle.chip_sheet.specs.declared.block.Block.{Block}
use Rattle.chip_sheet.specs.declared.block.Block.TheVariants.{Registers}
use Rattle.chip_sheet.specs.declared.event.Entry.{Entry}
use Rattle.chip_sheet.specs.declared.event.Entry.TheVariants.{Bus, Link, Rest}
use Rattle.chip_sheet.specs.declared.event.LinkEntry.{LinkEntry}
use Rattle.chip_sheet.specs.declared.event.LinkEntry.TheVariants.{Linked}
use Rattle.chip_sheet.specs.declared.phase.Access.{Access}
use Rattle.chip_sheet.specs.declared.phase.Access.TheVariants.{NoAccess, Read, Write}
use Rattle.chip_sheet.specs.declared.socket.Cause.{Cause}
use Rattle.chip_sheet.specs.declared.socket.Cause.TheVariants as because
use Rattle.chip_sheet.specs.declared.socket.Status.{Status}
use Rattle.chip_sheet.specs.declared.socket.Status.TheVariants.{Closed, Init, Listen, SynSent}
use Rattle.chip_sheet.specs.declared.stop.ChipStop.{ChipStop}
use Rattle.chip_sheet.specs.declared.stop.ChipStop.TheVariants.{SizeWhileOpen, OverwriteInFlight}
use Rattle.chip_sheet.specs.Past.{Past}
use Rattle.chip_sheet.specs.Frames.{access, access_of}
use Rattle.chip_sheet.specs.Blocks.{sockets, registers_of, tx_buffer_of, block_of}
use Rattle.chip_sheet.specs.Registers.{is_reset}
use Rattle.chip_sheet.specs.Life.{cause, happening, status, lives, is_closed}
use Rattle.chip_sheet.specs.Sizes.{rx_sizes, tx_sizes, tx_size, resizes, resizes_block}
use Rattle.chip_sheet.specs.Sending.{bytes_from}
use Rattle.chip_sheet.specs.Streams.{Starts, is_of, is_open, makes, is_made, sent, sent_by, takes_send, range, range_length, taken, taken_by, tx_base, byte_after, byte_in, tx_byte, last_byte}
use Rattle.chip_sheet.specs.Windows.{flight, in_flight_at}
use Rattle.chip_sheet.specs.LinkCalls.{fits}
use Rattle.chip_sheet.specs.Stops.{BlockAccess, Writes, block_access, where_it, any_open, size_while_open, overwrite, overwrite_in_flight}
use Rattle.chip_sheet.specs.Legal.{Legal}
use Rattle.chip_sheet.proofs.StopRows.{no_row, none_there, commands, send_access}
use Rattle.chip_sheet.proofs.ResetLaws.{reset_closes}
use Rattle.chip_sheet.proofs.ResetRestores.{tx_block}
use Rattle.chip_sheet.proofs.SizeLaws.{some_open, sizes_after}
use Rattle.chip_sheet.proofs.Places.{flight_exact}
use Rattle.chip_sheet.proofs.LifeSteps.{is_fresh, was_alive, fresh_sent, sent_by_fresh}
use Rattle.chip_sheet.proofs.FitLaws.{begun_sent}
use Rattle.chip_sheet.proofs.Within.{both_same}
use Rattle.chip_sheet.proofs.MadeLaws.{made_fresh}

open_closed : (at : Status) → is_open at ≡ true → is_closed at ≡ false
open_closed Closed h = cc
open_closed at h = refl

-- While a socket is open no entry clears the memory.
neither : (rx tx any : Bool) → ((rx || tx) && any) ≡ false → any ≡ true → tx ≡ false
neither false false any h k = refl
neither true tx any h k = cc
neither false true any h k = cc

no_resize_in : (past : Past) (bits : ℕ) (block : Block) (addr v : ℕ) → size_while_open past (Writes bits block addr v) ≡ None → any_open past sockets ≡ true → resizes_block past tx_sizes block addr v ≡ false
no_resize_in past bits (Registers n) addr v h some =
    neither (resizes_block past rx_sizes (Registers n) addr v) (resizes_block past tx_sizes (Registers n) addr v) (any_open past sockets)
    (none_there ((resizes_block past rx_sizes (Registers n) addr v || resizes_block past tx_sizes (Registers n) addr v) && any_open past sockets) (SizeWhileOpen n) h) some
no_resize_in past bits block addr v h some = refl

no_resize : (past : Past) (made : Access) → size_while_open past (block_access made) ≡ None → any_open past sockets ≡ true → resizes past tx_sizes made ≡ false
no_resize past (Write bits addr v) h some = no_resize_in past bits (block_of bits) addr v h some
no_resize past made h some = refl

keeps_sizes : (starts : Starts) (past : Past) (entry : Entry) (n : ℕ) → n < 8 → Legal starts (entry ∷ past) → is_open (status past n) ≡ true → resizes past tx_sizes (access_of past entry) ≡ false
keeps_sizes starts past (Bus e a) n below legal on =
    no_resize past (access past e) (no_row starts past (block_access (access past e)) legal.0.0).size (some_open past n below (open_closed (status past n) on))
keeps_sizes starts past (Link m what) n below legal on = refl
keeps_sizes starts past Rest n below legal on = refl

no_reset_open : (past : Past) (entry : Entry) (n : ℕ) → is_open (status (entry ∷ past) n) ≡ true → is_reset (access_of past entry) ≡ false
no_reset_open past entry n on =
    false_from_ne_true (is_reset (access_of past entry)) (λ h. false≢true (ap is_open (sym (reset_closes past entry n h)) ∙ on))

-- So a byte stays that is not written.
byte_stays : (past : Past) (made : Access) (n size at before : ℕ) → is_reset made ≡ false → resizes past tx_sizes made ≡ false
    → ((addr v : ℕ) → made ≡ Write (tx_buffer_of n) addr v → addr % size ≡ at % size → ⊥) → byte_after past made n size at before ≡ before
byte_stays past NoAccess n size at before on same away = refl
byte_stays past (Read block addr) n size at before on same away = refl
byte_stays past (Write block addr v) n size at before on same away =
    ap (λ (b : Bool). cond (b || resizes past tx_sizes (Write block addr v)) 0 (cond (eqb block (tx_buffer_of n) && eqb (addr % size) (at % size)) v before)) on
    ∙ ap (λ (b : Bool). cond b 0 (cond (eqb block (tx_buffer_of n) && eqb (addr % size) (at % size)) v before)) same
    ∙ cond-false (eqb block (tx_buffer_of n) && eqb (addr % size) (at % size)) v before
    (false_from_ne_true (eqb block (tx_buffer_of n) && eqb (addr % size) (at % size)) (λ h.
    let parts = and_parts (eqb block (tx_buffer_of n)) (eqb (addr % size) (at % size)) h in
    away addr v (ap (λ (b : ℕ). Write b addr v) (eqb-true block (tx_buffer_of n) parts.0)) (eqb-true (addr % size) (at % size) parts.1)))

byte_in_stays : (past : Past) (entry : Entry) (n size at : ℕ) → is_reset (access_of past entry) ≡ false → resizes past tx_sizes (access_of past entry) ≡ false
    → ((addr v : ℕ) → access_of past entry ≡ Write (tx_buffer_of n) addr v → 0 < size → addr % size ≡ at % size → ⊥) → byte_in (entry ∷ past) n size at ≡ byte_in past n size at
byte_in_stays past entry n zero at on same away = refl
byte_in_stays past entry n (suc most) at on same away =
    byte_stays past (access_of past entry) n (suc most) at (last_byte past n (suc most) at) on same (λ addr v is place. away addr v is (omega arith) place)

-- No write reaches the place of a byte in flight.
free_place : (starts : Starts) (past : Past) (entry : Entry) (n j addr v : ℕ) → Legal starts (entry ∷ past) → access_of past entry ≡ Write (tx_buffer_of n) addr v
    → j < flight starts past n → 0 < tx_size past n → addr % tx_size past n ≡ (tx_base starts past n (lives past n) + taken past n (lives past n) + j) % tx_size past n → ⊥
free_place starts past (Bus e a) n j addr v legal is below some place =
    let row = (no_row starts past (block_access (access past e)) legal.0.0).overwrite in
    let same = ap block_access is ∙ ap (λ (b : Block). Writes (tx_buffer_of n) b addr v) (tx_block n) in
    let none = sym (ap (overwrite_in_flight starts past) same) ∙ row in
    let found = (flight_exact starts past n addr).1 (some, (j, below, sym place)) in
    met (in_flight_at starts past n addr) none found
  where
    met : (o : Option ℕ) → overwrite n (tx_size past n) addr o ≡ None → is_some o ≡ true → ⊥
    met None h k = cc
    met (Some i) h k = cc
free_place starts past (Link m what) n j addr v legal is below some place = cc
free_place starts past Rest n j addr v legal is below some place = cc

open_not_fresh : (at : Status) → is_open at ≡ true → is_fresh at ≡ false
open_not_fresh Init h = cc
open_not_fresh Listen h = cc
open_not_fresh SynSent h = cc
open_not_fresh at h = refl

-- Where positions begin stays while the socket is open.
made_open : (starts : Starts) (past : Past) (entry : Entry) (n : ℕ) → Legal starts (entry ∷ past) → is_open (status past n) ≡ true → is_made (entry ∷ past) n (lives past n) ≡ is_made past n (lives past n)
made_open starts past (Bus e a) n legal on = refl
made_open starts past Rest n legal on = refl
made_open starts past (Link m what) n legal on =
    ap (λ (b : Bool). b || is_made past n (lives past n)) (false_from_ne_true (makes what && is_of past m n (lives past n)) (λ h.
    let parts = and_parts (makes what) (is_of past m n (lives past n)) h in
    let e = both_same m n (lives past n) (lives past n) parts.1 in
    made_fresh starts past n what parts.0 (subst (λ (k : ℕ). fits starts past k what ≡ true) e.0 legal.0.1) (open_not_fresh (status past n) on)))

-- A SEND writes to no buffer.
block_of_access : Access → ℕ
block_of_access NoAccess = 0
block_of_access (Read bits addr) = 0
block_of_access (Write bits addr v) = bits

no_buffer : (n addr v : ℕ) → Write (registers_of n) 0x01 0x20 ≡ Write (tx_buffer_of n) addr v → ⊥
unfolding block_of_access
no_buffer n addr v h = let e : 4 * n + 1 ≡ 4 * n + 2 = ap block_of_access h in omega (arith, e)

-- What an entry leaves of the sent bytes: the same, or a SEND added its range.
sent_cases : (starts : Starts) (past : Past) (n : ℕ) (why : Cause) (before : List ℕ)
    → (sent_by starts past n (lives past n) why before ≡ before) ⊎ ((why ≡ because.Send) × (sent_by starts past n (lives past n) why before ≡ before ++ range starts past n (length before)))
sent_cases starts past n because.Send before = by (takes_send past n (lives past n))
  where
    by : (b : Bool) → (cond b (before ++ range starts past n (length before)) before ≡ before) ⊎ ((because.Send ≡ because.Send) × (cond b (before ++ range starts past n (length before)) before ≡ before ++ range starts past n (length before)))
    by true = inr (refl, refl)
    by false = inl refl
sent_cases starts past n why before = inl refl

send_is_bus : (b : Bool) (what : LinkEntry) → cond b (happening what) because.Nothing ≡ because.Send → ⊥
send_is_bus true Linked h = cc
send_is_bus true what h = cc
send_is_bus false what h = cc

send_away : (past : Past) (entry : Entry) (n addr v : ℕ) → cause past n entry ≡ because.Send → access_of past entry ≡ Write (tx_buffer_of n) addr v → ⊥
send_away past (Bus e a) n addr v why is = no_buffer n addr v (sym (send_access past n (access past e) why) ∙ is)
send_away past (Link m what) n addr v why is = send_is_bus (eqb m n) what why
send_away past Rest n addr v why is = cc

-- The bytes of a range.
range_at : (f : ℕ → ℕ) (at count j : ℕ) → j < count → slice_index (bytes_from f at count) j ≡ f (at + j)
range_at f at zero j below = absurd (omega (arith, below))
range_at f at (suc count) zero below = ap f (omega arith)
range_at f at (suc count) (suc j) below = range_at f (at + 1) count j (omega (arith, below)) ∙ ap f (omega arith)

taken_less : (past : Past) (entry : Entry) (n l : ℕ) → taken past n l ≤ taken (entry ∷ past) n l
taken_less past (Bus e a) n l = omega arith
taken_less past Rest n l = omega arith
taken_less past (Link m what) n l = by (is_of past m n l) (taken past n l) (taken_by what)
  where
    by : (b : Bool) (t k : ℕ) → t ≤ cond b (t + k) t
    by true t k = omega arith
    by false t k = omega arith

range_long : (f : ℕ → ℕ) (at count : ℕ) → length (bytes_from f at count) ≡ count
range_long f at zero = refl
range_long f at (suc count) = ap suc (range_long f (at + 1) count)

-- The byte at a position that is not written stays.
at_position : (starts : Starts) (past : Past) (entry : Entry) (n q : ℕ) → n < 8 → Legal starts (entry ∷ past) → is_open (status past n) ≡ true → is_open (status (entry ∷ past) n) ≡ true
    → ((addr v : ℕ) → access_of past entry ≡ Write (tx_buffer_of n) addr v → 0 < tx_size past n → addr % tx_size past n ≡ (tx_base starts past n (lives past n) + q) % tx_size past n → ⊥)
    → tx_byte (entry ∷ past) n (tx_base starts (entry ∷ past) n (lives past n) + q) ≡ tx_byte past n (tx_base starts past n (lives past n) + q)
at_position starts past entry n q below legal was on away =
    ap (λ (b : Bool). tx_byte (entry ∷ past) n (cond b starts.tx 0 + q)) (made_open starts past entry n legal was)
    ∙ ap (λ (size : ℕ). byte_in (entry ∷ past) n size (tx_base starts past n (lives past n) + q)) ((sizes_after starts past entry n below legal (open_closed (status (entry ∷ past) n) on)).tx n)
    ∙ byte_in_stays past entry n (tx_size past n) (tx_base starts past n (lives past n) + q) (no_reset_open past entry n on) (keeps_sizes starts past entry n below legal was) away

-- Each sent byte that was not taken stands.
Stands : Starts → Past → ℕ → ℕ → Type 0
Stands starts past n l = (q : ℕ) → taken past n l ≤ q → q < length (sent starts past n l) → tx_byte past n (tx_base starts past n l + q) ≡ slice_index (sent starts past n l) q

none_stands : (starts : Starts) (past : Past) (n l : ℕ) → sent starts past n l ≡ [] → Stands starts past n l
unfolding Stands
none_stands starts past n l none q from to = let zero_long = ap length none in absurd (omega (arith, zero_long, to))

stands_on : (starts : Starts) (past : Past) (entry : Entry) (n : ℕ) → n < 8 → Legal starts (entry ∷ past) → is_open (status past n) ≡ true → is_open (status (entry ∷ past) n) ≡ true
    → Stands starts past n (lives past n) → Stands starts (entry ∷ past) n (lives past n)
unfolding Stands
stands_on starts past entry n below legal was on before q from to =
    let l = lives past n in
    let s = sent starts past n l in
    let t = taken past n l in
    let base = tx_base starts past n l in
    let less = taken_less past entry n l in
    elim (cases_lt q (length s)) [
      | inl old ↦
          let is : flight starts past n ≡ length s - t = cond-true (is_open (status past n)) (length s - t) 0 was in
          let back : base + t + (q - t) ≡ base + q = omega (arith, from, less) in
          at_position starts past entry n q below legal was on
          (λ addr v made some place. free_place starts past entry n (q - t) addr v legal made (omega (arith, is, old, from, less)) some (place ∙ ap (λ (x : ℕ). x % tx_size past n) (sym back)))
          ∙ before q (omega (arith, from, less)) old
          ∙ elim (sent_cases starts past n (cause past n entry) s) [
            | inl same ↦ ap (λ (x : List ℕ). slice_index x q) (sym same)
            | inr (why, more) ↦ sym (get_or_append_left s (range starts past n (length s)) 0 q old) ∙ ap (λ (x : List ℕ). slice_index x q) (sym more)
          ]
      | inr new ↦ elim (sent_cases starts past n (cause past n entry) s) [
        | inl same ↦ let long = ap length same in absurd (omega (arith, long, new, to))
        | inr (why, more) ↦
            let r = range_length starts past n (length s) in
            let long = ap length more in
            let count : length (range starts past n (length s)) ≡ r = range_long (tx_byte past n) (base + length s) r in
            let all = length-append s (range starts past n (length s)) in
            let place : base + length s + (q - length s) ≡ base + q = omega (arith, new) in
            at_position starts past entry n q below legal was on (λ addr v made some place. send_away past entry n addr v why made)
            ∙ ap (tx_byte past n) (sym place)
            ∙ sym (range_at (tx_byte past n) (base + length s) r (q - length s) (omega (arith, new, to, long, count, all)))
            ∙ sym (get_or-append_right s (range starts past n (length s)) (length s) q 0 refl new)
            ∙ ap (λ (x : List ℕ). slice_index x q) (sym more)
      ]
    ]

stand : (starts : Starts) (past : Past) (n : ℕ) → n < 8 → Legal starts past → is_open (status past n) ≡ true → Stands starts past n (lives past n)
stand starts [] n below legal on = cc
stand starts (entry ∷ past) n below legal on =
    elim (was_alive past entry n on).from [
      | inl (same, inl was) ↦ subst (Stands starts (entry ∷ past) n) (sym same) (stands_on starts past entry n below legal was on (stand starts past n below legal.1 was))
      | inl (same, inr fresh) ↦
          subst (Stands starts (entry ∷ past) n) (sym same)
          (none_stands starts (entry ∷ past) n (lives past n) (sent_by_fresh starts past n (lives past n) (cause past n entry) (sent starts past n (lives past n)) fresh ∙ fresh_sent starts past n fresh))
      | inr begun ↦ subst (Stands starts (entry ∷ past) n) (sym begun) (none_stands starts (entry ∷ past) n (lives past n + 1) (begun_sent starts past entry n))
    ]

open_flight : (b : Bool) (x : ℕ) (j : ℕ) → j < cond b x 0 → (b ≡ true) × (j < x)
open_flight true x j h = (refl, h)
open_flight false x j h = absurd (omega (arith, h))

pub sent_stand : (starts : Starts) (past : Past) (n j : ℕ) → n < 8 → Legal starts past → j < flight starts past n
    → tx_byte past n (tx_base starts past n (lives past n) + taken past n (lives past n) + j) ≡ slice_index (sent starts past n (lives past n)) (taken past n (lives past n) + j)
unfolding Stands
sent_stand starts past n j below legal h =
    let l = lives past n in
    let it = open_flight (is_open (status past n)) (length (sent starts past n l) - taken past n l) j h in
    let less = it.1 in
    ap (tx_byte past n) (omega arith) ∙ stand starts past n below legal it.0 (taken past n l + j) (omega arith) (omega (arith, less))
