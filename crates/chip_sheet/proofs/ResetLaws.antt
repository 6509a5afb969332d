-- What a reset leaves of the sockets.
use Rattle.std.proofs.Common.{◌≡◌, ℕ, ◌+◌, zero, suc, true, ◌||◌, cond, None, ◌∷◌, refl, ap}
use Rattle.std.proofs.lemmas.Bool.{cond-true, or_left}
use Rattle.chip_sheet.specs.declared.phase.Access.{Access}
use Rattle.chip_sheet.specs.declared.phase.Access.TheVariants.{NoAccess, Read, Write}
use Rattle.chip_sheet.specs.declared.socket.Status.{Status}
use Rattle.chip_sheet.specs.declared.socket.Status.TheVariants.{Closed}
use Rattle.chip_sheet.specs.declared.socket.Cause.{Cause}
use Rattle.chip_sheet.specs.declared.socket.Cause.TheVariants as because
use Rattle.chip_sheet.specs.declared.event.Entry.{Entry}
use Rattle.chip_sheet.specs.declared.event.Entry.TheVariants.{Bus, Link, Rest}
use Rattle.chip_sheet.specs.Past.{Past}
use Rattle.chip_sheet.specs.Frames.{access, access_of}
use Rattle.chip_sheet.specs.Registers.{is_reset}
use Rattle.chip_sheet.specs.Positions.{found_among}
use Rattle.chip_sheet.specs.Sizes.{tx_size, rx_size, resizes, tx_sizes}
use Rattle.chip_sheet.specs.Life.{cause, cause_by, life, life_after, status, lives}
use Rattle.chip_sheet.specs.Streams.{Starts, byte_after, byte_in, tx_byte, is_open, rx_base, released}
use Rattle.chip_sheet.specs.Windows.{flight, unread, unread_byte, rx_byte}

reset_by : (past : Past) (n : ℕ) (made : Access) → is_reset made ≡ true → cause_by past n made ≡ because.Reset
reset_by past n NoAccess h = cc
reset_by past n (Read block addr) h = cc
reset_by past n (Write block addr v) h = cond-true (is_reset (Write block addr v)) because.Reset _ h

pub reset_cause : (past : Past) (entry : Entry) (n : ℕ) → is_reset (access_of past entry) ≡ true → cause past n entry ≡ because.Reset
reset_cause past (Bus e a) n h = reset_by past n (access past e) h
reset_cause past (Link m what) n h = cc
reset_cause past Rest n h = cc

pub reset_closes : (past : Past) (entry : Entry) (n : ℕ) → is_reset (access_of past entry) ≡ true → status (entry ∷ past) n ≡ Closed
reset_closes past entry n h = ap (λ (why : Cause). (life_after (life past n) why).status) (reset_cause past entry n h)

pub reset_keeps_lives : (past : Past) (entry : Entry) (n : ℕ) → is_reset (access_of past entry) ≡ true → lives (entry ∷ past) n ≡ lives past n
reset_keeps_lives past entry n h = ap (λ (why : Cause). (life_after (life past n) why).lives) (reset_cause past entry n h)

none_open : (at : Status) (count : ℕ) → at ≡ Closed → cond (is_open at) count 0 ≡ 0
none_open at count h = ap (λ (s : Status). cond (is_open s) count 0) h

pub closed_flight : (starts : Starts) (past : Past) (n : ℕ) → status past n ≡ Closed → flight starts past n ≡ 0
closed_flight starts past n h = none_open (status past n) _ h

pub closed_unread : (starts : Starts) (past : Past) (n : ℕ) → status past n ≡ Closed → unread starts past n ≡ 0
closed_unread starts past n h = none_open (status past n) _ h

pub reset_windows : (starts : Starts) (past : Past) (entry : Entry) (n : ℕ) → is_reset (access_of past entry) ≡ true → (flight starts (entry ∷ past) n ≡ 0) × (unread starts (entry ∷ past) n ≡ 0)
reset_windows starts past entry n h =
    let closed = reset_closes past entry n h in
    (closed_flight starts (entry ∷ past) n closed, closed_unread starts (entry ∷ past) n closed)

cleared : (past : Past) (made : Access) (n size at before : ℕ) → is_reset made ≡ true → byte_after past made n size at before ≡ 0
cleared past NoAccess n size at before h = cc
cleared past (Read block addr) n size at before h = cc
cleared past (Write block addr v) n size at before h =
    cond-true (is_reset (Write block addr v) || resizes past tx_sizes (Write block addr v)) 0 _ (or_left _ (resizes past tx_sizes (Write block addr v)) h)

cleared_in : (past : Past) (entry : Entry) (n size at : ℕ) → is_reset (access_of past entry) ≡ true → byte_in (entry ∷ past) n size at ≡ 0
cleared_in past entry n zero at h = refl
cleared_in past entry n (suc most) at h = cleared past (access_of past entry) n (suc most) at _ h

pub reset_clears : (past : Past) (entry : Entry) (n addr : ℕ) → is_reset (access_of past entry) ≡ true → tx_byte (entry ∷ past) n addr ≡ 0
reset_clears past entry n addr h = cleared_in past entry n (tx_size (entry ∷ past) n) addr h

found_in_none : (at count size addr : ℕ) → count ≡ 0 → found_among at count size addr ≡ None
found_in_none at count zero addr h = refl
found_in_none at count (suc most) addr h = rw h refl

pub closed_rx : (starts : Starts) (past : Past) (n addr : ℕ) → status past n ≡ Closed → rx_byte starts past n addr ≡ 0
closed_rx starts past n addr h =
    ap (unread_byte starts past n)
    (found_in_none (rx_base starts past n (lives past n) + released starts past n (lives past n)) (unread starts past n) (rx_size past n) addr (closed_unread starts past n h))

pub reset_empties_rx : (starts : Starts) (past : Past) (entry : Entry) (n addr : ℕ) → is_reset (access_of past entry) ≡ true → rx_byte starts (entry ∷ past) n addr ≡ 0
reset_empties_rx starts past entry n addr h = closed_rx starts (entry ∷ past) n addr (reset_closes past entry n h)
