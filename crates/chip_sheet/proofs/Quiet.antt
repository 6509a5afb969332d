-- An entry that is nothing for a socket leaves it as it is.
use Rattle.std.proofs.Common.{◌≡◌, ℕ, ◌-◌, ◌%◌, zero, suc, Bool, true, false, not, ◌&&◌, ◌||◌, cond, eqb, List, [], ◌∷◌, length, Option, None, Some, refl, sym, ap, ◌∙◌}
use Rattle.std.specs.Option.{unwrap_or, option_or}
use Rattle.std.proofs.lemmas.Bool.{cond-false, and_left, and_right, or_right}
use Rattle.chip_sheet.specs.declared.event.Entry.{Entry}
use Rattle.chip_sheet.specs.declared.event.Entry.TheVariants.{Bus, Link, Rest}
use Rattle.chip_sheet.specs.declared.event.LinkEntry.{LinkEntry}
use Rattle.chip_sheet.specs.declared.event.LinkEntry.TheVariants.{Linked}
use Rattle.chip_sheet.specs.declared.phase.Access.{Access}
use Rattle.chip_sheet.specs.declared.phase.Access.TheVariants.{NoAccess, Read, Write}
use Rattle.chip_sheet.specs.declared.socket.Status.{Status}
use Rattle.chip_sheet.specs.declared.socket.Status.TheVariants.{Closed}
use Rattle.chip_sheet.specs.declared.socket.Cause.{Cause}
use Rattle.chip_sheet.specs.declared.socket.Cause.TheVariants as because
use Rattle.chip_sheet.specs.declared.socket.Interrupt.{Interrupt}
use Rattle.chip_sheet.specs.Past.{Past}
use Rattle.chip_sheet.specs.Frames.{access, access_of}
use Rattle.chip_sheet.specs.Bits.{has_bit}
use Rattle.chip_sheet.specs.Blocks.{registers_of, tx_buffer_of}
use Rattle.chip_sheet.specs.Registers.{is_reset, last_written, written_by}
use Rattle.chip_sheet.specs.Positions.{byte_of}
use Rattle.chip_sheet.specs.Life.{Life, Facts, life, life_after, lives_on, next, facts_of, cause, cause_by, happening, status, lives, is_closed, asks_link, old_after, closing}
use Rattle.chip_sheet.specs.Sizes.{tx_sizes, rx_sizes, tx_size, resizes}
use Rattle.chip_sheet.specs.Peers.{peer_byte, destination, source_port}
use Rattle.chip_sheet.specs.Streams.{Starts, sent, sent_by, ends, ends_by, destinations, destinations_by, taken, supplied, got, released, released_by, is_made, makes, is_of, is_open, tx_base, rx_base, pointer_after, pointer_byte, byte_after, byte_in, tx_byte, last_byte}
use Rattle.chip_sheet.specs.Windows.{flight, unread, is_opened, opened_after}
use Rattle.chip_sheet.specs.Buffers.{sending, receiving}
use Rattle.chip_sheet.specs.Interrupts.{raised_by_life, raised_by_bytes, raised_by, bits_by, interrupts, clears, raised, bit_value}
use Rattle.chip_sheet.specs.LinkCalls.{keeps_address, keeps_port, kept_address, kept_port, outgoing, incoming, outgoing_of, incoming_of}
use Rattle.chip_sheet.specs.Quiet.{writes_to, LeavesLife, Untouched, LeavesAll}
use Rattle.chip_sheet.proofs.LifeSteps.{life_cases}
use Rattle.chip_sheet.proofs.SizeLaws.{size_kept}

-- What is nothing for a socket is no reset, and no link event of it.
not_reset : (b : Bool) (why : Cause) → cond b because.Reset why ≡ because.Nothing → b ≡ false
not_reset true why h = cc
not_reset false why h = refl

no_reset_by : (past : Past) (n : ℕ) (made : Access) → cause_by past n made ≡ because.Nothing → is_reset made ≡ false
no_reset_by past n NoAccess h = refl
no_reset_by past n (Read block addr) h = refl
no_reset_by past n (Write block addr v) h = not_reset (is_reset (Write block addr v)) _ h

pub no_reset : (past : Past) (entry : Entry) (n : ℕ) → cause past n entry ≡ because.Nothing → is_reset (access_of past entry) ≡ false
no_reset past (Bus e a) n h = no_reset_by past n (access past e) h
no_reset past (Link m what) n h = refl
no_reset past Rest n h = refl

always_something : (what : LinkEntry) → happening what ≡ because.Nothing → ⊥
always_something Linked h = cc
always_something what h = cc

pub other_socket : (b : Bool) (what : LinkEntry) → cond b (happening what) because.Nothing ≡ because.Nothing → b ≡ false
other_socket true what h = absurd (always_something what h)
other_socket false what h = refl

-- The life.
or_false : (a : Bool) → (a || false) ≡ a
or_false true = refl
or_false false = refl

or_same : (a b : Bool) → (b ≡ true → a ≡ true) → (a || b) ≡ a
or_same true b h = refl
or_same false true h = sym (h refl)
or_same false false h = refl

never_closes : (c asked : Bool) (l : ℕ) → cond (not c && c && asked) (Some l) None ≡ None
never_closes true asked l = refl
never_closes false asked l = refl

old_same : (old closes : Option ℕ) → closes ≡ None → old_after because.Nothing closes old ≡ old
old_same None closes h = h
old_same (Some life) closes h = refl

stays_at : (at : Status) (facts : Facts) → next at because.Nothing facts ≡ at
stays_at Closed facts = refl
stays_at at facts = refl

on_same : (at : Life) → (asks_link at.status ≡ true → at.asked ≡ true) → lives_on at because.Nothing at.status ≡ at
on_same at h = λ i. record {
  status = at.status;
  lives = at.lives;
  ended = or_false at.ended i;
  shut = or_false at.shut i;
  asked = or_same at.asked (asks_link at.status) h i;
  old = old_same at.old (closing at at.status) (never_closes (is_closed at.status) at.asked at.lives) i;
}

pub quiet_life : (at : Life) → (asks_link at.status ≡ true → at.asked ≡ true) → life_after at because.Nothing ≡ at
quiet_life at h = ap (λ (s : Status). lives_on at because.Nothing s) (stays_at at.status (facts_of because.Nothing at)) ∙ on_same at h

asked_after : (at : Life) (why : Cause) → asks_link (life_after at why).status ≡ true → (life_after at why).asked ≡ true
asked_after at why =
    life_cases (λ (now : Life). asks_link now.status ≡ true → now.asked ≡ true) at why (λ h. h) (λ h. or_right at.asked (asks_link (next at.status why (facts_of why at))) h)

-- Where the link is asked for something it was asked in this life.
pub asks_asked : (past : Past) (n : ℕ) → asks_link (status past n) ≡ true → (life past n).asked ≡ true
asks_asked [] n h = cc
asks_asked (entry ∷ past) n h = asked_after (life past n) (cause past n entry) h

life_same : (past : Past) (entry : Entry) (n : ℕ) → cause past n entry ≡ because.Nothing → life (entry ∷ past) n ≡ life past n
life_same past entry n h = ap (life_after (life past n)) h ∙ quiet_life (life past n) (asks_asked past n)

-- The lists and counts.
taken_same : (past : Past) (entry : Entry) (n l : ℕ) → cause past n entry ≡ because.Nothing → taken (entry ∷ past) n l ≡ taken past n l
taken_same past (Bus e a) n l h = refl
taken_same past Rest n l h = refl
taken_same past (Link m what) n l h = cond-false (is_of past m n l) _ (taken past n l) (and_left (eqb m n) (eqb (lives past n) l) (other_socket (eqb m n) what h))

supplied_same : (past : Past) (entry : Entry) (n l : ℕ) → cause past n entry ≡ because.Nothing → supplied (entry ∷ past) n l ≡ supplied past n l
supplied_same past (Bus e a) n l h = refl
supplied_same past Rest n l h = refl
supplied_same past (Link m what) n l h = cond-false (is_of past m n l) _ (supplied past n l) (and_left (eqb m n) (eqb (lives past n) l) (other_socket (eqb m n) what h))

got_same : (starts : Starts) (past : Past) (entry : Entry) (n l : ℕ) → cause past n entry ≡ because.Nothing → got starts (entry ∷ past) n l ≡ got starts past n l
got_same starts past (Bus e a) n l h = refl
got_same starts past Rest n l h = refl
got_same starts past (Link m what) n l h = cond-false (is_of past m n l) _ (got starts past n l) (and_left (eqb m n) (eqb (lives past n) l) (other_socket (eqb m n) what h))

made_same : (past : Past) (entry : Entry) (n l : ℕ) → cause past n entry ≡ because.Nothing → is_made (entry ∷ past) n l ≡ is_made past n l
made_same past (Bus e a) n l h = refl
made_same past Rest n l h = refl
made_same past (Link m what) n l h =
    ap (λ (b : Bool). b || is_made past n l) (and_right (makes what) (is_of past m n l) (and_left (eqb m n) (eqb (lives past n) l) (other_socket (eqb m n) what h)))

sent_same : (starts : Starts) (past : Past) (entry : Entry) (n l : ℕ) → cause past n entry ≡ because.Nothing → sent starts (entry ∷ past) n l ≡ sent starts past n l
sent_same starts past entry n l h = ap (λ (why : Cause). sent_by starts past n l why (sent starts past n l)) h

ends_same : (starts : Starts) (past : Past) (entry : Entry) (n l : ℕ) → cause past n entry ≡ because.Nothing → ends starts (entry ∷ past) n l ≡ ends starts past n l
ends_same starts past entry n l h = ap (λ (why : Cause). ends_by starts past n l why (ends starts past n l)) h

destinations_same : (starts : Starts) (past : Past) (entry : Entry) (n l : ℕ) → cause past n entry ≡ because.Nothing → destinations starts (entry ∷ past) n l ≡ destinations starts past n l
destinations_same starts past entry n l h = ap (λ (why : Cause). destinations_by starts past n l why (destinations starts past n l)) h

released_same : (starts : Starts) (past : Past) (entry : Entry) (n l : ℕ) → cause past n entry ≡ because.Nothing → released starts (entry ∷ past) n l ≡ released starts past n l
released_same starts past entry n l h = ap (λ (why : Cause). released_by starts past n l why (released starts past n l)) h

opened_same : (past : Past) (entry : Entry) (n : ℕ) → cause past n entry ≡ because.Nothing → is_opened (entry ∷ past) n ≡ is_opened past n
opened_same past entry n h = ap (λ (why : Cause). opened_after why (status past n) (is_opened past n)) h

-- The windows.
flight_same : (starts : Starts) (past : Past) (entry : Entry) (n : ℕ) → cause past n entry ≡ because.Nothing → flight starts (entry ∷ past) n ≡ flight starts past n
flight_same starts past entry n h =
    ap (λ (at : Life). cond (is_open at.status) (length (sent starts (entry ∷ past) n at.lives) - taken (entry ∷ past) n at.lives) 0) (life_same past entry n h)
    ∙ ap (λ (s : List ℕ). cond (is_open (status past n)) (length s - taken (entry ∷ past) n (lives past n)) 0) (sent_same starts past entry n (lives past n) h)
    ∙ ap (λ (t : ℕ). cond (is_open (status past n)) (length (sent starts past n (lives past n)) - t) 0) (taken_same past entry n (lives past n) h)

unread_same : (starts : Starts) (past : Past) (entry : Entry) (n : ℕ) → cause past n entry ≡ because.Nothing → unread starts (entry ∷ past) n ≡ unread starts past n
unread_same starts past entry n h =
    ap (λ (at : Life). cond (is_open at.status) (length (got starts (entry ∷ past) n at.lives) - released starts (entry ∷ past) n at.lives) 0) (life_same past entry n h)
    ∙ ap (λ (g : List ℕ). cond (is_open (status past n)) (length g - released starts (entry ∷ past) n (lives past n)) 0) (got_same starts past entry n (lives past n) h)
    ∙ ap (λ (r : ℕ). cond (is_open (status past n)) (length (got starts past n (lives past n)) - r) 0) (released_same starts past entry n (lives past n) h)

-- What is kept for the link.
address_same : (past : Past) (entry : Entry) (n : ℕ) → cause past n entry ≡ because.Nothing → kept_address (entry ∷ past) n ≡ kept_address past n
address_same past entry n h = ap (λ (why : Cause). cond (keeps_address why (status past n)) (destination past n) (kept_address past n)) h

port_same : (past : Past) (entry : Entry) (n : ℕ) → cause past n entry ≡ because.Nothing → kept_port (entry ∷ past) n ≡ kept_port past n
port_same past entry n h = ap (λ (why : Cause). cond (keeps_port why (status past n)) (source_port past n) (kept_port past n)) h

-- No bit rises.
pub raises_nothing : (starts : Starts) (past : Past) (entry : Entry) (n : ℕ) (bit : Interrupt) → cause past n entry ≡ because.Nothing → raised_by starts past n bit entry ≡ false
raises_nothing starts past entry n bit h =
    ap (λ (why : Cause). raised_by_life why bit (status past n) || raised_by_bytes starts past n entry why bit (status past n)) h

none_of_bits : (starts : Starts) (past : Past) (entry : Entry) (n : ℕ) (bits : List Interrupt) → cause past n entry ≡ because.Nothing → bits_by starts past n entry bits ≡ 0
none_of_bits starts past entry n [] h = refl
none_of_bits starts past entry n (bit ∷ more) h =
    rw (cond-false (raised_by starts past n bit entry) (bit_value bit) 0 (raises_nothing starts past entry n bit h), none_of_bits starts past entry n more h) refl

pub leaves_life : (starts : Starts) (past : Past) (entry : Entry) (n : ℕ) → cause past n entry ≡ because.Nothing → LeavesLife starts past entry n
leaves_life starts past entry n h = record {
  life = life_same past entry n h;
  sent = λ l. sent_same starts past entry n l h;
  ends = λ l. ends_same starts past entry n l h;
  destinations = λ l. destinations_same starts past entry n l h;
  taken = λ l. taken_same past entry n l h;
  supplied = λ l. supplied_same past entry n l h;
  got = λ l. got_same starts past entry n l h;
  released = λ l. released_same starts past entry n l h;
  made = λ l. made_same past entry n l h;
  opened = opened_same past entry n h;
  flight = flight_same starts past entry n h;
  unread = unread_same starts past entry n h;
  address = address_same past entry n h;
  port = port_same past entry n h;
  bits = none_of_bits starts past entry n interrupts h;
}

-- The registers and the buffer.
pub not_written : (made : Access) (bits at : ℕ) → writes_to made bits ≡ false → written_by made bits at ≡ None
not_written NoAccess bits at h = refl
not_written (Read block addr) bits at h = refl
not_written (Write block addr v) bits at h = cond-false (eqb block bits && eqb addr at) (Some v) None (and_left (eqb block bits) (eqb addr at) h)

register_same : (past : Past) (entry : Entry) (n at : ℕ) → Untouched past entry n → last_written (entry ∷ past) (registers_of n) at ≡ last_written past (registers_of n) at
register_same past entry n at h =
    let before = last_written past (registers_of n) at in
    ap (λ (reset : Bool). cond reset None (option_or (written_by (access_of past entry) (registers_of n) at) before)) (no_reset past entry n h.nothing)
    ∙ ap (λ (w : Option ℕ). option_or w before) (not_written (access_of past entry) (registers_of n) at h.registers)

pub pointer_same : (past : Past) (entry : Entry) (n at start : ℕ) → cause past n entry ≡ because.Nothing → written_by (access_of past entry) (registers_of n) at ≡ None
    → pointer_byte (entry ∷ past) n at start ≡ pointer_byte past n at start
pointer_same past entry n at start h none =
    let before = pointer_byte past n at start in
    ap (λ (why : Cause). pointer_after why (status past n) start (written_by (access_of past entry) (registers_of n) at) before) h
    ∙ ap (λ (w : Option ℕ). unwrap_or w before) none

not_cleared : (made : Access) (n : ℕ) (bit : Interrupt) → is_reset made ≡ false → writes_to made (registers_of n) ≡ false → clears made n bit ≡ false
not_cleared NoAccess n bit on h = refl
not_cleared (Read block addr) n bit on h = refl
not_cleared (Write block addr v) n bit on h =
    ap (λ (b : Bool). b || (eqb block (registers_of n) && eqb addr 0x02 && has_bit v (bit_value bit))) on
    ∙ ap (λ (b : Bool). b && eqb addr 0x02 && has_bit v (bit_value bit)) h

bit_same : (starts : Starts) (past : Past) (entry : Entry) (n : ℕ) (bit : Interrupt) → Untouched past entry n → raised starts (entry ∷ past) n bit ≡ raised starts past n bit
bit_same starts past entry n bit h =
    ap (λ (c : Bool). not c && (raised_by starts past n bit entry || raised starts past n bit)) (not_cleared (access_of past entry) n bit (no_reset past entry n h.nothing) h.registers)
    ∙ ap (λ (r : Bool). r || raised starts past n bit) (raises_nothing starts past entry n bit h.nothing)

peer_same : (past : Past) (entry : Entry) (n at reset : ℕ) → Untouched past entry n → peer_byte (entry ∷ past) n at reset ≡ peer_byte past n at reset
peer_same past (Bus e a) n at reset h =
    let before = peer_byte past n at reset in
    ap (λ (b : Bool). cond b reset (unwrap_or (written_by (access past e) (registers_of n) at) before)) (no_reset past (Bus e a) n h.nothing)
    ∙ ap (λ (w : Option ℕ). unwrap_or w before) (not_written (access past e) (registers_of n) at h.registers)
peer_same past (Link m what) n at reset h = cond-false (eqb m n) _ (peer_byte past n at reset) (other_socket (eqb m n) what h.nothing)
peer_same past Rest n at reset h = refl

-- The TX buffer.
pub byte_kept : (past : Past) (made : Access) (n size at before : ℕ) → is_reset made ≡ false → resizes past tx_sizes made ≡ false → writes_to made (tx_buffer_of n) ≡ false
    → byte_after past made n size at before ≡ before
byte_kept past NoAccess n size at before on same h = refl
byte_kept past (Read block addr) n size at before on same h = refl
byte_kept past (Write block addr v) n size at before on same h =
    let here = eqb (addr % size) (at % size) in
    ap (λ (b : Bool). cond (b || resizes past tx_sizes (Write block addr v)) 0 (cond (eqb block (tx_buffer_of n) && here) v before)) on
    ∙ ap (λ (b : Bool). cond b 0 (cond (eqb block (tx_buffer_of n) && here) v before)) same
    ∙ ap (λ (b : Bool). cond (b && here) v before) h

byte_in_kept : (past : Past) (entry : Entry) (n size at : ℕ) → Untouched past entry n → byte_in (entry ∷ past) n size at ≡ byte_in past n size at
byte_in_kept past entry n zero at h = refl
byte_in_kept past entry n (suc most) at h =
    byte_kept past (access_of past entry) n (suc most) at (last_byte past n (suc most) at) (no_reset past entry n h.nothing) h.tx_sizes h.buffer

tx_same : (past : Past) (entry : Entry) (n at : ℕ) → Untouched past entry n → tx_byte (entry ∷ past) n at ≡ tx_byte past n at
tx_same past entry n at h =
    ap (λ (size : ℕ). byte_in (entry ∷ past) n size at) (size_kept past entry tx_sizes n (no_reset past entry n h.nothing) h.tx_sizes)
    ∙ byte_in_kept past entry n (tx_size past n) at h

-- Where positions begin.
tx_base_same : (starts : Starts) (past : Past) (entry : Entry) (n : ℕ) → LeavesLife starts past entry n → tx_base starts (entry ∷ past) n (lives (entry ∷ past) n) ≡ tx_base starts past n (lives past n)
tx_base_same starts past entry n h =
    ap (λ (at : Life). cond (is_made (entry ∷ past) n at.lives) starts.tx 0) h.life ∙ ap (λ (b : Bool). cond b starts.tx 0) (h.made (lives past n))

rx_base_same : (starts : Starts) (past : Past) (entry : Entry) (n : ℕ) → LeavesLife starts past entry n → rx_base starts (entry ∷ past) n (lives (entry ∷ past) n) ≡ rx_base starts past n (lives past n)
rx_base_same starts past entry n h =
    ap (λ (at : Life). cond (is_made (entry ∷ past) n at.lives) starts.rx 0) h.life ∙ ap (λ (b : Bool). cond b starts.rx 0) (h.made (lives past n))

-- A number, and a list, that count where a life was opened.
opened_number : (opened opened2 : Bool) (x y : ℕ) → opened2 ≡ opened → x ≡ y → cond opened2 x 0 ≡ cond opened y 0
opened_number opened opened2 x y e f = ap (λ (b : Bool). cond b x 0) e ∙ ap (λ (z : ℕ). cond opened z 0) f

opened_list : (opened opened2 : Bool) (x y : List ℕ) → opened2 ≡ opened → x ≡ y → cond opened2 x [] ≡ cond opened y []
opened_list opened opened2 x y e f = ap (λ (b : Bool). cond b x []) e ∙ ap (λ (z : List ℕ). cond opened z []) f

-- What is said of each life is said of the present one.
of_present : (f g : ℕ → List ℕ) (before now : Life) → now ≡ before → ((l : ℕ) → f l ≡ g l) → f now.lives ≡ g before.lives
of_present f g before now e h = ap (λ (at : Life). f at.lives) e ∙ h before.lives

sending_same : (starts : Starts) (past : Past) (entry : Entry) (n : ℕ) → Untouched past entry n → LeavesLife starts past entry n → sending starts (entry ∷ past) n ≡ sending starts past n
sending_same starts past entry n h on = λ i. record {
  size = size_kept past entry tx_sizes n (no_reset past entry n h.nothing) h.tx_sizes i;
  tx = λ at. tx_same past entry n at h i;
  base = opened_number (is_opened past n) (is_opened (entry ∷ past) n) (tx_base starts (entry ∷ past) n (lives (entry ∷ past) n)) (tx_base starts past n (lives past n)) on.opened (tx_base_same starts past entry n on) i;
  sent = opened_list (is_opened past n) (is_opened (entry ∷ past) n) (sent starts (entry ∷ past) n (lives (entry ∷ past) n)) (sent starts past n (lives past n)) on.opened
      (of_present (sent starts (entry ∷ past) n) (sent starts past n) (life past n) (life (entry ∷ past) n) on.life on.sent) i;
  flight = on.flight i;
  ends = opened_list (is_opened past n) (is_opened (entry ∷ past) n) (ends starts (entry ∷ past) n (lives (entry ∷ past) n)) (ends starts past n (lives past n)) on.opened
      (of_present (ends starts (entry ∷ past) n) (ends starts past n) (life past n) (life (entry ∷ past) n) on.life on.ends) i;
  wr_high = pointer_same past entry n 0x24 (byte_of 0 starts.tx) h.nothing (not_written (access_of past entry) (registers_of n) 0x24 h.registers) i;
  wr_low = pointer_same past entry n 0x25 (byte_of 1 starts.tx) h.nothing (not_written (access_of past entry) (registers_of n) 0x25 h.registers) i;
}

receiving_same : (starts : Starts) (past : Past) (entry : Entry) (n : ℕ) → Untouched past entry n → LeavesLife starts past entry n → receiving starts (entry ∷ past) n ≡ receiving starts past n
receiving_same starts past entry n h on = λ i. record {
  size = size_kept past entry rx_sizes n (no_reset past entry n h.nothing) h.rx_sizes i;
  base = opened_number (is_opened past n) (is_opened (entry ∷ past) n) (rx_base starts (entry ∷ past) n (lives (entry ∷ past) n)) (rx_base starts past n (lives past n)) on.opened (rx_base_same starts past entry n on) i;
  got = opened_list (is_opened past n) (is_opened (entry ∷ past) n) (got starts (entry ∷ past) n (lives (entry ∷ past) n)) (got starts past n (lives past n)) on.opened
      (of_present (got starts (entry ∷ past) n) (got starts past n) (life past n) (life (entry ∷ past) n) on.life on.got) i;
  unread = on.unread i;
  rd_high = pointer_same past entry n 0x28 (byte_of 0 starts.rx) h.nothing (not_written (access_of past entry) (registers_of n) 0x28 h.registers) i;
  rd_low = pointer_same past entry n 0x29 (byte_of 1 starts.rx) h.nothing (not_written (access_of past entry) (registers_of n) 0x29 h.registers) i;
}

-- What is due.
pub outgoing_same : (starts : Starts) (past : Past) (entry : Entry) (n : ℕ) → LeavesLife starts past entry n → outgoing starts (entry ∷ past) n ≡ outgoing starts past n
outgoing_same starts past entry n on = λ i. outgoing_of n (on.life i) (on.address i) (on.port i) (on.flight i)

incoming_same : (starts : Starts) (past : Past) (entry : Entry) (n : ℕ) → Untouched past entry n → LeavesLife starts past entry n → incoming starts (entry ∷ past) n ≡ incoming starts past n
incoming_same starts past entry n h on =
    λ i. incoming_of n (on.life i) (on.port i) (size_kept past entry rx_sizes n (no_reset past entry n h.nothing) h.rx_sizes i - on.unread i)

pub leaves_all : (starts : Starts) (past : Past) (entry : Entry) (n : ℕ) → Untouched past entry n → LeavesAll starts past entry n
leaves_all starts past entry n h =
    let on = leaves_life starts past entry n h.nothing in
    record {
      life = on;
      registers = λ at. register_same past entry n at h;
      peer = λ at reset. peer_same past entry n at reset h;
      bits = λ bit. bit_same starts past entry n bit h;
      sending = sending_same starts past entry n h on;
      receiving = receiving_same starts past entry n h on;
      outgoing = outgoing_same starts past entry n on;
      incoming = incoming_same starts past entry n h on;
    }
