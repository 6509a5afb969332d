-- After a reset everything but the numbers of lives is as it is after power-on.
use Rattle.std.proofs.Common.{◌≡◌, ℕ, ◌+◌, ◌-◌, ◌*◌, ◌/◌, ◌%◌, zero, suc, Bool, true, false, not, ◌&&◌, ◌||◌, cond, eqb, List, [], ◌∷◌, map, length, Option, None, Some, refl, sym, ap, ◌∙◌, arith}
use Rattle.std.specs.Option.{unwrap_or, option_or}
use Rattle.std.proofs.lemmas.Bool.{cond-true, or_left, ne_eqb, eq-eqb, cond-false}
use Rattle.chip_sheet.specs.declared.block.Block.{Block}
use Rattle.chip_sheet.specs.declared.block.Block.TheVariants.{Common, Registers, TxBuffer, RxBuffer, Reserved}
use Rattle.chip_sheet.specs.declared.event.Entry.{Entry}
use Rattle.chip_sheet.specs.declared.event.Entry.TheVariants.{Bus, Link, Rest}
use Rattle.chip_sheet.specs.declared.phase.Access.{Access}
use Rattle.chip_sheet.specs.declared.phase.Access.TheVariants.{NoAccess, Read, Write}
use Rattle.chip_sheet.specs.declared.socket.Cause.{Cause}
use Rattle.chip_sheet.specs.declared.socket.Cause.TheVariants as because
use Rattle.chip_sheet.specs.declared.socket.Status.{Status}
use Rattle.chip_sheet.specs.declared.socket.Status.TheVariants.{Closed}
use Rattle.chip_sheet.specs.declared.socket.Interrupt.{Interrupt}
use Rattle.chip_sheet.specs.Past.{Past}
use Rattle.chip_sheet.specs.Frames.{access, access_of}
use Rattle.chip_sheet.specs.Bits.{has_bit}
use Rattle.chip_sheet.specs.Blocks.{sockets, registers_of, tx_buffer_of, rx_buffer_of, block_of}
use Rattle.chip_sheet.specs.CommonBlock.{common_place}
use Rattle.chip_sheet.specs.Registers.{is_reset, last_written, written_by, common_register, shown}
use Rattle.chip_sheet.specs.Positions.{byte_of}
use Rattle.chip_sheet.specs.Life.{status, lives, status_code}
use Rattle.chip_sheet.specs.Sizes.{kilobytes, are_valid, size, tx_sizes, rx_sizes, tx_size, rx_size}
use Rattle.chip_sheet.specs.Peers.{peer_byte}
use Rattle.chip_sheet.specs.Streams.{Starts, sent, ends, got, tx_base, rx_base, pointer_after, pointer_byte, byte_in, tx_byte}
use Rattle.chip_sheet.specs.Windows.{flight, unread, tx_free, is_opened, opened_after, tx_rd, rx_wr, rx_byte, sent_position, received_position}
use Rattle.chip_sheet.specs.Sending.{Sending, fresh}
use Rattle.chip_sheet.specs.Receiving as receiving_of
use Rattle.chip_sheet.specs.Buffers.{sending, receiving}
use Rattle.chip_sheet.specs.Interrupts.{interrupts, bit_value, clears, raised, raised_by, sum_of, interrupt_register, mask, any_masked_in, asks, sir_from, sir_register, any_enabled, enabled_sockets, interrupt_low}
use Rattle.chip_sheet.specs.SocketBlock.{Shows, Written, Constant, Peer, Raised, Code, TxFree, TxRead, TxWrite, RxUnread, RxRead, RxWrite, shown_by, socket_place, socket_register}
use Rattle.chip_sheet.specs.Answers.{common_byte, byte_at}
use Rattle.chip_sheet.proofs.ResetLaws.{reset_cause, reset_closes, reset_windows, reset_clears, reset_empties_rx}

-- Nothing is written.
pub none_written : (past : Past) (entry : Entry) (block at : ℕ) → is_reset (access_of past entry) ≡ true → last_written (entry ∷ past) block at ≡ None
none_written past entry block at h =
    cond-true (is_reset (access_of past entry)) None (option_or (written_by (access_of past entry) block at) (last_written past block at)) h

-- The sizes are 2 KB each.
kilobytes_two : (past : Past) (entry : Entry) (sizes n : ℕ) → is_reset (access_of past entry) ≡ true → kilobytes (entry ∷ past) sizes n ≡ 2
kilobytes_two past entry sizes n h = ap (λ (w : Option ℕ). unwrap_or w 2) (none_written past entry (registers_of n) sizes h)

map_two : (f : ℕ → ℕ) (ns : List ℕ) → ((n : ℕ) → f n ≡ 2) → map f ns ≡ map (λ (n : ℕ). 2) ns
map_two f [] h = refl
map_two f (n ∷ more) h = ap (λ (x : ℕ). x ∷ map f more) (h n) ∙ ap (λ (xs : List ℕ). 2 ∷ xs) (map_two f more h)

size_two : (past : Past) (entry : Entry) (sizes n : ℕ) → is_reset (access_of past entry) ≡ true → size (entry ∷ past) sizes n ≡ 2048
size_two past entry sizes n h =
    ap (λ (ks : List ℕ). cond (are_valid ks) (kilobytes (entry ∷ past) sizes n * 1024) 0) (map_two (kilobytes (entry ∷ past) sizes) sockets (λ k. kilobytes_two past entry sizes k h))
    ∙ ap (λ (k : ℕ). k * 1024) (kilobytes_two past entry sizes n h)

-- The pointers are 0.
pointer_zero : (starts : Starts) (past : Past) (entry : Entry) (n at start : ℕ) → is_reset (access_of past entry) ≡ true → pointer_byte (entry ∷ past) n at start ≡ 0
pointer_zero starts past entry n at start h =
    ap (λ (why : Cause). pointer_after why (status past n) start (written_by (access_of past entry) (registers_of n) at) (pointer_byte past n at start)) (reset_cause past entry n h)

not_opened : (past : Past) (entry : Entry) (n : ℕ) → is_reset (access_of past entry) ≡ true → is_opened (entry ∷ past) n ≡ false
not_opened past entry n h = ap (λ (why : Cause). opened_after why (status past n) (is_opened past n)) (reset_cause past entry n h)

-- Every interrupt bit is cleared.
clears_all : (made : Access) (n : ℕ) (bit : Interrupt) → is_reset made ≡ true → clears made n bit ≡ true
clears_all NoAccess n bit h = cc
clears_all (Read block addr) n bit h = cc
clears_all (Write block addr v) n bit h = or_left (is_reset (Write block addr v)) _ h

none_raised : (starts : Starts) (past : Past) (entry : Entry) (n : ℕ) (bit : Interrupt) → is_reset (access_of past entry) ≡ true → raised starts (entry ∷ past) n bit ≡ false
none_raised starts past entry n bit h = ap (λ (c : Bool). not c && (raised_by starts past n bit entry || raised starts past n bit)) (clears_all (access_of past entry) n bit h)

none_in_sum : (starts : Starts) (past : Past) (entry : Entry) (n : ℕ) (bits : List Interrupt) → is_reset (access_of past entry) ≡ true → sum_of starts (entry ∷ past) n bits ≡ 0
none_in_sum starts past entry n [] h = refl
none_in_sum starts past entry n (bit ∷ more) h =
    rw (cond-false (raised starts (entry ∷ past) n bit) (bit_value bit) 0 (none_raised starts past entry n bit h), none_in_sum starts past entry n more h) refl

none_masked : (starts : Starts) (past : Past) (entry : Entry) (n : ℕ) (bits : List Interrupt) → is_reset (access_of past entry) ≡ true → any_masked_in starts (entry ∷ past) n bits ≡ false
none_masked starts past entry n [] h = refl
none_masked starts past entry n (bit ∷ more) h =
    let m = has_bit (mask (entry ∷ past) n) (bit_value bit) in
    ap (λ (r : Bool). (m && r) || any_masked_in starts (entry ∷ past) n more) (none_raised starts past entry n bit h)
    ∙ neither m (any_masked_in starts (entry ∷ past) n more) (none_masked starts past entry n more h)
  where
    neither : (m more : Bool) → more ≡ false → ((m && false) || more) ≡ false
    neither true more h = h
    neither false more h = h

none_asks : (starts : Starts) (past : Past) (entry : Entry) (n : ℕ) → is_reset (access_of past entry) ≡ true → asks starts (entry ∷ past) n ≡ false
none_asks starts past entry n h = none_masked starts past entry n interrupts h

sir_zero : (starts : Starts) (past : Past) (entry : Entry) (ns : List ℕ) (value : ℕ) → is_reset (access_of past entry) ≡ true → sir_from starts (entry ∷ past) ns value ≡ 0
sir_zero starts past entry [] value h = refl
sir_zero starts past entry (n ∷ more) value h =
    rw (cond-false (asks starts (entry ∷ past) n) value 0 (none_asks starts past entry n h), sir_zero starts past entry more (2 * value) h) refl

pub line_high : (starts : Starts) (past : Past) (entry : Entry) → is_reset (access_of past entry) ≡ true → interrupt_low starts (entry ∷ past) ≡ false
line_high starts past entry h = none starts past entry sockets (enabled_sockets (entry ∷ past)) 1 h
  where
    neither : (m asks more : Bool) → asks ≡ false → more ≡ false → ((m && asks) || more) ≡ false
    neither true asks more h k = rw (h, k) refl
    neither false asks more h k = k

    none : (starts : Starts) (past : Past) (entry : Entry) (ns : List ℕ) (enabled value : ℕ) → is_reset (access_of past entry) ≡ true → any_enabled starts (entry ∷ past) ns enabled value ≡ false
    none starts past entry [] enabled value h = refl
    none starts past entry (n ∷ more) enabled value h =
        neither (has_bit enabled value) (asks starts (entry ∷ past) n) (any_enabled starts (entry ∷ past) more enabled (2 * value)) (none_asks starts past entry n h)
        (none starts past entry more enabled (2 * value) h)

-- The peer's bytes.
peer_reset : (past : Past) (entry : Entry) (n at reset : ℕ) → is_reset (access_of past entry) ≡ true → peer_byte (entry ∷ past) n at reset ≡ reset
peer_reset past (Bus e a) n at reset h = cond-true (is_reset (access past e)) reset (unwrap_or (written_by (access past e) (registers_of n) at) (peer_byte past n at reset)) h
peer_reset past (Link m what) n at reset h = cc
peer_reset past Rest n at reset h = cc

-- Each place of a socket's block.
tx_free_full : (starts : Starts) (past : Past) (entry : Entry) (n : ℕ) → is_reset (access_of past entry) ≡ true → tx_free starts (entry ∷ past) n ≡ 2048
tx_free_full starts past entry n h =
    ap (λ (size : ℕ). size - flight starts (entry ∷ past) n) (size_two past entry tx_sizes n h) ∙ ap (λ (out : ℕ). 2048 - out) (reset_windows starts past entry n h).0

tx_rd_zero : (starts : Starts) (past : Past) (entry : Entry) (n : ℕ) → is_reset (access_of past entry) ≡ true → tx_rd starts (entry ∷ past) n ≡ 0
tx_rd_zero starts past entry n h = ap (λ (b : Bool). cond b (sent_position starts (entry ∷ past) n % 65536) 0) (not_opened past entry n h)

rx_wr_zero : (starts : Starts) (past : Past) (entry : Entry) (n : ℕ) → is_reset (access_of past entry) ≡ true → rx_wr starts (entry ∷ past) n ≡ 0
rx_wr_zero starts past entry n h = ap (λ (b : Bool). cond b (received_position starts (entry ∷ past) n % 65536) 0) (not_opened past entry n h)

place_reset : (starts : Starts) (past : Past) (entry : Entry) (n at reset index : ℕ) (shows : Shows) → is_reset (access_of past entry) ≡ true
    → shown_by starts (entry ∷ past) n at reset index shows ≡ shown_by starts [] n at reset index shows
place_reset starts past entry n at reset index Written h = ap (λ (w : Option ℕ). unwrap_or w reset) (none_written past entry (registers_of n) at h)
place_reset starts past entry n at reset index Constant h = refl
place_reset starts past entry n at reset index Peer h = peer_reset past entry n at reset h
place_reset starts past entry n at reset index Raised h = none_in_sum starts past entry n interrupts h
place_reset starts past entry n at reset index Code h = ap status_code (reset_closes past entry n h)
place_reset starts past entry n at reset index TxFree h = ap (byte_of index) (tx_free_full starts past entry n h)
place_reset starts past entry n at reset index TxRead h = ap (byte_of index) (tx_rd_zero starts past entry n h)
place_reset starts past entry n at reset index TxWrite h = pointer_zero starts past entry n at (byte_of index starts.tx) h
place_reset starts past entry n at reset index RxUnread h = ap (byte_of index) (reset_windows starts past entry n h).1
place_reset starts past entry n at reset index RxRead h = pointer_zero starts past entry n at (byte_of index starts.rx) h
place_reset starts past entry n at reset index RxWrite h = ap (byte_of index) (rx_wr_zero starts past entry n h)

no_byte : (n size at : ℕ) → byte_in [] n size at ≡ 0
no_byte n zero at = refl
no_byte n (suc most) at = refl

common_reset : (starts : Starts) (past : Past) (entry : Entry) (at : ℕ) → is_reset (access_of past entry) ≡ true → common_byte starts (entry ∷ past) at ≡ common_byte starts [] at
common_reset starts past entry at h = by (eqb at 0x17) (sir_zero starts past entry sockets 1 h) (ap (shown (common_place at)) (none_written past entry 0 at h))
  where
    by : {s s2 r r2 : ℕ} (b : Bool) → s ≡ s2 → r ≡ r2 → elim b as (λ x. ℕ) [ true ↦ s | false ↦ r ] ≡ elim b as (λ x. ℕ) [ true ↦ s2 | false ↦ r2 ]
    by true h k = h
    by false h k = k

pub reads_restored : (starts : Starts) (past : Past) (entry : Entry) (block : Block) (at : ℕ) → is_reset (access_of past entry) ≡ true → byte_at starts (entry ∷ past) block at ≡ byte_at starts [] block at
reads_restored starts past entry Common at h = common_reset starts past entry at h
reads_restored starts past entry (Registers n) at h = let place = socket_place at in place_reset starts past entry n at place.reset place.index place.shows h
reads_restored starts past entry (TxBuffer n) at h = reset_clears past entry n at h ∙ sym (no_byte n (tx_size [] n) at)
reads_restored starts past entry (RxBuffer n) at h = reset_empties_rx starts past entry n at h
reads_restored starts past entry Reserved at h = refl

-- So both directions of each socket are fresh, with 2 KB each.
opened_none : {A : Type 0} (b : Bool) (x none : A) → b ≡ false → cond b x none ≡ none
opened_none b x none h = ap (λ (c : Bool). cond c x none) h

pub sending_fresh : (starts : Starts) (past : Past) (entry : Entry) (n : ℕ) → is_reset (access_of past entry) ≡ true → sending starts (entry ∷ past) n ≡ fresh 2048
sending_fresh starts past entry n h = λ i. record {
  size = size_two past entry tx_sizes n h i;
  tx = λ at. reset_clears past entry n at h i;
  base = opened_none (is_opened (entry ∷ past) n) (tx_base starts (entry ∷ past) n (lives (entry ∷ past) n)) 0 (not_opened past entry n h) i;
  sent = opened_none (is_opened (entry ∷ past) n) (sent starts (entry ∷ past) n (lives (entry ∷ past) n)) [] (not_opened past entry n h) i;
  flight = (reset_windows starts past entry n h).0 i;
  ends = opened_none (is_opened (entry ∷ past) n) (ends starts (entry ∷ past) n (lives (entry ∷ past) n)) [] (not_opened past entry n h) i;
  wr_high = pointer_zero starts past entry n 0x24 (byte_of 0 starts.tx) h i;
  wr_low = pointer_zero starts past entry n 0x25 (byte_of 1 starts.tx) h i;
}

pub receiving_fresh : (starts : Starts) (past : Past) (entry : Entry) (n : ℕ) → is_reset (access_of past entry) ≡ true → receiving starts (entry ∷ past) n ≡ receiving_of.fresh 2048
receiving_fresh starts past entry n h = λ i. record {
  size = size_two past entry rx_sizes n h i;
  base = opened_none (is_opened (entry ∷ past) n) (rx_base starts (entry ∷ past) n (lives (entry ∷ past) n)) 0 (not_opened past entry n h) i;
  got = opened_none (is_opened (entry ∷ past) n) (got starts (entry ∷ past) n (lives (entry ∷ past) n)) [] (not_opened past entry n h) i;
  unread = (reset_windows starts past entry n h).1 i;
  rd_high = pointer_zero starts past entry n 0x28 (byte_of 0 starts.rx) h i;
  rd_low = pointer_zero starts past entry n 0x29 (byte_of 1 starts.rx) h i;
}

-- The blocks of the select bits.
bits_tests : (n : ℕ) → (eqb (4 * n + 2) 0 ≡ false) × (eqb (4 * n + 3) 0 ≡ false)
bits_tests n = (ne_eqb (4 * n + 2) 0 (λ e. omega (arith, e)), ne_eqb (4 * n + 3) 0 (λ e. omega (arith, e)))

pub tx_block : (n : ℕ) → block_of (tx_buffer_of n) ≡ TxBuffer n
tx_block n =
    let rest : (4 * n + 2) % 4 ≡ 2 = omega arith in
    let whole : (4 * n + 2) / 4 ≡ n = omega arith in
    cond-false (eqb (4 * n + 2) 0) Common _ (bits_tests n).0
    ∙ ap (λ (r : ℕ). cond (eqb r 1) (Registers ((4 * n + 2) / 4)) (cond (eqb r 2) (TxBuffer ((4 * n + 2) / 4)) (cond (eqb r 3) (RxBuffer ((4 * n + 2) / 4)) Reserved))) rest
    ∙ ap TxBuffer whole

pub rx_block : (n : ℕ) → block_of (rx_buffer_of n) ≡ RxBuffer n
rx_block n =
    let rest : (4 * n + 3) % 4 ≡ 3 = omega arith in
    let whole : (4 * n + 3) / 4 ≡ n = omega arith in
    cond-false (eqb (4 * n + 3) 0) Common _ (bits_tests n).1
    ∙ ap (λ (r : ℕ). cond (eqb r 1) (Registers ((4 * n + 3) / 4)) (cond (eqb r 2) (TxBuffer ((4 * n + 3) / 4)) (cond (eqb r 3) (RxBuffer ((4 * n + 3) / 4)) Reserved))) rest
    ∙ ap RxBuffer whole
