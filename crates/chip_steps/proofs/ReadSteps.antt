-- An entry that does not touch a socket leaves what its registers read, and what SIR reads.
use Rattle.std.proofs.Common.{◌≡◌, ℕ, ◌+◌, ◌-◌, ◌*◌, ◌%◌, Bool, false, ◌&&◌, ◌||◌, cond, List, [], ◌∷◌, map, Option, None, refl, sym, ap, ◌∙◌}
use Rattle.std.specs.Option.{unwrap_or, option_or}
use Rattle.chip_sheet.specs.declared.event.Entry.{Entry}
use Rattle.chip_sheet.specs.declared.socket.Interrupt.{Interrupt}
use Rattle.chip_sheet.specs.declared.socket.Interrupt.TheVariants.{Connected, Disconnected, Received, TimedOut, SendOk}
use Rattle.chip_sheet.specs.Past.{Past}
use Rattle.chip_sheet.specs.Frames.{access_of}
use Rattle.chip_sheet.specs.Bits.{has_bit}
use Rattle.chip_sheet.specs.Blocks.{sockets, registers_of}
use Rattle.chip_sheet.specs.CommonBlock.{common_place}
use Rattle.chip_sheet.specs.Registers.{is_reset, last_written, written_by, common_register}
use Rattle.chip_sheet.specs.Registers as registers
use Rattle.chip_sheet.specs.Life.{Life, status_code}
use Rattle.chip_sheet.specs.Positions.{byte_of}
use Rattle.chip_sheet.specs.Sizes.{kilobytes, resizes}
use Rattle.chip_sheet.specs.Sending as sends
use Rattle.chip_sheet.specs.Receiving as receives
use Rattle.chip_sheet.specs.Streams.{Starts, sent, got, tx_base, rx_base}
use Rattle.chip_sheet.specs.Windows.{is_opened, tx_rd, rx_wr}
use Rattle.chip_sheet.specs.Life.{lives}
use Rattle.chip_sheet.specs.Buffers.{sending, receiving}
use Rattle.chip_sheet.specs.Interrupts.{asks, sir_from, sir_register}
use Rattle.chip_sheet.specs.SocketBlock.{Shows, Written, Constant, Peer, Raised, Code, TxFree, TxRead, TxWrite, RxUnread, RxRead, RxWrite, shown_by, socket_place, socket_register}
use Rattle.chip_sheet.specs.Quiet.{writes_to, Untouched, LeavesAll}
use Rattle.chip_sheet.proofs.Quiet.{leaves_all, pointer_same}
use Rattle.chip_sheet.proofs.SizeLaws.{kilobytes_kept}
use Rattle.chip_sheet.proofs.Quiet.{not_written}
use Rattle.chip_steps.proofs.WindowSteps.{end_is}

tx_rd_is : (starts : Starts) (past : Past) (n : ℕ) → tx_rd starts past n ≡ sends.next_to_send (sending starts past n) % 65536
tx_rd_is starts past n = end_is (is_opened past n) (tx_base starts past n (lives past n)) (sent starts past n (lives past n))

rx_wr_is : (starts : Starts) (past : Past) (n : ℕ) → rx_wr starts past n ≡ receives.next_to_receive (receiving starts past n) % 65536
rx_wr_is starts past n = end_is (is_opened past n) (rx_base starts past n (lives past n)) (got starts past n (lives past n))

shown_same : (starts : Starts) (past : Past) (entry : Entry) (n at reset index : ℕ) (shows : Shows) → Untouched past entry n → LeavesAll starts past entry n
    → shown_by starts (entry ∷ past) n at reset index shows ≡ shown_by starts past n at reset index shows
shown_same starts past entry n at reset index Written h on = ap (λ (w : Option ℕ). unwrap_or w reset) (on.registers at)
shown_same starts past entry n at reset index Constant h on = refl
shown_same starts past entry n at reset index Peer h on = on.peer at reset
shown_same starts past entry n at reset index Raised h on =
    λ i. cond (on.bits Connected i) 1 0 + (cond (on.bits Disconnected i) 2 0 + (cond (on.bits Received i) 4 0 + (cond (on.bits TimedOut i) 8 0 + (cond (on.bits SendOk i) 16 0 + 0))))
shown_same starts past entry n at reset index Code h on = ap (λ (l : Life). status_code l.status) on.life.life
shown_same starts past entry n at reset index TxFree h on = ap (λ (s : sends.Sending). byte_of index (s.size - s.flight)) on.sending
shown_same starts past entry n at reset index TxRead h on =
    ap (byte_of index) (tx_rd_is starts (entry ∷ past) n ∙ ap (λ (s : sends.Sending). sends.next_to_send s % 65536) on.sending ∙ sym (tx_rd_is starts past n))
shown_same starts past entry n at reset index TxWrite h on =
    pointer_same past entry n at (byte_of index starts.tx) h.nothing (not_written (access_of past entry) (registers_of n) at h.registers)
shown_same starts past entry n at reset index RxUnread h on = ap (byte_of index) on.life.unread
shown_same starts past entry n at reset index RxRead h on =
    pointer_same past entry n at (byte_of index starts.rx) h.nothing (not_written (access_of past entry) (registers_of n) at h.registers)
shown_same starts past entry n at reset index RxWrite h on =
    ap (byte_of index) (rx_wr_is starts (entry ∷ past) n ∙ ap (λ (g : receives.Receiving). receives.next_to_receive g % 65536) on.receiving ∙ sym (rx_wr_is starts past n))

pub untouched_reads : (starts : Starts) (past : Past) (entry : Entry) (n at : ℕ) → Untouched past entry n → socket_register starts (entry ∷ past) n at ≡ socket_register starts past n at
untouched_reads starts past entry n at h =
    let place = socket_place at in shown_same starts past entry n at place.reset place.index place.shows h (leaves_all starts past entry n h)

-- The common registers, where nothing is written to them.
pub common_same : (past : Past) (entry : Entry) (at : ℕ) → is_reset (access_of past entry) ≡ false → writes_to (access_of past entry) 0 ≡ false → common_register (entry ∷ past) at ≡ common_register past at
common_same past entry at on h =
    let before = last_written past 0 at in
    ap (λ (b : Bool). registers.shown (common_place at) (cond b None (option_or (written_by (access_of past entry) 0 at) before))) on
    ∙ ap (λ (w : Option ℕ). registers.shown (common_place at) (option_or w before)) (not_written (access_of past entry) 0 at h)

-- The eight sizes of a direction, where none changes.
pub sizes_same : (past : Past) (entry : Entry) (sizes : ℕ) → is_reset (access_of past entry) ≡ false → resizes past sizes (access_of past entry) ≡ false
    → map (kilobytes (entry ∷ past) sizes) sockets ≡ map (kilobytes past sizes) sockets
sizes_same past entry sizes on h = λ i.
    kilobytes_kept past entry sizes 0 on h i ∷ kilobytes_kept past entry sizes 1 on h i ∷ kilobytes_kept past entry sizes 2 on h i ∷ kilobytes_kept past entry sizes 3 on h i ∷
    kilobytes_kept past entry sizes 4 on h i ∷ kilobytes_kept past entry sizes 5 on h i ∷ kilobytes_kept past entry sizes 6 on h i ∷ kilobytes_kept past entry sizes 7 on h i ∷ []

-- Whether a socket asks, by its mask and its raised bits.
abbrev any_of : ℕ → (Interrupt → Bool) → Bool
any_of mask raised =
    (has_bit mask 1 && raised Connected) || ((has_bit mask 2 && raised Disconnected) || ((has_bit mask 4 && raised Received) || ((has_bit mask 8 && raised TimedOut) || ((has_bit mask 16 && raised SendOk) || false))))

pub asks_same : (starts : Starts) (past : Past) (entry : Entry) (n : ℕ) → Untouched past entry n → asks starts (entry ∷ past) n ≡ asks starts past n
asks_same starts past entry n h =
    let on = leaves_all starts past entry n h in
    λ i. any_of (unwrap_or (on.registers 0x2C i) 0xFF) (λ bit. on.bits bit i)

pub sir_of_same : (starts : Starts) (past : Past) (entry : Entry) (ns : List ℕ) (value : ℕ) → ((n : ℕ) → asks starts (entry ∷ past) n ≡ asks starts past n)
    → sir_from starts (entry ∷ past) ns value ≡ sir_from starts past ns value
sir_of_same starts past entry [] value h = refl
sir_of_same starts past entry (n ∷ more) value h = λ i. cond (h n i) value 0 + sir_of_same starts past entry more (2 * value) h i

pub sir_same : (starts : Starts) (past : Past) (entry : Entry) → ((n : ℕ) → Untouched past entry n) → sir_register starts (entry ∷ past) ≡ sir_register starts past
sir_same starts past entry h = sir_of_same starts past entry sockets 1 (λ n. asks_same starts past entry n (h n))
