-- The parts after a byte written to a TX buffer, and after an entry that touches no socket.
use Rattle.std.proofs.Common.{◌≡◌, ◌<◌, ℕ, ◌%◌, true, false, not, eqb, ◌∷◌, get_or, None, Some, inl, inr, refl, sym, ap, ◌∙◌, subst, arith}
use lib.Bits.{bit_and}
use Rattle.std.proofs.lemmas.Bool.{cases_eq, ne_eqb}
use Rattle.board_bus.specs.declared.event.BusEvent.{BusEvent}
use Rattle.board_bus.specs.declared.event.BusAnswer.{BusAnswer}
use Rattle.chip_sheet.specs.declared.event.Entry.{Entry}
use Rattle.chip_sheet.specs.declared.event.Entry.TheVariants.{Bus}
use Rattle.chip_sheet.specs.declared.phase.Access.{Access}
use Rattle.chip_sheet.specs.declared.phase.Access.TheVariants.{Write}
use Rattle.chip_sheet.specs.declared.socket.Cause.TheVariants as because
use Rattle.chip_sheet.specs.declared.stop.ChipStop.TheVariants.{OverwriteInFlight}
use Rattle.chip_sheet.specs.Past.{Past}
use Rattle.chip_sheet.specs.Frames.{access, access_of}
use Rattle.chip_sheet.specs.Blocks.{sockets, registers_of, tx_buffer_of}
use Rattle.chip_sheet.specs.Life.{cause}
use Rattle.chip_sheet.specs.Registers.{common_register}
use Rattle.chip_sheet.specs.Sizes.{tx_sizes, rx_sizes, tx_size}
use Rattle.chip_sheet.specs.Streams.{Starts}
use Rattle.chip_sheet.specs.Sending as sending_of
use Rattle.chip_sheet.specs.Sending.{Sending, after_write}
use Rattle.chip_sheet.specs.Receiving.{Receiving}
use Rattle.chip_sheet.specs.Buffers.{sending, receiving}
use Rattle.chip_sheet.specs.Interrupts.{asks, interrupt_register, mask}
use Rattle.chip_sheet.specs.SocketBlock.{Shows, Raised, socket_place, socket_register}
use Rattle.chip_sheet.specs.Stops.{overwrite, stop}
use Rattle.chip_sheet.specs.Legal.{Legal}
use Rattle.chip_sheet.specs.Quiet.{writes_to, Untouched}
use Rattle.chip_sheet.proofs.InterruptBits.{asks_masked}
use Rattle.chip_sheet.proofs.Quiet.{no_reset, leaves_life, leaves_all}
use Rattle.chip_steps.proofs.Elsewhere.{other_buffer}
use Rattle.chip_steps.proofs.ReadSteps.{untouched_reads, asks_same, sir_of_same, sir_same, common_same, sizes_same}
use Rattle.chip_steps.proofs.SendingSteps as sends
use Rattle.chip_steps.proofs.ReceivingSteps as receives
use Rattle.chip_steps.proofs.StopSteps.{writes_tx}
use Rattle.chip_steps.proofs.WindowSteps.{in_flight_at_is}
use Rattle.chip_steps.proofs.Writing.{filling}
use Rattle.sock_regs.specs.Places.{is_kept, with_bits, after_raise}
use Rattle.sock_regs.proofs.History as history
use Rattle.sock_regs.proofs.History.{by_name}
use Rattle.sock_regs.proofs.BitBytes.{or_none}
use Rattle.sock_cmd.proofs.SocketLives.{stays}
use Rattle.ring_mem.specs.declared.rings.Rings.{Rings}
use Rattle.ring_mem.specs.Buffers.{TxHolds, RxHolds, OthersSend, SameRx, tx_kilobytes}
use Rattle.common_regs.specs.declared.registers.CommonRegs.{CommonRegs}
use Rattle.common_regs.specs.Holding as common
use Rattle.chip_parts.specs.declared.parts.Parts.{Parts}
use Rattle.chip_parts.specs.Holding.{Holds, OthersUntouched}
use Rattle.ring_mem.specs.declared.receives.Receives.{Receives}
use Rattle.ring_mem.specs.RxHolds as rx_of
use Rattle.chip_parts.proofs.Assembly.{one_steps}

-- An entry that touches no socket, where these are the common registers after it.
pub sockets_stay : (starts : Starts) (past : Past) (entry : Entry) (old : Parts) (now : CommonRegs) → Holds starts old past → common.Reads now (common_register (entry ∷ past))
    → ((m : ℕ) → Untouched past entry m) → Holds starts (record old { common = now }) (entry ∷ past)
sockets_stay starts past entry old now held reads others =
    let on = no_reset past entry 0 (others 0).nothing in
    record {
      tx_start = held.tx_start;
      rx_start = held.rx_start;
      common = reads;
      shows = record {
        registers = λ n other below at here. held.shows.registers n other below at here ∙ sym (untouched_reads starts past entry n at (others n));
        sir = held.shows.sir ∙ sym (sir_same starts past entry others);
      };
      lives = λ n other below. stays (get_or old.lives n other) past entry n (held.lives n other below) (others n).nothing;
      tx = λ n below. subst (λ (s : Sending). TxHolds old.rings n s) (sym (leaves_all starts past entry n (others n)).sending) (held.tx n below);
      rx = λ n below. subst (λ (g : Receiving). RxHolds old.rings n g) (sym (leaves_all starts past entry n (others n)).receiving) (held.rx n below);
      tx_sizes = held.tx_sizes ∙ sym (sizes_same past entry tx_sizes on (others 0).tx_sizes);
      rx_sizes = held.rx_sizes ∙ sym (sizes_same past entry rx_sizes on (others 0).rx_sizes);
    }

-- An entry that touches no socket and no common register.
pub none_steps : (starts : Starts) (past : Past) (entry : Entry) (parts : Parts) → Holds starts parts past → writes_to (access_of past entry) 0 ≡ false → ((m : ℕ) → Untouched past entry m)
    → Holds starts parts (entry ∷ past)
none_steps starts past entry parts held elsewhere others =
    let on = no_reset past entry 0 (others 0).nothing in
    sockets_stay starts past entry parts parts.common held (λ at. held.common at ∙ sym (common_same past entry at on elsewhere)) others

-- What is nothing for a socket and does not write to its registers changes none of those that the registers answer.
pub no_bits : (shows : Shows) (x : ℕ) → with_bits shows 0 x ≡ x
no_bits Raised x = or_none x
no_bits shows x = refl

pub unwritten_reads : (starts : Starts) (past : Past) (e : BusEvent) (a : BusAnswer) (n at : ℕ) → cause past n (Bus e a) ≡ because.Nothing → writes_to (access past e) (registers_of n) ≡ false
    → is_kept (socket_place at).shows ≡ true → socket_register starts (Bus e a ∷ past) n at ≡ socket_register starts past n at
unwritten_reads starts past e a n at nothing registers here =
    let f = socket_register starts past n in
    sym (history.others starts past (Bus e a) n at (no_reset past (Bus e a) n nothing) registers refl here)
    ∙ ap (λ (bits : ℕ). after_raise bits f at) (leaves_life starts past (Bus e a) n nothing).bits
    ∙ no_bits (socket_place at).shows (f at)

-- So does a byte of its TX buffer.
kept_reads : (starts : Starts) (past : Past) (e : BusEvent) (a : BusAnswer) (n addr v at : ℕ) → access past e ≡ Write (tx_buffer_of n) addr v → is_kept (socket_place at).shows ≡ true
    → socket_register starts (Bus e a ∷ past) n at ≡ socket_register starts past n at
kept_reads starts past e a n addr v at is here =
    let it = filling past (Bus e a) n addr v is in unwritten_reads starts past e a n at it.nothing it.registers here

pub asks_by : (starts : Starts) (past : Past) (entry : Entry) (n : ℕ) → interrupt_register starts (entry ∷ past) n ≡ interrupt_register starts past n → mask (entry ∷ past) n ≡ mask past n
    → asks starts (entry ∷ past) n ≡ asks starts past n
asks_by starts past entry n bits masks =
    asks_masked starts (entry ∷ past) n ∙ (λ i. not (eqb (bit_and (bits i) (masks i)) 0)) ∙ sym (asks_masked starts past n)

pub place_kept : (is_kept (socket_place 0x02).shows ≡ true) × (is_kept (socket_place 0x2C).shows ≡ true)
unfolding socket_place
place_kept = (refl, refl)

any_asks : (starts : Starts) (past : Past) (e : BusEvent) (a : BusAnswer) (n addr v m : ℕ) → access past e ≡ Write (tx_buffer_of n) addr v → asks starts (Bus e a ∷ past) m ≡ asks starts past m
any_asks starts past e a n addr v m is =
    elim (cases_eq m n) [
      | inl same ↦
          subst (λ (k : ℕ). asks starts (Bus e a ∷ past) k ≡ asks starts past k) (sym same)
          (asks_by starts past (Bus e a) n
          (sym (by_name starts (Bus e a ∷ past) n).interrupts ∙ kept_reads starts past e a n addr v 0x02 is place_kept.0 ∙ (by_name starts past n).interrupts)
          (sym (by_name starts (Bus e a ∷ past) n).mask ∙ kept_reads starts past e a n addr v 0x2C is place_kept.1 ∙ (by_name starts past n).mask))
      | inr away ↦ asks_same starts past (Bus e a) m (other_buffer past e a n m addr v away is)
    ]

any_reads : (starts : Starts) (past : Past) (e : BusEvent) (a : BusAnswer) (n addr v m at : ℕ) → access past e ≡ Write (tx_buffer_of n) addr v → is_kept (socket_place at).shows ≡ true
    → socket_register starts (Bus e a ∷ past) m at ≡ socket_register starts past m at
any_reads starts past e a n addr v m at is here =
    elim (cases_eq m n) [
      | inl same ↦ subst (λ (k : ℕ). socket_register starts (Bus e a ∷ past) k at ≡ socket_register starts past k at) (sym same) (kept_reads starts past e a n addr v at is here)
      | inr away ↦ untouched_reads starts past (Bus e a) m at (other_buffer past e a n m addr v away is)
    ]

pub buffer_steps : (starts : Starts) (past : Past) (e : BusEvent) (a : BusAnswer) (sn addr v : ℕ) (old : Parts) (rings : Rings) → sn < 8 → Holds starts old past → access past e ≡ Write (tx_buffer_of sn) addr v
    → TxHolds rings sn (after_write (sending starts past sn) addr v) → OthersSend old.rings rings sn → tx_kilobytes rings ≡ tx_kilobytes old.rings → SameRx old.rings rings
    → Holds starts (record old { rings = rings }) (Bus e a ∷ past)
buffer_steps starts past e a sn addr v old rings below held is tx other_tx sizes rx =
    let it = filling past (Bus e a) sn addr v is in
    let others : OthersUntouched past (Bus e a) sn = λ m away. other_buffer past e a sn m addr v away is in
    one_steps starts past (Bus e a) sn old (record old { rings = rings }) held
    (record {
      on = no_reset past (Bus e a) sn it.nothing;
      elsewhere = ap (λ (m : Access). writes_to m 0) is ∙ ne_eqb (tx_buffer_of sn) 0 (λ z. omega (arith, z));
      no_tx_size = it.tx_same;
      no_rx_size = it.rx_same;
      others = others;
      tx_start = refl;
      rx_start = refl;
      common = refl;
      shows = record {
        registers = λ n other within at here. held.shows.registers n other within at here ∙ sym (any_reads starts past e a sn addr v n at is here);
        sir = held.shows.sir ∙ sym (sir_of_same starts past (Bus e a) sockets 1 (λ m. any_asks starts past e a sn addr v m is));
      };
      life = λ other. stays (get_or old.lives sn other) past (Bus e a) sn (held.lives sn other below) it.nothing;
      other_lives = λ m other away. refl;
      tx = subst (λ (s : Sending). TxHolds rings sn s) (sym (sends.written starts past (Bus e a) sn addr v is)) tx;
      rx = subst (λ (g : Receiving). RxHolds rings sn g) (sym (receives.unwritten starts past (Bus e a) sn it.nothing it.registers it.rx_same))
          (subst (λ (r : Receives). rx_of.RxHolds r sn (receiving starts past sn)) (sym rx) (held.rx sn below));
      other_tx = other_tx;
      other_rx = λ n g within away was. subst (λ (r : Receives). rx_of.RxHolds r n g) (sym rx) was;
      tx_sizes = sizes;
      rx_sizes = ap (λ (r : Receives). r.layout.kilobytes) rx;
    })

pub buffer_goes : (starts : Starts) (past : Past) (e : BusEvent) (sn addr v : ℕ) → Legal starts past → access past e ≡ Write (tx_buffer_of sn) addr v
    → sending_of.in_flight_at (sending starts past sn) addr ≡ None → stop starts past e ≡ None
buffer_goes starts past e sn addr v legal is none =
    writes_tx starts past e sn addr v is ∙ ap (overwrite sn (tx_size past sn) addr) (sym (in_flight_at_is starts past sn addr legal) ∙ none)

pub buffer_stops : (starts : Starts) (past : Past) (e : BusEvent) (sn addr v j : ℕ) → Legal starts past → access past e ≡ Write (tx_buffer_of sn) addr v
    → sending_of.in_flight_at (sending starts past sn) addr ≡ Some j → stop starts past e ≡ Some (OverwriteInFlight sn (addr % tx_size past sn))
buffer_stops starts past e sn addr v j legal is some =
    writes_tx starts past e sn addr v is ∙ ap (overwrite sn (tx_size past sn) addr) (sym (in_flight_at_is starts past sn addr legal) ∙ some)
