-- The parts after a change of a size, and whether a socket is open.
use Rattle.std.proofs.Common.{◌≡◌, ◌≢◌, ◌<◌, ℕ, ◌+◌, zero, suc, Bool, true, false, not, ◌&&◌, ◌||◌, cond, eqb, List, [], ◌∷◌, length, map, set, get_or, Option, None, Some, inl, inr, refl, sym, ap, ◌∙◌, subst, arith, ◌⊎◌}
use Rattle.std.specs.Option.{unwrap_or, option_or}
use Rattle.std.specs.List.{list_any}
use Rattle.std.proofs.lemmas.Bool.{cases_eq, cases_Bool, cond-false, and_parts, or_cases, eqb-true, eq-eqb, ne_eqb}
use Rattle.std.proofs.lemmas.List.{get_or-set_same, get_or-set_other}
use Rattle.board_bus.specs.declared.event.BusEvent.{BusEvent}
use Rattle.board_bus.specs.declared.event.BusAnswer.{BusAnswer}
use Rattle.chip_sheet.specs.declared.block.Block.{Block}
use Rattle.chip_sheet.specs.declared.event.Entry.TheVariants.{Bus}
use Rattle.chip_sheet.specs.declared.phase.Access.{Access}
use Rattle.chip_sheet.specs.declared.phase.Access.TheVariants.{Write}
use Rattle.chip_sheet.specs.declared.socket.Cause.TheVariants as because
use Rattle.chip_sheet.specs.declared.stop.ChipStop.TheVariants.{SizeWhileOpen}
use Rattle.chip_sheet.specs.Past.{Past}
use Rattle.chip_sheet.specs.Frames.{access}
use Rattle.chip_sheet.specs.Blocks.{sockets, registers_of, tx_buffer_of}
use Rattle.chip_sheet.specs.Registers.{is_reset, last_written, written_after}
use Rattle.chip_sheet.specs.Life as sheet
use Rattle.chip_sheet.specs.Life.{cause, status, is_closed}
use Rattle.chip_sheet.specs.Sizes.{kilobytes, tx_sizes, rx_sizes, resizes, resizes_block, size_in, size_among}
use Rattle.chip_sheet.specs.Streams.{Starts}
use Rattle.chip_sheet.specs.Sending as sending_of
use Rattle.chip_sheet.specs.Sending.{Sending}
use Rattle.chip_sheet.specs.Receiving as receiving_of
use Rattle.chip_sheet.specs.Receiving.{Receiving}
use Rattle.chip_sheet.specs.Buffers.{sending, receiving}
use Rattle.chip_sheet.specs.Interrupts.{asks}
use Rattle.chip_sheet.specs.SocketBlock.{socket_place, socket_register}
use Rattle.chip_sheet.specs.Stops.{any_open, where_it, stop}
use Rattle.chip_sheet.specs.Quiet.{writes_to}
use Rattle.chip_sheet.proofs.Quiet.{leaves_life}
use Rattle.chip_sheet.proofs.StopRows.{registers_block}
use Rattle.chip_steps.proofs.ReadSteps.{common_same, sizes_same, sir_of_same}
use Rattle.chip_steps.proofs.SendingSteps as sends
use Rattle.chip_steps.proofs.ReceivingSteps as receives
use Rattle.chip_steps.proofs.StopSteps.{writes_register}
use Rattle.chip_steps.proofs.Writing.{resizing_tx, resizing_rx}
use Rattle.sock_cmd.specs.declared.life.Life.{Life}
use Rattle.sock_cmd.specs.Lives.{life_of, IsAfter}
use Rattle.sock_cmd.proofs.SocketLives.{stays}
use Rattle.sock_regs.specs.declared.registers.SockRegs.{SockRegs}
use Rattle.sock_regs.specs.Holding.{Reads}
use Rattle.sock_regs.specs.Places.{is_kept, after_write, after_raise}
use Rattle.sock_regs.proofs.History.{writes, by_name}
use Rattle.ring_mem.specs.declared.rings.Rings.{Rings}
use Rattle.ring_mem.specs.Buffers.{TxHolds, RxHolds, SameTx, SameRx, flight_of, unread_of, tx_kilobytes, rx_kilobytes}
use Rattle.ring_mem.specs.declared.sends.Sends.{Sends}
use Rattle.ring_mem.specs.declared.receives.Receives.{Receives}
use Rattle.ring_mem.specs.TxHolds as tx_of
use Rattle.ring_mem.specs.RxHolds as rx_of
use Rattle.chip_parts.specs.declared.parts.Parts.{Parts}
use Rattle.chip_parts.specs.Holding.{Holds, ClosedIsEmpty}
use Rattle.chip_parts.proofs.Eight.{at_eight}
use Rattle.chip_parts.proofs.Stepping.{written_reads, no_reset_there, not_common}
use Rattle.chip_parts.proofs.Buffers.{no_bits, unwritten_reads, place_kept, asks_by}

-- Whether a socket is open.
abbrev pub is_open_life : Life → Bool
is_open_life l = not (is_closed (life_of l).status)

abbrev up : ℕ → ℕ → List ℕ
up zero from = []
up (suc count) from = from ∷ up count (suc from)

any_from : (past : Past) (count from : ℕ) (ls : List Life) → length ls ≡ count
    → ((n : ℕ) (other : Life) → n < count → is_closed (life_of (get_or ls n other)).status ≡ is_closed (status past (from + n))) → list_any is_open_life ls ≡ any_open past (up count from)
any_from past zero from [] len same = refl
any_from past zero from (l ∷ ls) len same = cc
any_from past (suc count) from [] len same = cc
any_from past (suc count) from (l ∷ ls) len same =
    let here : from + 0 ≡ from = omega arith in
    let first : is_closed (life_of l).status ≡ is_closed (status past from) = same 0 l (omega arith) ∙ ap (λ (k : ℕ). is_closed (status past k)) here in
    let rest = any_from past count (suc from) ls (omega (arith, len))
    (λ n other below. same (suc n) other (omega (arith, below)) ∙ ap (λ (k : ℕ). is_closed (status past k)) (let next : from + suc n ≡ suc from + n = omega arith in next)) in
    λ i. not (first i) || rest i

pub any_is : (past : Past) (ls : List Life) → length ls ≡ 8 → ((n : ℕ) (other : Life) → n < 8 → IsAfter (get_or ls n other) past n) → list_any is_open_life ls ≡ any_open past sockets
any_is past ls len all =
    any_from past 8 0 ls len
    (λ n other below.
    let here : n ≡ 0 + n = omega arith in
    ap (λ (l : sheet.Life). is_closed l.status) (all n other below).life ∙ ap (λ (k : ℕ). is_closed (status past k)) here)

closed_here : (b rest : Bool) → (not b || rest) ≡ false → b ≡ true
closed_here true rest h = refl
closed_here false rest h = cc

closed_there : (b rest : Bool) → (not b || rest) ≡ false → rest ≡ false
closed_there true rest h = h
closed_there false rest h = cc

pub none_open : (ls : List Life) (n : ℕ) (other : Life) → list_any is_open_life ls ≡ false → n < length ls → is_closed (life_of (get_or ls n other)).status ≡ true
none_open [] n other h below = absurd (omega (arith, below))
none_open (l ∷ ls) zero other h below = closed_here (is_closed (life_of l).status) (list_any is_open_life ls) h
none_open (l ∷ ls) (suc n) other h below = none_open ls n other (closed_there (is_closed (life_of l).status) (list_any is_open_life ls) h) (omega (arith, below))

some_life : (ls : List Life) → 0 < length ls → Life
some_life [] h = absurd (omega (arith, h))
some_life (l ∷ ls) h = l

-- While none is open, nothing is in flight and nothing is unread.
pub all_empty : (parts : Parts) (n : ℕ) → length parts.lives ≡ 8 → ClosedIsEmpty parts → list_any is_open_life parts.lives ≡ false → n < 8 → (flight_of parts.rings n ≡ 0) × (unread_of parts.rings n ≡ 0)
all_empty parts n len empty none below =
    let some : 0 < length parts.lives = omega (arith, len) in
    let within : n < length parts.lives = omega (arith, len, below) in
    let other = some_life parts.lives some in
    empty n other below (none_open parts.lives n other none within)

-- Whether a byte that is written changes a size.
pub resizes_is : (past : Past) (e : BusEvent) (n addr v sizes : ℕ) → access past e ≡ Write (registers_of n) addr v → resizes past sizes (access past e) ≡ (eqb addr sizes && not (eqb v (kilobytes past sizes n)))
resizes_is past e n addr v sizes is = ap (resizes past sizes) is ∙ ap (λ (b : Block). resizes_block past sizes b addr v) (registers_block n)

sized_at : (past : Past) (e : BusEvent) (n addr v sizes : ℕ) → access past e ≡ Write (registers_of n) addr v → resizes past sizes (access past e) ≡ true → addr ≡ sizes
sized_at past e n addr v sizes is h =
    eqb-true addr sizes (and_parts (eqb addr sizes) (not (eqb v (kilobytes past sizes n))) (sym (resizes_is past e n addr v sizes is) ∙ h)).0

-- The eight sizes after the write.
stored : (b : Bool) (v : ℕ) (earlier : Option ℕ) → unwrap_or (option_or (cond b (Some v) None) earlier) 2 ≡ cond b v (unwrap_or earlier 2)
stored true v earlier = refl
stored false v earlier = refl

kilobytes_now : (past : Past) (e : BusEvent) (a : BusAnswer) (sn addr v sizes n : ℕ) → access past e ≡ Write (registers_of sn) addr v
    → cond (eqb (registers_of sn) (registers_of n) && eqb addr sizes) v (kilobytes past sizes n) ≡ kilobytes (Bus e a ∷ past) sizes n
kilobytes_now past e a sn addr v sizes n is =
    let earlier = last_written past (registers_of n) sizes in
    let here = eqb (registers_of sn) (registers_of n) && eqb addr sizes in
    sym (stored here v earlier)
    ∙ sym (ap (λ (o : Option ℕ). unwrap_or o 2) (cond-false (is_reset (Write (registers_of sn) addr v)) None (option_or (cond here (Some v) None) earlier) (no_reset_there sn addr v)))
    ∙ sym (ap (λ (made : Access). unwrap_or (written_after made earlier (registers_of n) sizes) 2) is)

either : (P : Bool → Type 0) → P true → P false → (b : Bool) → P b
either P h k true = h
either P h k false = k

with_one : (f : ℕ → ℕ) (v sn : ℕ) → sn < 8 → (b : Bool) → cond b (set (map f sockets) sn v) (map f sockets) ≡ map (λ (n : ℕ). cond (eqb (registers_of sn) (registers_of n) && b) v (f n)) sockets
with_one f v sn below =
    let P : ℕ → Type 0 = λ k. (b : Bool) → cond b (set (map f sockets) k v) (map f sockets) ≡ map (λ (n : ℕ). cond (eqb (registers_of k) (registers_of n) && b) v (f n)) sockets in
    at_eight P
    (either (λ b. cond b (set (map f sockets) 0 v) (map f sockets) ≡ map (λ (n : ℕ). cond (eqb (registers_of 0) (registers_of n) && b) v (f n)) sockets) refl refl)
    (either (λ b. cond b (set (map f sockets) 1 v) (map f sockets) ≡ map (λ (n : ℕ). cond (eqb (registers_of 1) (registers_of n) && b) v (f n)) sockets) refl refl)
    (either (λ b. cond b (set (map f sockets) 2 v) (map f sockets) ≡ map (λ (n : ℕ). cond (eqb (registers_of 2) (registers_of n) && b) v (f n)) sockets) refl refl)
    (either (λ b. cond b (set (map f sockets) 3 v) (map f sockets) ≡ map (λ (n : ℕ). cond (eqb (registers_of 3) (registers_of n) && b) v (f n)) sockets) refl refl)
    (either (λ b. cond b (set (map f sockets) 4 v) (map f sockets) ≡ map (λ (n : ℕ). cond (eqb (registers_of 4) (registers_of n) && b) v (f n)) sockets) refl refl)
    (either (λ b. cond b (set (map f sockets) 5 v) (map f sockets) ≡ map (λ (n : ℕ). cond (eqb (registers_of 5) (registers_of n) && b) v (f n)) sockets) refl refl)
    (either (λ b. cond b (set (map f sockets) 6 v) (map f sockets) ≡ map (λ (n : ℕ). cond (eqb (registers_of 6) (registers_of n) && b) v (f n)) sockets) refl refl)
    (either (λ b. cond b (set (map f sockets) 7 v) (map f sockets) ≡ map (λ (n : ℕ). cond (eqb (registers_of 7) (registers_of n) && b) v (f n)) sockets) refl refl)
    sn below

each_of : (f g : ℕ → ℕ) → ((n : ℕ) → f n ≡ g n) → map f sockets ≡ map g sockets
each_of f g h = λ i. h 0 i ∷ h 1 i ∷ h 2 i ∷ h 3 i ∷ h 4 i ∷ h 5 i ∷ h 6 i ∷ h 7 i ∷ []

-- The eight sizes of a direction, of which one is another where its register is written.
pub sizes_now : (past : Past) (e : BusEvent) (a : BusAnswer) (sn addr v sizes : ℕ) → sn < 8 → access past e ≡ Write (registers_of sn) addr v
    → cond (eqb addr sizes) (set (map (kilobytes past sizes) sockets) sn v) (map (kilobytes past sizes) sockets) ≡ map (kilobytes (Bus e a ∷ past) sizes) sockets
sizes_now past e a sn addr v sizes below is =
    with_one (kilobytes past sizes) v sn below (eqb addr sizes)
    ∙ each_of _ (kilobytes (Bus e a ∷ past) sizes) (λ n. kilobytes_now past e a sn addr v sizes n is)

at_socket : (f : ℕ → ℕ) (n : ℕ) → n < 8 → get_or (map f sockets) n 0 ≡ f n
at_socket f n below = at_eight (λ (k : ℕ). get_or (map f sockets) k 0 ≡ f k) refl refl refl refl refl refl refl refl n below

not_same : (b : Bool) → b ≡ true → not b ≡ true → ⊥
not_same true h k = cc
not_same false h k = cc

-- They differ where the byte changes a size.
differs : (past : Past) (e : BusEvent) (a : BusAnswer) (sn addr v sizes : ℕ) → sn < 8 → access past e ≡ Write (registers_of sn) addr v → resizes past sizes (access past e) ≡ true
    → map (kilobytes past sizes) sockets ≡ map (kilobytes (Bus e a ∷ past) sizes) sockets → ⊥
differs past e a sn addr v sizes below is h same =
    let parts = and_parts (eqb addr sizes) (not (eqb v (kilobytes past sizes sn))) (sym (resizes_is past e sn addr v sizes is) ∙ h) in
    let here = eq-eqb (registers_of sn) (registers_of sn) refl in
    let now : v ≡ kilobytes (Bus e a ∷ past) sizes sn =
    (λ i. cond (sym here i && sym parts.0 i) v (kilobytes past sizes sn)) ∙ kilobytes_now past e a sn addr v sizes sn is in
    let was : kilobytes past sizes sn ≡ kilobytes (Bus e a ∷ past) sizes sn =
    sym (at_socket (kilobytes past sizes) sn below) ∙ ap (λ (ks : List ℕ). get_or ks sn 0) same ∙ at_socket (kilobytes (Bus e a ∷ past) sizes) sn below in
    not_same (eqb v (kilobytes past sizes sn)) (eq-eqb v (kilobytes past sizes sn) (now ∙ sym was)) parts.1

-- What a change of a size is.
record Change (past : Past) (e : BusEvent) (a : BusAnswer) (addr : ℕ) : Type 0 where
  nothing : (m : ℕ) → cause past m (Bus e a) ≡ because.Nothing
  place : (addr ≡ 0x1E) ⊎ (addr ≡ 0x1F)

change : (past : Past) (e : BusEvent) (a : BusAnswer) (sn addr v : ℕ) → access past e ≡ Write (registers_of sn) addr v
    → (resizes past rx_sizes (access past e) || resizes past tx_sizes (access past e)) ≡ true → Change past e a addr
change past e a sn addr v is h =
    elim (or_cases (resizes past rx_sizes (access past e)) (resizes past tx_sizes (access past e)) h) [
      | inl rx ↦ record { nothing = λ m. (resizing_rx past (Bus e a) m rx).nothing; place = inl (sized_at past e sn addr v rx_sizes is rx) }
      | inr tx ↦ record { nothing = λ m. (resizing_tx past (Bus e a) m tx).nothing; place = inr (sized_at past e sn addr v tx_sizes is tx) }
    ]

elsewhere : (past : Past) (e : BusEvent) (a : BusAnswer) (addr at : ℕ) → Change past e a addr → (at ≡ 0x1E → ⊥) → (at ≡ 0x1F → ⊥) → eqb addr at ≡ false
elsewhere past e a addr at it rx tx =
    elim it.place [
      | inl is ↦ ne_eqb addr at (λ z. rx (sym z ∙ is))
      | inr is ↦ ne_eqb addr at (λ z. tx (sym z ∙ is))
    ]

-- The registers of the socket: its size alone.
own_reads : (starts : Starts) (past : Past) (e : BusEvent) (a : BusAnswer) (sn addr v at : ℕ) → access past e ≡ Write (registers_of sn) addr v → cause past sn (Bus e a) ≡ because.Nothing
    → eqb addr at ≡ false → is_kept (socket_place at).shows ≡ true → socket_register starts (Bus e a ∷ past) sn at ≡ socket_register starts past sn at
own_reads starts past e a sn addr v at is nothing other here =
    let f = socket_register starts past sn in
    sym (writes starts past e a sn addr v at is here)
    ∙ ap (λ (bits : ℕ). after_raise bits (after_write addr v f) at) (leaves_life starts past (Bus e a) sn nothing).bits
    ∙ no_bits (socket_place at).shows (after_write addr v f at)
    ∙ cond-false (eqb addr at) _ (f at) other

not_there : (past : Past) (e : BusEvent) (sn m addr v : ℕ) → access past e ≡ Write (registers_of sn) addr v → m ≢ sn → writes_to (access past e) (registers_of m) ≡ false
not_there past e sn m addr v is away = ap (λ (made : Access). writes_to made (registers_of m)) is ∙ ne_eqb (registers_of sn) (registers_of m) (λ z. away (omega (arith, z)))

any_reads : (starts : Starts) (past : Past) (e : BusEvent) (a : BusAnswer) (sn addr v m at : ℕ) → access past e ≡ Write (registers_of sn) addr v → Change past e a addr
    → eqb addr at ≡ false → is_kept (socket_place at).shows ≡ true → socket_register starts (Bus e a ∷ past) m at ≡ socket_register starts past m at
any_reads starts past e a sn addr v m at is it other here =
    elim (cases_eq m sn) [
      | inl same ↦ subst (λ (k : ℕ). socket_register starts (Bus e a ∷ past) k at ≡ socket_register starts past k at) (sym same) (own_reads starts past e a sn addr v at is (it.nothing sn) other here)
      | inr away ↦ unwritten_reads starts past e a m at (it.nothing m) (not_there past e sn m addr v is away) here
    ]

same_asks : (starts : Starts) (past : Past) (e : BusEvent) (a : BusAnswer) (sn addr v m : ℕ) → access past e ≡ Write (registers_of sn) addr v → Change past e a addr
    → asks starts (Bus e a ∷ past) m ≡ asks starts past m
same_asks starts past e a sn addr v m is it =
    asks_by starts past (Bus e a) m
    (sym (by_name starts (Bus e a ∷ past) m).interrupts
    ∙ any_reads starts past e a sn addr v m 0x02 is it (elsewhere past e a addr 0x02 it (λ z. cc) (λ z. cc)) place_kept.0 ∙ (by_name starts past m).interrupts)
    (sym (by_name starts (Bus e a ∷ past) m).mask
    ∙ any_reads starts past e a sn addr v m 0x2C is it (elsewhere past e a addr 0x2C it (λ z. cc) (λ z. cc)) place_kept.1 ∙ (by_name starts past m).mask)

own_written : (starts : Starts) (past : Past) (e : BusEvent) (a : BusAnswer) (sn addr v : ℕ) (before written : SockRegs) → access past e ≡ Write (registers_of sn) addr v → Change past e a addr
    → Reads before (socket_register starts past sn) → ((f : ℕ → ℕ) → Reads before f → Reads written (after_write addr v f)) → Reads written (socket_register starts (Bus e a ∷ past) sn)
own_written starts past e a sn addr v before written is it held write =
    written_reads starts past e a sn addr v 0 before written written held write
    (λ f reads at here. reads at here ∙ sym (no_bits (socket_place at).shows (f at))) is (sym (leaves_life starts past (Bus e a) sn (it.nothing sn)).bits)

-- What the sockets send and receive.
tx_pointer_same : (s : Sending) (addr v : ℕ) → eqb addr 0x24 ≡ false → eqb addr 0x25 ≡ false → sending_of.after_pointer s addr v ≡ s
tx_pointer_same s addr v high low = λ i. record s { wr_high = cond (high i) v s.wr_high; wr_low = cond (low i) v s.wr_low }

rx_pointer_same : (g : Receiving) (addr v : ℕ) → eqb addr 0x28 ≡ false → eqb addr 0x29 ≡ false → receiving_of.after_pointer g addr v ≡ g
rx_pointer_same g addr v high low = λ i. record g { rd_high = cond (high i) v g.rd_high; rd_low = cond (low i) v g.rd_low }

sending_same : (starts : Starts) (past : Past) (e : BusEvent) (a : BusAnswer) (sn addr v n : ℕ) → access past e ≡ Write (registers_of sn) addr v → Change past e a addr
    → resizes past tx_sizes (access past e) ≡ false → sending starts (Bus e a ∷ past) n ≡ sending starts past n
sending_same starts past e a sn addr v n is it kept =
    elim (cases_eq n sn) [
      | inl same ↦
          subst (λ (k : ℕ). sending starts (Bus e a ∷ past) k ≡ sending starts past k) (sym same)
          (sends.pointer starts past (Bus e a) sn addr v (it.nothing sn) is kept
          ∙ tx_pointer_same (sending starts past sn) addr v (elsewhere past e a addr 0x24 it (λ z. cc) (λ z. cc)) (elsewhere past e a addr 0x25 it (λ z. cc) (λ z. cc)))
      | inr away ↦
          sends.unwritten starts past (Bus e a) n (it.nothing n) (not_there past e sn n addr v is away)
          (ap (λ (made : Access). writes_to made (tx_buffer_of n)) is ∙ ne_eqb (registers_of sn) (tx_buffer_of n) (λ z. omega (arith, z))) kept
    ]

receiving_same : (starts : Starts) (past : Past) (e : BusEvent) (a : BusAnswer) (sn addr v n : ℕ) → access past e ≡ Write (registers_of sn) addr v → Change past e a addr
    → resizes past rx_sizes (access past e) ≡ false → receiving starts (Bus e a ∷ past) n ≡ receiving starts past n
receiving_same starts past e a sn addr v n is it kept =
    elim (cases_eq n sn) [
      | inl same ↦
          subst (λ (k : ℕ). receiving starts (Bus e a ∷ past) k ≡ receiving starts past k) (sym same)
          (receives.pointer starts past (Bus e a) sn addr v (it.nothing sn) is kept
          ∙ rx_pointer_same (receiving starts past sn) addr v (elsewhere past e a addr 0x28 it (λ z. cc) (λ z. cc)) (elsewhere past e a addr 0x29 it (λ z. cc) (λ z. cc)))
      | inr away ↦ receives.unwritten starts past (Bus e a) n (it.nothing n) (not_there past e sn n addr v is away) kept
    ]

-- What `set_sizes` says.
pub record Sized (old new : Rings) (tx rx : List ℕ) : Type 0 where
  pub tx_same : tx_kilobytes old ≡ tx → SameTx old new
  pub tx_changed : tx_kilobytes old ≢ tx → (n : ℕ) (s : Sending) → n < 8 → TxHolds old n s → TxHolds new n (sending_of.after_resize s (size_among tx n))
  pub rx_same : rx_kilobytes old ≡ rx → SameRx old new
  pub rx_changed : rx_kilobytes old ≢ rx → (n : ℕ) (g : Receiving) → n < 8 → RxHolds old n g → RxHolds new n (receiving_of.after_resize g (size_among rx n))
  pub tx_now : tx_kilobytes new ≡ tx
  pub rx_now : rx_kilobytes new ≡ rx

size_is : (past : Past) (sizes n : ℕ) (ks : List ℕ) → n < 8 → ks ≡ map (kilobytes past sizes) sockets
    → size_among ks n ≡ size_in (map (kilobytes past sizes) sockets) (kilobytes past sizes n)
size_is past sizes n ks below is = ap (λ (xs : List ℕ). size_among xs n) is ∙ ap (size_in (map (kilobytes past sizes) sockets)) (at_socket (kilobytes past sizes) n below)

tx_sized : (starts : Starts) (past : Past) (e : BusEvent) (a : BusAnswer) (sn addr v : ℕ) (old : Parts) (rings : Rings) (tx rx : List ℕ) → sn < 8 → Holds starts old past
    → access past e ≡ Write (registers_of sn) addr v → Change past e a addr → tx ≡ map (kilobytes (Bus e a ∷ past) tx_sizes) sockets → Sized old.rings rings tx rx
    → (n : ℕ) → n < 8 → TxHolds rings n (sending starts (Bus e a ∷ past) n)
tx_sized starts past e a sn addr v old rings tx rx below held is it now sized n within =
    elim (cases_Bool (resizes past tx_sizes (access past e))) [
      | inl resized ↦
          subst (λ (s : Sending). TxHolds rings n s)
          (sym (sends.resize starts past (Bus e a) n resized ∙ ap (sending_of.after_resize (sending starts past n)) (sym (size_is (Bus e a ∷ past) tx_sizes n tx within now))))
          (sized.tx_changed (λ same. differs past e a sn addr v tx_sizes below is resized (sym held.tx_sizes ∙ same ∙ now)) n (sending starts past n) within (held.tx n within))
      | inr kept ↦
          let same = sized.tx_same (held.tx_sizes ∙ sym (sizes_same past (Bus e a) tx_sizes (ap is_reset is ∙ no_reset_there sn addr v) kept) ∙ sym now) in
          subst (λ (s : Sending). TxHolds rings n s) (sym (sending_same starts past e a sn addr v n is it kept))
          (subst (λ (r : Sends). tx_of.Holds r n (sending starts past n)) (sym same) (held.tx n within))
    ]

rx_sized : (starts : Starts) (past : Past) (e : BusEvent) (a : BusAnswer) (sn addr v : ℕ) (old : Parts) (rings : Rings) (tx rx : List ℕ) → sn < 8 → Holds starts old past
    → access past e ≡ Write (registers_of sn) addr v → Change past e a addr → rx ≡ map (kilobytes (Bus e a ∷ past) rx_sizes) sockets → Sized old.rings rings tx rx
    → (n : ℕ) → n < 8 → RxHolds rings n (receiving starts (Bus e a ∷ past) n)
rx_sized starts past e a sn addr v old rings tx rx below held is it now sized n within =
    elim (cases_Bool (resizes past rx_sizes (access past e))) [
      | inl resized ↦
          subst (λ (g : Receiving). RxHolds rings n g)
          (sym (receives.resize starts past (Bus e a) n resized ∙ ap (receiving_of.after_resize (receiving starts past n)) (sym (size_is (Bus e a ∷ past) rx_sizes n rx within now))))
          (sized.rx_changed (λ same. differs past e a sn addr v rx_sizes below is resized (sym held.rx_sizes ∙ same ∙ now)) n (receiving starts past n) within (held.rx n within))
      | inr kept ↦
          let same = sized.rx_same (held.rx_sizes ∙ sym (sizes_same past (Bus e a) rx_sizes (ap is_reset is ∙ no_reset_there sn addr v) kept) ∙ sym now) in
          subst (λ (g : Receiving). RxHolds rings n g) (sym (receiving_same starts past e a sn addr v n is it kept))
          (subst (λ (r : Receives). rx_of.RxHolds r n (receiving starts past n)) (sym same) (held.rx n within))
    ]

-- The parts after a change of a size.
pub resize_steps : (starts : Starts) (past : Past) (e : BusEvent) (a : BusAnswer) (sn addr v : ℕ) (old : Parts) (rings : Rings) (tx rx : List ℕ) (written : SockRegs) → sn < 8 → sn < length old.registers
    → Holds starts old past → access past e ≡ Write (registers_of sn) addr v → (resizes past rx_sizes (access past e) || resizes past tx_sizes (access past e)) ≡ true
    → tx ≡ cond (eqb addr 0x1F) (set (tx_kilobytes old.rings) sn v) (tx_kilobytes old.rings) → rx ≡ cond (eqb addr 0x1E) (set (rx_kilobytes old.rings) sn v) (rx_kilobytes old.rings)
    → Sized old.rings rings tx rx → (other : SockRegs) → ((f : ℕ → ℕ) → Reads (get_or old.registers sn other) f → Reads written (after_write addr v f))
    → Holds starts (record old { rings = rings; registers = set old.registers sn written }) (Bus e a ∷ past)
resize_steps starts past e a sn addr v old rings tx rx written below inside held is h tx_is rx_is sized other write =
    let entry = Bus e a in
    let it = change past e a sn addr v is h in
    let on = ap is_reset is ∙ no_reset_there sn addr v in
    let tx_now = tx_is ∙ (λ i. cond (eqb addr 0x1F) (set (held.tx_sizes i) sn v) (held.tx_sizes i)) ∙ sizes_now past e a sn addr v tx_sizes below is in
    let rx_now = rx_is ∙ (λ i. cond (eqb addr 0x1E) (set (held.rx_sizes i) sn v) (held.rx_sizes i)) ∙ sizes_now past e a sn addr v rx_sizes below is in
    let own = own_written starts past e a sn addr v (get_or old.registers sn other) written is it (held.shows.registers sn other below) write in
    record {
      tx_start = held.tx_start;
      rx_start = held.rx_start;
      common = λ at. held.common at ∙ sym (common_same past entry at on (not_common (access past e) sn addr v is));
      shows = record {
        registers = λ n none within at here. elim (cases_eq n sn) [
          | inl same ↦
              ap (λ (k : ℕ). get_or (get_or (set old.registers sn written) k none).bytes at 0) same
              ∙ ap (λ (r : SockRegs). get_or r.bytes at 0) (get_or-set_same old.registers sn written none inside)
              ∙ own at here
              ∙ sym (ap (λ (k : ℕ). socket_register starts (entry ∷ past) k at) same)
          | inr away ↦
              ap (λ (r : SockRegs). get_or r.bytes at 0) (get_or-set_other old.registers sn n written none away)
              ∙ held.shows.registers n none within at here
              ∙ sym (unwritten_reads starts past e a n at (it.nothing n) (not_there past e sn n addr v is away) here)
        ];
        sir = held.shows.sir ∙ sym (sir_of_same starts past entry sockets 1 (λ m. same_asks starts past e a sn addr v m is it));
      };
      lives = λ n other within. stays (get_or old.lives n other) past entry n (held.lives n other within) (it.nothing n);
      tx = tx_sized starts past e a sn addr v old rings tx rx below held is it tx_now sized;
      rx = rx_sized starts past e a sn addr v old rings tx rx below held is it rx_now sized;
      tx_sizes = sized.tx_now ∙ tx_now;
      rx_sizes = sized.rx_now ∙ rx_now;
    }

-- The stop.
pub both_false : (b c : Bool) → (b || c) ≡ false → (b ≡ false) × (c ≡ false)
both_false false false h = (refl, refl)
both_false true c h = cc
both_false false true h = cc

pub register_stop : (starts : Starts) (past : Past) (e : BusEvent) (sn addr v : ℕ) (sized some : Bool) → access past e ≡ Write (registers_of sn) addr v → addr ≢ 0x01
    → sized ≡ (resizes past rx_sizes (access past e) || resizes past tx_sizes (access past e)) → some ≡ any_open past sockets
    → stop starts past e ≡ where_it (sized && some) (SizeWhileOpen sn)
register_stop starts past e sn addr v sized some is other resized opened =
    writes_register starts past e sn addr v is (ne_eqb addr 0x01 other) ∙ sym (λ i. where_it (resized i && opened i) (SizeWhileOpen sn))

-- Whether a byte changes a size, place by place.
or_none : (b : Bool) → b ≡ (b || false)
or_none true = refl
or_none false = refl

both_are : (past : Past) (e : BusEvent) (sn addr v : ℕ) → access past e ≡ Write (registers_of sn) addr v
    → ((eqb addr 0x1E && not (eqb v (kilobytes past rx_sizes sn))) || (eqb addr 0x1F && not (eqb v (kilobytes past tx_sizes sn)))) ≡ (resizes past rx_sizes (access past e) || resizes past tx_sizes (access past e))
both_are past e sn addr v is = sym (λ i. resizes_is past e sn addr v rx_sizes is i || resizes_is past e sn addr v tx_sizes is i)

pub changes_rx : (starts : Starts) (past : Past) (e : BusEvent) (sn addr v k : ℕ) → access past e ≡ Write (registers_of sn) addr v → addr ≡ 0x1E → k ≡ socket_register starts past sn 0x1E
    → not (eqb v k) ≡ (resizes past rx_sizes (access past e) || resizes past tx_sizes (access past e))
changes_rx starts past e sn addr v k is here reads =
    ap (λ (x : ℕ). not (eqb v x)) (reads ∙ (by_name starts past sn).rx)
    ∙ or_none (not (eqb v (kilobytes past rx_sizes sn)))
    ∙ sym (ap (λ (at : ℕ). (eqb at 0x1E && not (eqb v (kilobytes past rx_sizes sn))) || (eqb at 0x1F && not (eqb v (kilobytes past tx_sizes sn)))) here)
    ∙ both_are past e sn addr v is

pub changes_tx : (starts : Starts) (past : Past) (e : BusEvent) (sn addr v k : ℕ) → access past e ≡ Write (registers_of sn) addr v → addr ≡ 0x1F → k ≡ socket_register starts past sn 0x1F
    → not (eqb v k) ≡ (resizes past rx_sizes (access past e) || resizes past tx_sizes (access past e))
changes_tx starts past e sn addr v k is here reads =
    ap (λ (x : ℕ). not (eqb v x)) (reads ∙ (by_name starts past sn).tx)
    ∙ sym (ap (λ (at : ℕ). (eqb at 0x1E && not (eqb v (kilobytes past rx_sizes sn))) || (eqb at 0x1F && not (eqb v (kilobytes past tx_sizes sn)))) here)
    ∙ both_are past e sn addr v is

pub changes_none : (past : Past) (e : BusEvent) (sn addr v : ℕ) → access past e ≡ Write (registers_of sn) addr v → addr ≢ 0x1E → addr ≢ 0x1F
    → false ≡ (resizes past rx_sizes (access past e) || resizes past tx_sizes (access past e))
changes_none past e sn addr v is rx tx =
    sym (λ i. (ne_eqb addr 0x1E rx i && not (eqb v (kilobytes past rx_sizes sn))) || (ne_eqb addr 0x1F tx i && not (eqb v (kilobytes past tx_sizes sn))))
    ∙ both_are past e sn addr v is
