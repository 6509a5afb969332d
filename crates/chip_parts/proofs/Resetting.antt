-- The parts after a write to the common block, and its stop.
use Rattle.std.proofs.Common.{◌≡◌, ◌<◌, ◌≤◌, ℕ, ◌+◌, Bool, true, false, ◌&&◌, cond, eqb, ltb, leb, List, [], ◌∷◌, length, set, get_or, map, replicate, Option, None, Some, inl, inr, refl, sym, ap, ◌∙◌, subst, arith, ◌/◌, ◌%◌}
use Rattle.std.specs.Option.{unwrap_or, is_some}
use Rattle.std.proofs.lemmas.Bool.{cases_eq, and_parts, leb-true, le-ltb}
use Rattle.std.proofs.lemmas.List.{get_or-set_same, get_or-set_other, get_or_default}
use Rattle.board_bus.specs.declared.event.BusEvent.{BusEvent}
use Rattle.chip_sheet.specs.declared.block.Block.TheVariants.{Common}
use Rattle.chip_sheet.specs.declared.event.Addr.{Addr}
use Rattle.chip_sheet.specs.declared.event.Entry.{Entry}
use Rattle.chip_sheet.specs.declared.phase.Access.TheVariants.{Write}
use Rattle.chip_sheet.specs.declared.socket.Cause.{Cause}
use Rattle.chip_sheet.specs.declared.socket.Cause.TheVariants as because
use Rattle.chip_sheet.specs.declared.stop.ChipStop.TheVariants as stops
use Rattle.chip_sheet.specs.Past.{Past}
use Rattle.chip_sheet.specs.Frames.{access, access_of}
use Rattle.chip_sheet.specs.Blocks.{sockets, registers_of}
use Rattle.chip_sheet.specs.Registers.{is_reset, common_register}
use Rattle.chip_sheet.specs.Peers.{destination, source_port}
use Rattle.chip_sheet.specs.Sizes.{kilobytes, tx_sizes, rx_sizes}
use Rattle.chip_sheet.specs.Streams.{Starts}
use Rattle.chip_sheet.specs.Sending as sending_of
use Rattle.chip_sheet.specs.Receiving as receiving_of
use Rattle.chip_sheet.specs.Stops.{Writes, where_it, pppoe, stop}
use Rattle.chip_sheet.proofs.ResetLaws.{reset_cause}
use Rattle.chip_sheet.proofs.ResetRestores.{none_written, reads_restored, sending_fresh, receiving_fresh}
use Rattle.chip_steps.proofs.StopSteps.{writes_common}
use Rattle.common_regs.specs.Holding as common
use Rattle.common_regs.specs.Places.{kind_of}
use Rattle.common_regs.specs.declared.registers.Wrote.TheVariants as wrote
use Rattle.common_regs.proofs.Steps.{stands_where}
use Rattle.sock_regs.specs.declared.registers.SockRegs.{SockRegs}
use Rattle.sock_regs.specs.Holding.{Reads}
use Rattle.sock_regs.specs.Places.{reset_value}
use Rattle.sock_regs.proofs.History.{resets}
use Rattle.sock_cmd.specs.declared.life.Life.{Life}
use Rattle.sock_cmd.specs.Lives.{Happened}
use Rattle.sock_cmd.proofs.SocketLives.{goes_on}
use Rattle.ring_mem.specs.Buffers.{TxHolds, RxHolds, tx_kilobytes, rx_kilobytes}
use Rattle.chip_parts.specs.declared.parts.Parts.{Parts}
use Rattle.chip_parts.specs.Holding.{Holds}

-- What a reset makes of the parts.
pub record Resets (old new : Parts) : Type 0 where
  pub tx_start : new.tx_start ≡ old.tx_start
  pub rx_start : new.rx_start ≡ old.rx_start
  pub registers : (n : ℕ) (other : SockRegs) → n < 8 → Reads (get_or new.registers n other) reset_value
  pub lives : (n : ℕ) (other : Life) (to : Addr) (port : ℕ) → n < 8 → Happened (get_or old.lives n other) because.Reset to port (get_or new.lives n other)
  pub sir : new.sir ≡ 0
  pub tx : (n : ℕ) → n < 8 → TxHolds new.rings n (sending_of.fresh 2048)
  pub rx : (n : ℕ) → n < 8 → RxHolds new.rings n (receiving_of.fresh 2048)
  pub tx_sizes : tx_kilobytes new.rings ≡ replicate 8 2
  pub rx_sizes : rx_kilobytes new.rings ≡ replicate 8 2

two_each : (past : Past) (entry : Entry) (sizes : ℕ) → is_reset (access_of past entry) ≡ true → replicate 8 2 ≡ map (kilobytes (entry ∷ past) sizes) sockets
two_each past entry sizes h =
    let two : (n : ℕ) → 2 ≡ kilobytes (entry ∷ past) sizes n = λ n. sym (ap (λ (w : Option ℕ). unwrap_or w 2) (none_written past entry (registers_of n) sizes h)) in
    λ i. two 0 i ∷ two 1 i ∷ two 2 i ∷ two 3 i ∷ two 4 i ∷ two 5 i ∷ two 6 i ∷ two 7 i ∷ []

pub reset_steps : (starts : Starts) (past : Past) (entry : Entry) (old new : Parts) → Holds starts old past → is_reset (access_of past entry) ≡ true
    → common.Reads new.common (common_register (entry ∷ past)) → Resets old new → Holds starts new (entry ∷ past)
reset_steps starts past entry old new held h reads made = record {
  tx_start = made.tx_start ∙ held.tx_start;
  rx_start = made.rx_start ∙ held.rx_start;
  common = reads;
  shows = record {
    registers = λ n other below at here. made.registers n other below at here ∙ resets starts past entry n at h here;
    sir = made.sir ∙ sym (reads_restored starts past entry Common 0x17 h);
  };
  lives = λ n other below.
      goes_on (get_or old.lives n other) (get_or new.lives n other) past entry n (held.lives n other below)
      (subst (λ (why : Cause). Happened (get_or old.lives n other) why (destination past n) (source_port past n) (get_or new.lives n other)) (sym (reset_cause past entry n h))
      (made.lives n other (destination past n) (source_port past n) below));
  tx = λ n below. subst (λ (s : sending_of.Sending). TxHolds new.rings n s) (sym (sending_fresh starts past entry n h)) (made.tx n below);
  rx = λ n below. subst (λ (g : receiving_of.Receiving). RxHolds new.rings n g) (sym (receiving_fresh starts past entry n h)) (made.rx n below);
  tx_sizes = made.tx_sizes ∙ two_each past entry tx_sizes h;
  rx_sizes = made.rx_sizes ∙ two_each past entry rx_sizes h;
}

-- What a write to the common block is.
reset_kind : (r p : Bool) → wrote.Reset ≡ cond r wrote.Reset (cond p wrote.Pppoe wrote.Plain) → r ≡ true
reset_kind true p h = refl
reset_kind false true h = cc
reset_kind false false h = cc

pppoe_kind : (r p : Bool) → wrote.Pppoe ≡ cond r wrote.Reset (cond p wrote.Pppoe wrote.Plain) → p ≡ true
pppoe_kind true p h = cc
pppoe_kind false true h = refl
pppoe_kind false false h = cc

plain_kind : (r p : Bool) → wrote.Plain ≡ cond r wrote.Reset (cond p wrote.Pppoe wrote.Plain) → (r ≡ false) × (p ≡ false)
plain_kind true p h = cc
plain_kind false true h = cc
plain_kind false false h = (refl, refl)

pub is_a_reset : (addr v : ℕ) → wrote.Reset ≡ kind_of addr v → is_reset (Write 0 addr v) ≡ true
is_a_reset addr v h = reset_kind (is_reset (Write 0 addr v)) (is_some (pppoe (Writes 0 Common addr v))) h

pub is_plain : (addr v : ℕ) → wrote.Plain ≡ kind_of addr v → is_reset (Write 0 addr v) ≡ false
is_plain addr v h = (plain_kind (is_reset (Write 0 addr v)) (is_some (pppoe (Writes 0 Common addr v))) h).0

none_or : (x y z : Bool) → y ≡ false → (x && y && z) ≡ false
none_or true true z h = cc
none_or false true z h = cc
none_or true false z h = refl
none_or false false z h = refl

-- Its stop.
pub plain_goes : (starts : Starts) (past : Past) (e : BusEvent) (addr v : ℕ) → access past e ≡ Write 0 addr v → wrote.Plain ≡ kind_of addr v → stop starts past e ≡ None
plain_goes starts past e addr v is h =
    let row = eqb addr 0x00 && ltb v 128 && eqb (v / 8 % 2) 1 in
    writes_common starts past e addr v is
    ∙ ap (λ (b : Bool). where_it b stops.Pppoe) (sym (stands_where row stops.Pppoe) ∙ (plain_kind (is_reset (Write 0 addr v)) (is_some (pppoe (Writes 0 Common addr v))) h).1)

pub reset_goes : (starts : Starts) (past : Past) (e : BusEvent) (addr v : ℕ) → access past e ≡ Write 0 addr v → wrote.Reset ≡ kind_of addr v → stop starts past e ≡ None
reset_goes starts past e addr v is h =
    let high : 128 ≤ v = leb-true 128 v (and_parts (eqb addr 0x00) (leb 128 v) (is_a_reset addr v h)).1 in
    writes_common starts past e addr v is
    ∙ ap (λ (b : Bool). where_it b stops.Pppoe) (none_or (eqb addr 0x00) (ltb v 128) (eqb (v / 8 % 2) 1) (le-ltb v 128 high))

pub pppoe_stops : (starts : Starts) (past : Past) (e : BusEvent) (addr v : ℕ) → access past e ≡ Write 0 addr v → wrote.Pppoe ≡ kind_of addr v → stop starts past e ≡ Some stops.Pppoe
pppoe_stops starts past e addr v is h =
    let row = eqb addr 0x00 && ltb v 128 && eqb (v / 8 % 2) 1 in
    writes_common starts past e addr v is
    ∙ ap (λ (b : Bool). where_it b stops.Pppoe) (sym (stands_where row stops.Pppoe) ∙ pppoe_kind (is_reset (Write 0 addr v)) (is_some (pppoe (Writes 0 Common addr v))) h)

-- One more life is reset.
pub one_more : (old lives : List Life) (n : ℕ) (now d : Life) → n < length lives → n < length old → ((to : Addr) (port : ℕ) → Happened (get_or lives n d) because.Reset to port now)
    → ((m : ℕ) (other : Life) (to : Addr) (port : ℕ) → m < n → Happened (get_or old m other) because.Reset to port (get_or lives m other))
    → ((m : ℕ) (other : Life) → n ≤ m → get_or lives m other ≡ get_or old m other)
    → (m : ℕ) (other : Life) (to : Addr) (port : ℕ) → m < n + 1 → Happened (get_or old m other) because.Reset to port (get_or (set lives n now) m other)
one_more old lives n now d within inside resets done rest m other to port below =
    elim (cases_eq m n) [
      | inl is ↦
          let was : get_or lives n d ≡ get_or old m other = rest n d (omega arith) ∙ get_or_default old n d other inside ∙ ap (λ (k : ℕ). get_or old k other) (sym is) in
          let new : now ≡ get_or (set lives n now) m other = sym (ap (λ (k : ℕ). get_or (set lives n now) k other) is ∙ get_or-set_same lives n now other within) in
          subst (λ (l : Life). Happened l because.Reset to port (get_or (set lives n now) m other)) was
          (subst (λ (l : Life). Happened (get_or lives n d) because.Reset to port l) new (resets to port))
      | inr away ↦
          subst (λ (l : Life). Happened (get_or old m other) because.Reset to port l) (sym (get_or-set_other lives n m now other away))
          (done m other to port (omega (arith, below, away)))
    ]

-- The others are as they were.
pub others_rest : (old lives : List Life) (n : ℕ) (now : Life) → ((m : ℕ) (other : Life) → n ≤ m → get_or lives m other ≡ get_or old m other)
    → (m : ℕ) (other : Life) → n + 1 ≤ m → get_or (set lives n now) m other ≡ get_or old m other
others_rest old lives n now rest m other above = get_or-set_other lives n m now other (λ z. omega (arith, above, z)) ∙ rest m other (omega (arith, above))
