-- The steps of the registers beside the definitions over a history.
use Rattle.std.proofs.Common.{◌≡◌, ℕ, ◌+◌, ◌-◌, ◌*◌, ◌<◌, ◌^◌, zero, suc, Bool, true, false, not, ◌&&◌, ◌||◌, cond, eqb, leb, Option, Some, None, ◌∷◌, [], refl, sym, ap, ◌∙◌, arith, inl, inr}
use lib.Bits.{bit_and}
use Rattle.std.specs.Prelude.{bit_or, unwrap_or}
use Rattle.std.specs.Option.{option_or}
use Rattle.std.proofs.lemmas.Bool.{cases_Bool, cond-true, cond-false, eq-eqb, eqb-true, ne_eqb, and_left, and_right, or_from, false≢true}
use Rattle.board_bus.specs.declared.event.BusAnswer.{BusAnswer}
use Rattle.board_bus.specs.declared.event.BusEvent.{BusEvent}
use Rattle.chip_sheet.specs.declared.event.Addr.{Addr}
use Rattle.chip_sheet.specs.declared.event.Entry.{Entry}
use Rattle.chip_sheet.specs.declared.event.Entry.TheVariants.{Bus, Link, Rest}
use Rattle.chip_sheet.specs.declared.event.LinkEntry.{LinkEntry}
use Rattle.chip_sheet.specs.declared.event.LinkEntry.TheVariants.{Accepted}
use Rattle.chip_sheet.specs.declared.phase.Access.{Access}
use Rattle.chip_sheet.specs.declared.phase.Access.TheVariants.{NoAccess, Read, Write}
use Rattle.chip_sheet.specs.declared.socket.Cause.TheVariants as because
use Rattle.chip_sheet.specs.declared.socket.Interrupt.{Interrupt}
use Rattle.chip_sheet.specs.declared.socket.Interrupt.TheVariants.{Connected, Disconnected, Received, TimedOut, SendOk}
use Rattle.chip_sheet.specs.Past.{Past}
use Rattle.chip_sheet.specs.Frames.{access, access_of}
use Rattle.chip_sheet.specs.Names.{mr, sn_ir}
use Rattle.chip_sheet.specs.Bits.{has_bit}
use Rattle.chip_sheet.specs.Blocks.{registers_of}
use Rattle.chip_sheet.specs.Registers.{is_reset, last_written, written_by, written_after}
use Rattle.chip_sheet.specs.Quiet.{writes_to}
use Rattle.chip_sheet.specs.Life.{cause, cause_by, mode}
use Rattle.chip_sheet.specs.Sizes.{kilobytes, tx_sizes, rx_sizes}
use Rattle.chip_sheet.specs.Peers.{peer_byte, peer_written, accepted_byte, destination, source_port}
use Rattle.chip_sheet.specs.Streams.{Starts}
use Rattle.chip_sheet.specs.Interrupts.{bit_value, raised, raised_by, interrupts_by, interrupt_register, clears, mask}
use Rattle.chip_sheet.specs.SocketBlock.{Shows, Written, Constant, Peer, Raised, socket_place, socket_register, shown_by}
use Rattle.chip_sheet.proofs.BitSums.{bit_sum}
use Rattle.chip_sheet.proofs.Quiet.{leaves_life, not_written, raises_nothing}
use Rattle.sock_regs.specs.Places.{is_kept, kept, with_bits, with_peer, accepted_by, reset_value, after_write, after_raise, after_peer, port_in, address_in}
use Rattle.sock_regs.proofs.BitBytes.{or_sum, or_none, cleared_sum, same_sum}
use Rattle.sock_regs.proofs.PlaceTable.{is_raised, raised_is, raised_reset}
use Rattle.chip_sheet.proofs.InterruptBits.{interrupt_at, sum_five, register_is}

value_at : (i : ℕ) → i < 5 → bit_value (interrupt_at i) ≡ 2 ^ i
value_at zero below = refl
value_at (suc zero) below = refl
value_at (suc (suc zero)) below = refl
value_at (suc (suc (suc zero))) below = refl
value_at (suc (suc (suc (suc zero)))) below = refl
value_at (suc (suc (suc (suc (suc more))))) below = absurd (omega arith)

raised_sum : (starts : Starts) (past : Past) (n : ℕ) (entry : Entry) → interrupts_by starts past n entry ≡ bit_sum (λ i. raised_by starts past n (interrupt_at i) entry) 5
raised_sum starts past n entry =
    sum_five (cond (raised_by starts past n Connected entry) 1 0) (cond (raised_by starts past n Disconnected entry) 2 0) (cond (raised_by starts past n Received entry) 4 0)
    (cond (raised_by starts past n TimedOut entry) 8 0) (cond (raised_by starts past n SendOk entry) 16 0)

not_cleared : (k b r : Bool) → k ≡ false → (r || b) ≡ (not k && (b || r))
not_cleared true b r h = absurd (false≢true (sym h))
not_cleared false true true h = refl
not_cleared false true false h = refl
not_cleared false false true h = refl
not_cleared false false false h = refl

-- What an entry raises is there with what was raised before, where it clears nothing.
raises : (starts : Starts) (past : Past) (n : ℕ) (entry : Entry) → ((bit : Interrupt) → clears (access_of past entry) n bit ≡ false)
    → bit_or (interrupt_register starts past n) (interrupts_by starts past n entry) ≡ interrupt_register starts (entry ∷ past) n
raises starts past n entry none =
    ap (λ (x : ℕ). bit_or x (interrupts_by starts past n entry)) (register_is starts past n)
    ∙ ap (bit_or (bit_sum (λ i. raised starts past n (interrupt_at i)) 5)) (raised_sum starts past n entry)
    ∙ or_sum (λ i. raised starts past n (interrupt_at i)) (λ i. raised_by starts past n (interrupt_at i) entry) 5
    ∙ same_sum _ (λ i. raised starts (entry ∷ past) n (interrupt_at i)) 5
    (λ i below. not_cleared (clears (access_of past entry) n (interrupt_at i)) (raised_by starts past n (interrupt_at i) entry) (raised starts past n (interrupt_at i)) (none (interrupt_at i)))
    ∙ sym (register_is starts (entry ∷ past) n)

only_cleared : (k c b r : Bool) → c ≡ k → b ≡ false → (not k && r) ≡ (not c && (b || r))
only_cleared k c true r same h = absurd (false≢true (sym h))
only_cleared k c false r same h = ap (λ (x : Bool). not x && r) (sym same)

-- A write of Sn_IR takes away the bits that are 1 in it.
takes_away : (starts : Starts) (past : Past) (n : ℕ) (entry : Entry) (v : ℕ) → cause past n entry ≡ because.Nothing
    → ((bit : Interrupt) → clears (access_of past entry) n bit ≡ has_bit v (bit_value bit))
    → bit_or (interrupt_register starts past n - bit_and (interrupt_register starts past n) v) (interrupts_by starts past n entry) ≡ interrupt_register starts (entry ∷ past) n
takes_away starts past n entry v nothing those =
    ap (bit_or (interrupt_register starts past n - bit_and (interrupt_register starts past n) v)) (leaves_life starts past entry n nothing).bits
    ∙ or_none _
    ∙ ap (λ (x : ℕ). x - bit_and x v) (register_is starts past n)
    ∙ cleared_sum (λ i. raised starts past n (interrupt_at i)) v 5
    ∙ same_sum _ (λ i. raised starts (entry ∷ past) n (interrupt_at i)) 5
    (λ i below. only_cleared (has_bit v (2 ^ i)) (clears (access_of past entry) n (interrupt_at i)) (raised_by starts past n (interrupt_at i) entry) (raised starts past n (interrupt_at i))
    (those (interrupt_at i) ∙ ap (has_bit v) (value_at i below)) (raises_nothing starts past entry n (interrupt_at i) nothing))
    ∙ sym (register_is starts (entry ∷ past) n)

all_cleared : (k b r : Bool) → k ≡ true → (not k && (b || r)) ≡ false
all_cleared true b r h = refl
all_cleared false b r h = absurd (false≢true h)

nothing_raised : (starts : Starts) (past : Past) (n : ℕ) (entry : Entry) → ((bit : Interrupt) → clears (access_of past entry) n bit ≡ true) → 0 ≡ interrupt_register starts (entry ∷ past) n
nothing_raised starts past n entry those =
    same_sum (λ i. false) (λ i. raised starts (entry ∷ past) n (interrupt_at i)) 5
    (λ i below. sym (all_cleared (clears (access_of past entry) n (interrupt_at i)) (raised_by starts past n (interrupt_at i) entry) (raised starts past n (interrupt_at i)) (those (interrupt_at i))))
    ∙ sym (register_is starts (entry ∷ past) n)

-- A write to the block of socket n.
no_reset : (n addr v : ℕ) → is_reset (Write (registers_of n) addr v) ≡ false
no_reset n addr v =
    and_left (eqb (registers_of n) 0 && eqb addr mr) (leb 128 v) (and_left (eqb (registers_of n) 0) (eqb addr mr) (ne_eqb (4 * n + 1) 0 (λ e. omega (arith, e))))

choose : (b : Bool) (v : ℕ) (earlier : Option ℕ) → option_or (cond b (Some v) None) earlier ≡ cond b (Some v) earlier
choose true v earlier = refl
choose false v earlier = refl

own_block : (n addr at v : ℕ) → written_by (Write (registers_of n) addr v) (registers_of n) at ≡ cond (eqb addr at) (Some v) None
own_block n addr at v = ap (λ (b : Bool). cond (b && eqb addr at) (Some v) None) (eq-eqb (registers_of n) (registers_of n) refl)

written_here : (n addr at v : ℕ) (earlier : Option ℕ) → written_after (Write (registers_of n) addr v) earlier (registers_of n) at ≡ cond (eqb addr at) (Some v) earlier
written_here n addr at v earlier =
    cond-false (is_reset (Write (registers_of n) addr v)) None _ (no_reset n addr v)
    ∙ ap (λ (o : Option ℕ). option_or o earlier) (own_block n addr at v)
    ∙ choose (eqb addr at) v earlier

shown_written : (b : Bool) (v reset : ℕ) (earlier : Option ℕ) → cond b v (unwrap_or earlier reset) ≡ unwrap_or (cond b (Some v) earlier) reset
shown_written true v reset earlier = refl
shown_written false v reset earlier = refl

peer_here : (n addr at v reset before : ℕ) → peer_written (Write (registers_of n) addr v) n at reset before ≡ cond (eqb addr at) v before
peer_here n addr at v reset before =
    cond-false (is_reset (Write (registers_of n) addr v)) reset _ (no_reset n addr v)
    ∙ ap (λ (o : Option ℕ). unwrap_or o before) (own_block n addr at v)
    ∙ sym (shown_written (eqb addr at) v before None)

clears_here : (n addr v : ℕ) (bit : Interrupt) → clears (Write (registers_of n) addr v) n bit ≡ (eqb addr sn_ir && has_bit v (bit_value bit))
clears_here n addr v bit =
    ap (λ (b : Bool). b || (eqb (registers_of n) (registers_of n) && eqb addr sn_ir && has_bit v (bit_value bit))) (no_reset n addr v)
    ∙ ap (λ (b : Bool). b && eqb addr sn_ir && has_bit v (bit_value bit)) (eq-eqb (registers_of n) (registers_of n) refl)

no_command : (past : Past) (n addr v : ℕ) → eqb addr sn_ir ≡ true → cause_by past n (Write (registers_of n) addr v) ≡ because.Nothing
no_command past n addr v here =
    cond-false (is_reset (Write (registers_of n) addr v)) because.Reset _ (no_reset n addr v)
    ∙ cond-false _ _ _ (and_right _ _ (ne_eqb addr 1 (λ e. let is = eqb-true addr sn_ir here in omega (arith, e, is))))

same_choice : (b : Bool) (x : ℕ) → cond b x x ≡ x
same_choice true x = refl
same_choice false x = refl

interrupts_written : (starts : Starts) (past : Past) (e : BusEvent) (a : BusAnswer) (n addr v : ℕ) → access past e ≡ Write (registers_of n) addr v
    → bit_or (cond (eqb addr sn_ir) (interrupt_register starts past n - bit_and (interrupt_register starts past n) v) (interrupt_register starts past n)) (interrupts_by starts past n (Bus e a))
    ≡ interrupt_register starts (Bus e a ∷ past) n
interrupts_written starts past e a n addr v made =
    elim (cases_Bool (eqb addr sn_ir)) [
      | inl here ↦
          ap (λ (b : Bool). bit_or (cond b (interrupt_register starts past n - bit_and (interrupt_register starts past n) v) (interrupt_register starts past n)) (interrupts_by starts past n (Bus e a))) here
          ∙ takes_away starts past n (Bus e a) v
          (ap (λ (m : Access). cause_by past n m) made ∙ no_command past n addr v here)
          (λ bit. ap (λ (m : Access). clears m n bit) made ∙ clears_here n addr v bit ∙ ap (λ (b : Bool). b && has_bit v (bit_value bit)) here)
      | inr other ↦
          ap (λ (b : Bool). bit_or (cond b (interrupt_register starts past n - bit_and (interrupt_register starts past n) v) (interrupt_register starts past n)) (interrupts_by starts past n (Bus e a))) other
          ∙ raises starts past n (Bus e a)
          (λ bit. ap (λ (m : Access). clears m n bit) made ∙ clears_here n addr v bit ∙ ap (λ (b : Bool). b && has_bit v (bit_value bit)) other)
    ]

write_step : (s : Shows) (starts : Starts) (past : Past) (e : BusEvent) (a : BusAnswer) (n addr v at reset index : ℕ) → is_raised s ≡ eqb 2 at → is_kept s ≡ true
    → access past e ≡ Write (registers_of n) addr v
    → with_bits s (interrupts_by starts past n (Bus e a)) (cond (eqb addr at) (kept s v (shown_by starts past n at reset index s)) (shown_by starts past n at reset index s))
    ≡ shown_by starts (Bus e a ∷ past) n at reset index s
write_step Written starts past e a n addr v at reset index alone here made =
    shown_written (eqb addr at) v reset (last_written past (registers_of n) at)
    ∙ ap (λ (o : Option ℕ). unwrap_or o reset) (sym (written_here n addr at v (last_written past (registers_of n) at)))
    ∙ sym (ap (λ (m : Access). unwrap_or (written_after m (last_written past (registers_of n) at) (registers_of n) at) reset) made)
write_step Constant starts past e a n addr v at reset index alone here made = same_choice (eqb addr at) reset
write_step Peer starts past e a n addr v at reset index alone here made =
    sym (peer_here n addr at v reset (peer_byte past n at reset))
    ∙ sym (ap (λ (m : Access). peer_written m n at reset (peer_byte past n at reset)) made)
write_step Raised starts past e a n addr v at reset index alone here made =
    let is : 2 ≡ at = eqb-true 2 at (sym alone) in
    ap (λ (k : ℕ). bit_or (cond (eqb addr k) (interrupt_register starts past n - bit_and (interrupt_register starts past n) v) (interrupt_register starts past n)) (interrupts_by starts past n (Bus e a))) (sym is)
    ∙ interrupts_written starts past e a n addr v made
write_step s starts past e a n addr v at reset index alone here made = absurd (false≢true here)

pub writes : (starts : Starts) (past : Past) (e : BusEvent) (a : BusAnswer) (n addr v at : ℕ) → access past e ≡ Write (registers_of n) addr v → is_kept (socket_place at).shows ≡ true
    → after_raise (interrupts_by starts past n (Bus e a)) (after_write addr v (socket_register starts past n)) at ≡ socket_register starts (Bus e a ∷ past) n at
writes starts past e a n addr v at made here =
    write_step (socket_place at).shows starts past e a n addr v at (socket_place at).reset (socket_place at).index (raised_is at) here made

-- An accepted peer.
accepted_step : (s : Shows) (starts : Starts) (past : Past) (from : Addr) (n at reset index : ℕ) → is_kept s ≡ true
    → with_bits s (interrupts_by starts past n (Link n (Accepted from))) (with_peer s from at (shown_by starts past n at reset index s))
    ≡ shown_by starts (Link n (Accepted from) ∷ past) n at reset index s
accepted_step Written starts past from n at reset index here = refl
accepted_step Constant starts past from n at reset index here = refl
accepted_step Peer starts past from n at reset index here = sym (cond-true (eqb n n) _ _ (eq-eqb n n refl))
accepted_step Raised starts past from n at reset index here = raises starts past n (Link n (Accepted from)) (λ bit. refl)
accepted_step s starts past from n at reset index here = absurd (false≢true here)

pub accepts : (starts : Starts) (past : Past) (from : Addr) (n at : ℕ) → is_kept (socket_place at).shows ≡ true
    → after_raise (interrupts_by starts past n (Link n (Accepted from))) (after_peer from (socket_register starts past n)) at ≡ socket_register starts (Link n (Accepted from) ∷ past) n at
accepts starts past from n at here = accepted_step (socket_place at).shows starts past from n at (socket_place at).reset (socket_place at).index here

-- A reset.
clears_all : (made : Access) (n : ℕ) (bit : Interrupt) → is_reset made ≡ true → clears made n bit ≡ true
clears_all NoAccess n bit h = absurd (false≢true h)
clears_all (Read block addr) n bit h = absurd (false≢true h)
clears_all (Write block addr v) n bit h = ap (λ (b : Bool). b || (eqb block (registers_of n) && eqb addr sn_ir && has_bit v (bit_value bit))) h

reset_peer : (past : Past) (entry : Entry) (n at reset : ℕ) → is_reset (access_of past entry) ≡ true → peer_byte (entry ∷ past) n at reset ≡ reset
reset_peer past (Bus e a) n at reset h = cond-true (is_reset (access past e)) reset _ h
reset_peer past (Link m what) n at reset h = absurd (false≢true h)
reset_peer past Rest n at reset h = absurd (false≢true h)

reset_step : (s : Shows) (starts : Starts) (past : Past) (entry : Entry) (n at reset index : ℕ) → (is_raised s ≡ true → reset ≡ 0) → is_kept s ≡ true
    → is_reset (access_of past entry) ≡ true → reset ≡ shown_by starts (entry ∷ past) n at reset index s
reset_step Written starts past entry n at reset index none here h =
    ap (λ (b : Bool). unwrap_or (cond b None (option_or (written_by (access_of past entry) (registers_of n) at) (last_written past (registers_of n) at))) reset) (sym h)
reset_step Constant starts past entry n at reset index none here h = refl
reset_step Peer starts past entry n at reset index none here h = sym (reset_peer past entry n at reset h)
reset_step Raised starts past entry n at reset index none here h = none refl ∙ nothing_raised starts past n entry (λ bit. clears_all (access_of past entry) n bit h)
reset_step s starts past entry n at reset index none here h = absurd (false≢true here)

pub resets : (starts : Starts) (past : Past) (entry : Entry) (n at : ℕ) → is_reset (access_of past entry) ≡ true → is_kept (socket_place at).shows ≡ true
    → reset_value at ≡ socket_register starts (entry ∷ past) n at
resets starts past entry n at h here =
    reset_step (socket_place at).shows starts past entry n at (socket_place at).reset (socket_place at).index (raised_reset at) here h

fresh_step : (s : Shows) (starts : Starts) (n at reset index : ℕ) → (is_raised s ≡ true → reset ≡ 0) → is_kept s ≡ true → reset ≡ shown_by starts [] n at reset index s
fresh_step Written starts n at reset index none here = refl
fresh_step Constant starts n at reset index none here = refl
fresh_step Peer starts n at reset index none here = refl
fresh_step Raised starts n at reset index none here = none refl
fresh_step s starts n at reset index none here = absurd (false≢true here)

pub fresh : (starts : Starts) (n at : ℕ) → is_kept (socket_place at).shows ≡ true → reset_value at ≡ socket_register starts [] n at
fresh starts n at here = fresh_step (socket_place at).shows starts n at (socket_place at).reset (socket_place at).index (raised_reset at) here

-- An entry that is none of these.
still_written : (past : Past) (entry : Entry) (n at : ℕ) → is_reset (access_of past entry) ≡ false → writes_to (access_of past entry) (registers_of n) ≡ false
    → last_written past (registers_of n) at ≡ last_written (entry ∷ past) (registers_of n) at
still_written past entry n at running other =
    sym (cond-false (is_reset (access_of past entry)) None _ running
    ∙ ap (λ (o : Option ℕ). option_or o (last_written past (registers_of n) at)) (not_written (access_of past entry) (registers_of n) at other))

none_accepted : (b : Bool) (from : Addr) (at before : ℕ) (o : Option Addr) → cond b (Some from) None ≡ o → o ≡ None → before ≡ cond b (accepted_byte (Accepted from) at before) before
none_accepted true from at before o is h = cc
none_accepted false from at before o is h = refl

link_peer : (m n : ℕ) (what : LinkEntry) (at before : ℕ) → accepted_by n (Link m what) ≡ None → before ≡ cond (eqb m n) (accepted_byte what at before) before
link_peer m n (Accepted from) at before h = none_accepted (eqb m n) from at before (accepted_by n (Link m (Accepted from))) refl h
link_peer m n what at before h = sym (same_choice (eqb m n) before)

still_peer : (past : Past) (entry : Entry) (n at reset : ℕ) → is_reset (access_of past entry) ≡ false → writes_to (access_of past entry) (registers_of n) ≡ false → accepted_by n entry ≡ None
    → peer_byte past n at reset ≡ peer_byte (entry ∷ past) n at reset
still_peer past (Bus e a) n at reset running other h =
    sym (cond-false (is_reset (access past e)) reset _ running
    ∙ ap (λ (o : Option ℕ). unwrap_or o (peer_byte past n at reset)) (not_written (access past e) (registers_of n) at other))
still_peer past (Link m what) n at reset running other h = link_peer m n what at (peer_byte past n at reset) h
still_peer past Rest n at reset running other h = refl

clears_none : (made : Access) (n : ℕ) (bit : Interrupt) → is_reset made ≡ false → writes_to made (registers_of n) ≡ false → clears made n bit ≡ false
clears_none NoAccess n bit running other = refl
clears_none (Read block addr) n bit running other = refl
clears_none (Write block addr v) n bit running other =
    or_from (is_reset (Write block addr v)) (eqb block (registers_of n) && eqb addr sn_ir && has_bit v (bit_value bit)) running
    (and_left (eqb block (registers_of n) && eqb addr sn_ir) (has_bit v (bit_value bit)) (and_left (eqb block (registers_of n)) (eqb addr sn_ir) other))

others_step : (s : Shows) (starts : Starts) (past : Past) (entry : Entry) (n at reset index : ℕ) → is_kept s ≡ true → is_reset (access_of past entry) ≡ false
    → writes_to (access_of past entry) (registers_of n) ≡ false → accepted_by n entry ≡ None
    → with_bits s (interrupts_by starts past n entry) (shown_by starts past n at reset index s) ≡ shown_by starts (entry ∷ past) n at reset index s
others_step Written starts past entry n at reset index here running other h = ap (λ (o : Option ℕ). unwrap_or o reset) (still_written past entry n at running other)
others_step Constant starts past entry n at reset index here running other h = refl
others_step Peer starts past entry n at reset index here running other h = still_peer past entry n at reset running other h
others_step Raised starts past entry n at reset index here running other h = raises starts past n entry (λ bit. clears_none (access_of past entry) n bit running other)
others_step s starts past entry n at reset index here running other h = absurd (false≢true here)

pub others : (starts : Starts) (past : Past) (entry : Entry) (n at : ℕ) → is_reset (access_of past entry) ≡ false → writes_to (access_of past entry) (registers_of n) ≡ false
    → accepted_by n entry ≡ None → is_kept (socket_place at).shows ≡ true
    → after_raise (interrupts_by starts past n entry) (socket_register starts past n) at ≡ socket_register starts (entry ∷ past) n at
others starts past entry n at running other h here =
    others_step (socket_place at).shows starts past entry n at (socket_place at).reset (socket_place at).index here running other h

-- What the registers hold, by name.
pub record ByName (starts : Starts) (past : Past) (n : ℕ) : Type 0 where
  pub mode : socket_register starts past n 0x00 ≡ mode past n
  pub interrupts : socket_register starts past n 0x02 ≡ interrupt_register starts past n
  pub mask : socket_register starts past n 0x2C ≡ mask past n
  pub tx : socket_register starts past n 0x1F ≡ kilobytes past tx_sizes n
  pub rx : socket_register starts past n 0x1E ≡ kilobytes past rx_sizes n
  pub port : port_in (socket_register starts past n) ≡ source_port past n
  pub destination : address_in (socket_register starts past n) ≡ destination past n

pub by_name : (starts : Starts) (past : Past) (n : ℕ) → ByName starts past n
unfolding socket_place
by_name starts past n = record { mode = refl; interrupts = refl; mask = refl; tx = refl; rx = refl; port = refl; destination = refl }
