-- What an event without a stop and a link event that fits say, row by row.
use Rattle.std.proofs.Common.{◌≡◌, ℕ, ◌+◌, ◌*◌, ◌/◌, ◌%◌, Bool, true, false, ◌&&◌, cond, eqb, List, [], ◌∷◌, Option, None, Some, refl, sym, ap, ◌∙◌, arith}
use Rattle.std.proofs.lemmas.Bool.{and_parts, eqb-true, ne_eqb, eq-eqb, cond-true, cond-false}
use Rattle.chip_sheet.specs.declared.phase.Access.{Access}
use Rattle.chip_sheet.specs.declared.phase.Access.TheVariants.{NoAccess, Read, Write}
use Rattle.chip_sheet.specs.declared.block.Block.TheVariants.{Common, Registers}
use Rattle.chip_sheet.specs.declared.socket.Cause.{Cause}
use Rattle.chip_sheet.specs.declared.socket.Cause.TheVariants as because
use Rattle.chip_sheet.specs.declared.stop.ChipStop.{ChipStop}
use Rattle.chip_sheet.specs.Past.{Past}
use Rattle.chip_sheet.specs.Blocks.{block_of, registers_of}
use Rattle.chip_sheet.specs.Registers.{is_reset}
use Rattle.chip_sheet.specs.Life.{cause_by, command, opening, protocol}
use Rattle.chip_sheet.specs.Streams.{Starts}
use Rattle.chip_sheet.specs.Stops.{BlockAccess, Writes, first, block_access, stop_by, where_it, reserved_block, pppoe, size_while_open, overwrite_in_flight, refused_command, CommandFacts, command_stop, command_facts, send_mac, raw_ethernet, multicast, bad_buffer_size, send_busy, send_too_long, recv_past_end}

-- No row stops an access.
pub record NoRow (starts : Starts) (past : Past) (made : BlockAccess) : Type 0 where
  pub size : size_while_open past made ≡ None
  pub overwrite : overwrite_in_flight starts past made ≡ None
  pub command : refused_command starts past made ≡ None

first_none : (row : Option ChipStop) (more : List (Option ChipStop)) → first (row ∷ more) ≡ None → (row ≡ None) × (first more ≡ None)
first_none None more h = (refl, h)
first_none (Some stop) more h = cc

-- Of five rows none stops.
record NoneOf (a b c d e : Option ChipStop) : Type 0 where
  third : c ≡ None
  fourth : d ≡ None
  fifth : e ≡ None

none_of : (a b c d e : Option ChipStop) → first (a ∷ b ∷ c ∷ d ∷ e ∷ []) ≡ None → NoneOf a b c d e
none_of a b c d e all =
    let from_b = first_none a (b ∷ c ∷ d ∷ e ∷ []) all in
    let from_c = first_none b (c ∷ d ∷ e ∷ []) from_b.1 in
    let from_d = first_none c (d ∷ e ∷ []) from_c.1 in
    let from_e = first_none d (e ∷ []) from_d.1 in
    let end = first_none e [] from_e.1 in
    record { third = from_d.0; fourth = from_e.0; fifth = end.0 }

pub no_row : (starts : Starts) (past : Past) (made : BlockAccess) → stop_by starts past made ≡ None → NoRow starts past made
no_row starts past made h =
    let none = none_of (reserved_block made) (pppoe made) (size_while_open past made) (overwrite_in_flight starts past made) (refused_command starts past made) h in
    record { size = none.third; overwrite = none.fourth; command = none.fifth }

-- No row stops a command.
pub record NoCommandRow (n : ℕ) (facts : CommandFacts) (v : ℕ) : Type 0 where
  pub many : multicast n facts.status facts.mode v ≡ None
  pub sizes : bad_buffer_size n facts.status facts.mode facts.valid v ≡ None
  pub busy : send_busy n facts.status facts.flight v ≡ None
  pub send : send_too_long n facts.status facts.len facts.free v ≡ None
  pub recv : recv_past_end n facts.status facts.asked facts.there v ≡ None

none_of_seven : (a b c d e f g : Option ChipStop) → first (a ∷ b ∷ c ∷ d ∷ e ∷ f ∷ g ∷ []) ≡ None → (c ≡ None) × (d ≡ None) × (e ≡ None) × (f ≡ None) × (g ≡ None)
none_of_seven a b c d e f g all =
    let from_b = first_none a (b ∷ c ∷ d ∷ e ∷ f ∷ g ∷ []) all in
    let from_c = first_none b (c ∷ d ∷ e ∷ f ∷ g ∷ []) from_b.1 in
    let rest = none_of c d e f g from_c.1 in
    let from_d = first_none c (d ∷ e ∷ f ∷ g ∷ []) from_c.1 in
    let from_e = first_none d (e ∷ f ∷ g ∷ []) from_d.1 in
    (from_d.0, from_e.0, rest.third, rest.fourth, rest.fifth)

pub no_command_row : (n : ℕ) (facts : CommandFacts) (v : ℕ) → command_stop n facts v ≡ None → NoCommandRow n facts v
no_command_row n facts v h =
    let none = none_of_seven (send_mac n v) (raw_ethernet n facts.status facts.mode v) (multicast n facts.status facts.mode v)
    (bad_buffer_size n facts.status facts.mode facts.valid v) (send_busy n facts.status facts.flight v)
    (send_too_long n facts.status facts.len facts.free v) (recv_past_end n facts.status facts.asked facts.there v) h in
    record { many = none.0; sizes = none.1; busy = none.2; send = none.3; recv = none.4 }

pub none_there : (b : Bool) (stop : ChipStop) → where_it b stop ≡ None → b ≡ false
none_there true stop h = cc
none_there false stop h = refl

-- The select bits of a register block name its socket.
bits_test : (n : ℕ) → eqb (registers_of n) 0 ≡ false
bits_test n = ne_eqb (4 * n + 1) 0 (λ e. omega (arith, e))

bits_rest : (n : ℕ) → (4 * n + 1) % 4 ≡ 1
bits_rest n = omega arith

bits_whole : (n : ℕ) → (4 * n + 1) / 4 ≡ n
bits_whole n = omega arith

pub registers_block : (n : ℕ) → block_of (registers_of n) ≡ Registers n
registers_block n =
    cond-false (eqb (4 * n + 1) 0) Common _ (bits_test n)
    ∙ cond-true (eqb ((4 * n + 1) % 4) 1) (Registers ((4 * n + 1) / 4)) _ (eq-eqb _ 1 (bits_rest n))
    ∙ ap Registers (bits_whole n)

-- Which access a command is: a write of its byte to Sn_CR.
not_reset : (b : Bool) (why asked : Cause) → (because.Reset ≡ asked → ⊥) → cond b because.Reset why ≡ asked → (b ≡ false) × (why ≡ asked)
not_reset true why asked other h = absurd (other h)
not_reset false why asked other h = (refl, h)

is_there : (b : Bool) (why asked : Cause) → (because.Nothing ≡ asked → ⊥) → cond b why because.Nothing ≡ asked → (b ≡ true) × (why ≡ asked)
is_there true why asked other h = (refl, h)
is_there false why asked other h = absurd (other h)

-- A command that this access gives to socket n.
pub record Commands (past : Past) (n : ℕ) (made : Access) (asked : Cause) : Type 0 where
  pub byte : ℕ
  pub is : made ≡ Write (registers_of n) 0x01 byte
  pub asks : command (protocol past n) byte ≡ asked

pub commands : (past : Past) (n : ℕ) (made : Access) (asked : Cause) → (because.Reset ≡ asked → ⊥) → (because.Nothing ≡ asked → ⊥)
    → cause_by past n made ≡ asked → Commands past n made asked
commands past n NoAccess asked other none h = absurd (none h)
commands past n (Read block addr) asked other none h = absurd (none h)
commands past n (Write block addr v) asked other none h =
    let on = not_reset (is_reset (Write block addr v)) _ asked other h in
    let there = is_there (eqb block (registers_of n) && eqb addr 0x01) _ asked none on.1 in
    let at = and_parts (eqb block (registers_of n)) (eqb addr 0x01) there.0 in
    let block_is = eqb-true block (registers_of n) at.0 in
    let addr_is = eqb-true addr 0x01 at.1 in
    record { byte = v; is = rw (block_is, addr_is) refl; asks = there.1 }

-- OPEN asks for nothing else.
opening_is : (p q : Bool) (asked : Cause) → (because.OpenTcp ≡ asked → ⊥) → (because.OpenUdp ≡ asked → ⊥) → (because.Nothing ≡ asked → ⊥)
    → cond p because.OpenTcp (cond q because.OpenUdp because.Nothing) ≡ asked → ⊥
opening_is true q asked tcp udp none h = tcp h
opening_is false true asked tcp udp none h = udp h
opening_is false false asked tcp udp none h = none h

-- Which byte SEND is, and which RECV.
send_test : (a b c d e s r : Bool) (o : Cause) → (o ≡ because.Send → ⊥)
    → cond a o (cond b because.Listen (cond c because.Connect (cond d because.Disconnect (cond e because.Close (cond s because.Send (cond r because.Receive because.Nothing)))))) ≡ because.Send → s ≡ true
send_test true b c d e s r o other h = absurd (other h)
send_test false true c d e s r o other h = cc
send_test false false true d e s r o other h = cc
send_test false false false true e s r o other h = cc
send_test false false false false true s r o other h = cc
send_test false false false false false true r o other h = refl
send_test false false false false false false true o other h = cc
send_test false false false false false false false o other h = cc

recv_test : (a b c d e s r : Bool) (o : Cause) → (o ≡ because.Receive → ⊥)
    → cond a o (cond b because.Listen (cond c because.Connect (cond d because.Disconnect (cond e because.Close (cond s because.Send (cond r because.Receive because.Nothing)))))) ≡ because.Receive → r ≡ true
recv_test true b c d e s r o other h = absurd (other h)
recv_test false true c d e s r o other h = cc
recv_test false false true d e s r o other h = cc
recv_test false false false true e s r o other h = cc
recv_test false false false false true s r o other h = cc
recv_test false false false false false true r o other h = cc
recv_test false false false false false false true o other h = refl
recv_test false false false false false false false o other h = cc

pub send_byte : (protocol v : ℕ) → command protocol v ≡ because.Send → v ≡ 0x20
send_byte protocol v h =
    eqb-true v 0x20 (send_test _ _ _ _ _ (eqb v 0x20) _ (opening protocol) (opening_is (eqb protocol 1) (eqb protocol 2) because.Send (λ e. cc) (λ e. cc) (λ e. cc)) h)

pub recv_byte : (protocol v : ℕ) → command protocol v ≡ because.Receive → v ≡ 0x40
recv_byte protocol v h =
    eqb-true v 0x40 (recv_test _ _ _ _ _ _ (eqb v 0x40) (opening protocol) (opening_is (eqb protocol 1) (eqb protocol 2) because.Receive (λ e. cc) (λ e. cc) (λ e. cc)) h)

-- Which access SEND is, and which RECV.
pub send_access : (past : Past) (n : ℕ) (made : Access) → cause_by past n made ≡ because.Send → made ≡ Write (registers_of n) 0x01 0x20
send_access past n made h =
    let it = commands past n made because.Send (λ e. cc) (λ e. cc) h in
    it.is ∙ ap (Write (registers_of n) 0x01) (send_byte (protocol past n) it.byte it.asks)

pub recv_access : (past : Past) (n : ℕ) (made : Access) → cause_by past n made ≡ because.Receive → made ≡ Write (registers_of n) 0x01 0x40
recv_access past n made h =
    let it = commands past n made because.Receive (λ e. cc) (λ e. cc) h in
    it.is ∙ ap (Write (registers_of n) 0x01) (recv_byte (protocol past n) it.byte it.asks)

-- A command without a stop meets none of its rows.
pub free_command : (starts : Starts) (past : Past) (n : ℕ) (made : Access) (v : ℕ) → made ≡ Write (registers_of n) 0x01 v
    → stop_by starts past (block_access made) ≡ None → NoCommandRow n (command_facts starts past n) v
free_command starts past n made v is clear =
    let same = ap block_access is ∙ ap (λ b. Writes (registers_of n) b 0x01 v) (registers_block n) in
    no_command_row n (command_facts starts past n) v (sym (ap (refused_command starts past) same) ∙ (no_row starts past (block_access made) clear).command)
