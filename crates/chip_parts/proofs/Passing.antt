-- How many bytes a write passes to SEND, and which blocks select bits name.
use Rattle.std.proofs.Common.{◌≡◌, ◌≢◌, ℕ, ◌/◌, ◌%◌, Bool, true, false, ◌&&◌, cond, eqb, inl, inr, refl, sym, ap, ◌∙◌, arith}
use Rattle.std.proofs.lemmas.Bool.{cases_eq, cond-false, cond-true, and_left, and_right, and_parts, and_from, eq-eqb, eqb-true, ne_eqb, false≢true}
use Rattle.board_bus.specs.declared.event.BusEvent.{BusEvent}
use Rattle.board_bus.specs.declared.event.BusAnswer.{BusAnswer}
use Rattle.chip_sheet.specs.declared.event.Entry.TheVariants.{Bus}
use Rattle.chip_sheet.specs.declared.phase.Access.{Access}
use Rattle.chip_sheet.specs.declared.phase.Access.TheVariants.{Write}
use Rattle.chip_sheet.specs.declared.socket.Cause.{Cause}
use Rattle.chip_sheet.specs.declared.socket.Cause.TheVariants as because
use Rattle.chip_sheet.specs.Past.{Past}
use Rattle.chip_sheet.specs.Frames.{access}
use Rattle.chip_sheet.specs.Blocks.{registers_of, tx_buffer_of, rx_buffer_of}
use Rattle.chip_sheet.specs.Registers.{is_reset}
use Rattle.chip_sheet.specs.Life.{cause, cause_by, command, protocol}
use Rattle.chip_sheet.specs.Streams.{Starts}
use Rattle.chip_parts.specs.Passing.{passed}

no_command : (starts : Starts) (past : Past) (n : ℕ) (resets here : Bool) (why : Cause) → here ≡ false → passed starts past n (cond resets because.Reset (cond here why because.Nothing)) ≡ 0
no_command starts past n true here why h = refl
no_command starts past n false true why h = cc
no_command starts past n false false why h = refl

none_passed : (starts : Starts) (past : Past) (e : BusEvent) (a : BusAnswer) (bits addr v n : ℕ) → access past e ≡ Write bits addr v → (eqb bits (registers_of n) && eqb addr 0x01) ≡ false
    → passed starts past n (cause past n (Bus e a)) ≡ 0
none_passed starts past e a bits addr v n is away =
    ap (λ (made : Access). passed starts past n (cause_by past n made)) is
    ∙ no_command starts past n (is_reset (Write bits addr v)) (eqb bits (registers_of n) && eqb addr 0x01) (command (protocol past n) v) away

same_choice : (b : Bool) (x : ℕ) → cond b x x ≡ x
same_choice true x = refl
same_choice false x = refl

rest_is : (bits n : ℕ) → bits ≡ registers_of n → bits % 4 ≡ 1
rest_is bits n is = omega (arith, is)

-- A write that is no command passes nothing.
pub nothing_passed : (starts : Starts) (past : Past) (e : BusEvent) (a : BusAnswer) (bits addr v n : ℕ) → access past e ≡ Write bits addr v → (bits % 4 ≡ 1 → addr ≢ 0x01)
    → passed starts past n (cause past n (Bus e a)) ≡ cond (eqb bits (registers_of n)) 0 0
nothing_passed starts past e a bits addr v n is other =
    none_passed starts past e a bits addr v n is (elim (cases_eq bits (registers_of n)) [
      | inl here ↦ and_right (eqb bits (registers_of n)) (eqb addr 0x01) (ne_eqb addr 0x01 (other (rest_is bits n here)))
      | inr away ↦ and_left (eqb bits (registers_of n)) (eqb addr 0x01) (ne_eqb bits (registers_of n) away)
    ])
    ∙ sym (same_choice (eqb bits (registers_of n)) 0)

-- A command passes to its own socket alone.
pub own_passed : (starts : Starts) (past : Past) (e : BusEvent) (a : BusAnswer) (sn v k n : ℕ) → access past e ≡ Write (registers_of sn) 0x01 v → k ≡ passed starts past sn (cause past sn (Bus e a))
    → passed starts past n (cause past n (Bus e a)) ≡ cond (eqb (registers_of sn) (registers_of n)) k 0
own_passed starts past e a sn v k n is own =
    elim (cases_eq n sn) [
      | inl same ↦
          ap (λ (m : ℕ). passed starts past m (cause past m (Bus e a))) same ∙ sym own
          ∙ sym (cond-true (eqb (registers_of sn) (registers_of n)) k 0 (eq-eqb (registers_of sn) (registers_of n) (ap registers_of (sym same))))
      | inr away ↦
          let other : eqb (registers_of sn) (registers_of n) ≡ false = ne_eqb (registers_of sn) (registers_of n) (λ z. away (omega (arith, z))) in
          none_passed starts past e a (registers_of sn) 0x01 v n is (and_left (eqb (registers_of sn) (registers_of n)) true other)
          ∙ sym (cond-false (eqb (registers_of sn) (registers_of n)) k 0 other)
    ]

-- The blocks of a socket by their select bits.
pub registers_bits : (bits : ℕ) → bits % 4 ≡ 1 → bits ≡ registers_of (bits / 4)
registers_bits bits h = omega (arith, h)

pub tx_bits : (bits : ℕ) → bits % 4 ≡ 2 → bits ≡ tx_buffer_of (bits / 4)
tx_bits bits h = omega (arith, h)

pub rx_bits : (bits : ℕ) → bits % 4 ≡ 3 → bits ≡ rx_buffer_of (bits / 4)
rx_bits bits h = omega (arith, h)

-- A write of a command, and one of none.
pub record IsCommand (bits addr v : ℕ) : Type 0 where
  pub block : bits ≡ registers_of (bits / 4)
  pub write : Write bits addr v ≡ Write (registers_of (bits / 4)) 0x01 v

pub is_the_command : (bits addr v : ℕ) → (eqb (bits % 4) 1 && eqb addr 0x01) ≡ true → IsCommand bits addr v
is_the_command bits addr v h =
    let both = and_parts (eqb (bits % 4) 1) (eqb addr 0x01) h in
    let block = registers_bits bits (eqb-true (bits % 4) 1 both.0) in
    let at = eqb-true addr 0x01 both.1 in
    record { block = block; write = λ i. Write (block i) (at i) v }

pub is_no_command : (bits addr : ℕ) → (eqb (bits % 4) 1 && eqb addr 0x01) ≡ false → bits % 4 ≡ 1 → addr ≢ 0x01
is_no_command bits addr h rest at = false≢true (sym h ∙ and_from (eqb (bits % 4) 1) (eqb addr 0x01) (eq-eqb (bits % 4) 1 rest) (eq-eqb addr 0x01 at))
