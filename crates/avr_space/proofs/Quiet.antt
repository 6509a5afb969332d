-- Spans of cycles, and how long nothing is requested in them.
use Rattle.std.proofs.Common.{◌≡◌, ℕ, inl, inr, ◌+◌, ◌<◌, ◌≤◌, ◌==◌, Bool, true, false, List, Option, Some, None, if◌then◌else◌, min, refl, ap, sym, subst, ◌∙◌, arith}
use Rattle.std.proofs.lemmas.Bool.{cond-true, cond-false}
use Rattle.std.proofs.lemmas.Bool.Decides.{nat_tests, eqb_tells}
use Rattle.avr_ports.specs.Requests.{pending_vector as ports_pending}
use Rattle.avr_serial.specs.Serial.{SerialState, StaysUntil, passed as serial_passed, pending_vector as serial_pending}
use Rattle.avr_serial.specs.Spi.{spi_at}
use Rattle.avr_serial.specs.Usart.{usart_at}
use Rattle.avr_serial.proofs.Time.{ended-parts, shifted-parts}
use Rattle.avr_timer.specs.Laws.{IsHeld}
use Rattle.avr_timer.specs.Quiet.{StaysQuiet}
use Rattle.avr_timer.specs.Requests.{pending_vector as timers_pending}
use Rattle.avr_timer.specs.Timers.{passed as timers_passed}
use Rattle.avr_timer.proofs.Spans.{spans-add_up}
use Rattle.avr_space.specs.Devices.{first_of, pending, passed}
use Rattle.avr_space.specs.Quiet.{lapsed, printed, IsQuietUntil, PrintsNoneUntil}
use Rattle.avr_space.specs.declared.devices.Devices.{Devices}

-- Two spans are one.
passed-more : (ds : Devices) (a b : ℕ) (memory : List ℕ) → IsHeld ds.timers → passed b (record (passed a ds) { memory = memory }) ≡ passed (a + b) (record ds { memory = memory })
unfolding passed
passed-more ds a b memory held =
    let at : ℕ = ds.cycles in
    let sum : at + a + b ≡ at + (a + b) = omega arith in
    let timers : timers_passed (timers_passed ds.timers at (at + a)) (at + a) (at + a + b) ≡ timers_passed ds.timers at (at + a + b) =
    spans-add_up ds.timers at (at + a) (at + a + b) held (omega arith) (omega arith) in
    let spi : spi_at (at + a + b) (spi_at (at + a) ds.serial.spi) ≡ spi_at (at + a + b) ds.serial.spi =
    ended-parts (at + a) (at + a + b) ds.serial.spi.transfer ds.serial.spi refl (omega arith) in
    let usart : usart_at (at + a + b) (usart_at (at + a) ds.serial.usart) ≡ usart_at (at + a + b) ds.serial.usart =
    shifted-parts (at + a) (at + a + b) ds.serial.usart.frame ds.serial.usart refl (omega arith) in
    ap (λ t. record ds { cycles = at + a + b; memory = memory; timers = t; serial = record { cycle = at + a + b; spi = spi_at (at + a + b) (spi_at (at + a) ds.serial.spi); usart = usart_at (at + a + b) (usart_at (at + a) ds.serial.usart) } }) timers
    ∙ (ap (λ x. record ds { cycles = at + a + b; memory = memory; timers = timers_passed ds.timers at (at + a + b); serial = record { cycle = at + a + b; spi = x; usart = usart_at (at + a + b) (usart_at (at + a) ds.serial.usart) } }) spi
    ∙ (ap (λ x. record ds { cycles = at + a + b; memory = memory; timers = timers_passed ds.timers at (at + a + b); serial = record { cycle = at + a + b; spi = spi_at (at + a + b) ds.serial.spi; usart = x } }) usart
    ∙ ap (λ n. record ds { cycles = n; memory = memory; timers = timers_passed ds.timers at n; serial = serial_passed ds.serial n }) sum))

pub lapsed-memory : (n : ℕ) (ds : Devices) → (lapsed n ds).memory ≡ ds.memory
unfolding passed
lapsed-memory n ds = elim (n == 0) as (λ b. (if b then ds else passed n ds).memory ≡ ds.memory) [ true ↦ refl | false ↦ refl ]

pub lapsed-cycles : (n : ℕ) (ds : Devices) → (lapsed n ds).cycles ≡ ds.cycles + n
unfolding passed
lapsed-cycles n ds = elim (eqb_tells n 0) [
  | inl none ↦ let is : n ≡ 0 = none.1 in ap (λ (d : Devices). d.cycles) (cond-true (n == 0) ds (passed n ds) none.0) ∙ omega arith
  | inr one ↦ ap (λ (d : Devices). d.cycles) (cond-false (n == 0) ds (passed n ds) one.0)
]

pub lapsed-more : (ds : Devices) (n c : ℕ) (memory : List ℕ) → IsHeld ds.timers → 1 ≤ c → passed c (record (lapsed n ds) { memory = memory }) ≡ lapsed (n + c) (record ds { memory = memory })
lapsed-more ds n c memory held some =
    let more : (n + c == 0) ≡ false = grind (arith, nat_tests) in
    let ends : lapsed (n + c) (record ds { memory = memory }) ≡ passed (n + c) (record ds { memory = memory }) = cond-false (n + c == 0) _ _ more in
    elim (eqb_tells n 0) [
      | inl none ↦
          let zero_is : n ≡ 0 = none.1 in
          let same : c ≡ n + c = omega (arith, zero_is) in
          ap (λ (d : Devices). passed c (record d { memory = memory })) (cond-true (n == 0) ds (passed n ds) none.0)
          ∙ (ap (λ m. passed m (record ds { memory = memory })) same ∙ sym ends)
      | inr one ↦
          ap (λ (d : Devices). passed c (record d { memory = memory })) (cond-false (n == 0) ds (passed n ds) one.0)
          ∙ (passed-more ds n c memory held ∙ sym ends)
    ]

-- What is held of memory changes nothing of what is requested and printed.
pub lapsed-pending : (n : ℕ) (ds : Devices) (memory : List ℕ) → pending (lapsed n (record ds { memory = memory })) ≡ pending (lapsed n ds)
unfolding passed pending
lapsed-pending n ds memory =
    elim (n == 0) as (λ b. pending (if b then record ds { memory = memory } else passed n (record ds { memory = memory })) ≡ pending (if b then ds else passed n ds)) [ true ↦ refl | false ↦ refl ]

pub lapsed-printed : (n : ℕ) (ds : Devices) (memory : List ℕ) → printed (lapsed n (record ds { memory = memory })) ≡ printed (lapsed n ds)
unfolding passed
lapsed-printed n ds memory =
    elim (n == 0) as (λ b. printed (if b then record ds { memory = memory } else passed n (record ds { memory = memory })) ≡ printed (if b then ds else passed n ds)) [ true ↦ refl | false ↦ refl ]

-- Until the next event of the serial devices nothing is printed.
prints-none : (ds : Devices) (n until : ℕ) (b : Bool) → StaysUntil ds.serial until → ds.cycles + n < until → printed (if b then ds else passed n ds) ≡ printed ds
unfolding passed
prints-none ds n until true stays before = refl
prints-none ds n until false stays before = ap (λ (s : SerialState). s.usart.printed) (stays (ds.cycles + n) before)

pub prints-none-until : (ds : Devices) (until : ℕ) → StaysUntil ds.serial until → PrintsNoneUntil ds until
prints-none-until ds until stays = λ n before. prints-none ds n until (n == 0) stays before

-- What the devices request at a later cycle.
first-none : (a b : Option ℕ) → first_of a b ≡ None → (a ≡ None) × (b ≡ None)
first-none None b is = (refl, is)
first-none (Some v) b is = absurd (cc)

parts-none : (a b c : Option ℕ) → first_of a (first_of b c) ≡ None → (a ≡ None) × (b ≡ None) × (c ≡ None)
parts-none a b c is =
    let outer = first-none a (first_of b c) is in
    let inner = first-none b c outer.1 in
    (outer.0, inner.0, inner.1)

all-none : (a b c : Option ℕ) → a ≡ None → b ≡ None → c ≡ None → first_of a (first_of b c) ≡ None
all-none a b c na nb nc = ap (λ o. first_of o (first_of b c)) na ∙ (ap (λ o. first_of o c) nb ∙ nc)

later-none : (ds : Devices) (n quiet event : ℕ) → pending ds ≡ None → StaysQuiet ds.timers ds.cycles quiet → StaysUntil ds.serial event
    → ds.cycles + n < quiet → ds.cycles + n < event → pending (passed n ds) ≡ None
unfolding passed pending
later-none ds n quiet event none timers serial before early =
    let parts = parts-none (ports_pending ds.ports) (timers_pending ds.timers) (serial_pending ds.serial) none in
    all-none (ports_pending ds.ports) (timers_pending (timers_passed ds.timers ds.cycles (ds.cycles + n))) (serial_pending (serial_passed ds.serial (ds.cycles + n)))
    parts.0 (timers parts.1 (ds.cycles + n) (omega arith) before)
    (ap serial_pending (serial (ds.cycles + n) early) ∙ parts.2)

quiet-by : (ds : Devices) (n : ℕ) (b : Bool) → pending ds ≡ None → pending (passed n ds) ≡ None → pending (if b then ds else passed n ds) ≡ None
quiet-by ds n true none later = none
quiet-by ds n false none later = later

pub quiet-until : (ds : Devices) (quiet event until : ℕ) → pending ds ≡ None → StaysQuiet ds.timers ds.cycles quiet → StaysUntil ds.serial event
    → until ≤ quiet → until ≤ event → IsQuietUntil ds until
quiet-until ds quiet event until none timers serial first second = λ n before.
    quiet-by ds n (n == 0) none (later-none ds n quiet event none timers serial (omega (arith, before, first)) (omega (arith, before, second)))
