-- The interrupt registers as bits.
use Rattle.std.proofs.Common.{◌≡◌, ◌<◌, ℕ, ◌+◌, ◌/◌, ◌%◌, ◌^◌, zero, suc, Bool, true, false, not, ◌&&◌, ◌||◌, cond, eqb, refl, sym, ap, ◌∙◌, arith}
use lib.Bits.{bit_and}
use Rattle.chip_sheet.specs.declared.socket.Interrupt.{Interrupt}
use Rattle.chip_sheet.specs.declared.socket.Interrupt.TheVariants.{Connected, Disconnected, Received, TimedOut, SendOk}
use Rattle.chip_sheet.specs.Past.{Past}
use Rattle.chip_sheet.specs.Bits.{has_bit}
use Rattle.chip_sheet.specs.Streams.{Starts}
use Rattle.chip_sheet.specs.Interrupts.{bit_value, raised, interrupts, interrupt_register, mask, asks, sir_register, enabled_sockets, interrupt_low}
use Rattle.chip_sheet.proofs.BitSums.{bit_sum, any_met, bit_sum_at, met_exactly}

-- The interrupts, each a bit.
abbrev pub interrupt_at : ℕ → Interrupt
interrupt_at zero = Connected
interrupt_at (suc zero) = Disconnected
interrupt_at (suc (suc zero)) = Received
interrupt_at (suc (suc (suc zero))) = TimedOut
interrupt_at (suc (suc (suc (suc more)))) = SendOk

pub sum_five : (a b c d e : ℕ) → a + (b + (c + (d + (e + 0)))) ≡ 0 + a + b + c + d + e
sum_five a b c d e = omega arith

pub register_is : (starts : Starts) (past : Past) (n : ℕ) → interrupt_register starts past n ≡ bit_sum (λ i. raised starts past n (interrupt_at i)) 5
register_is starts past n =
    sum_five (cond (raised starts past n Connected) 1 0) (cond (raised starts past n Disconnected) 2 0) (cond (raised starts past n Received) 4 0)
    (cond (raised starts past n TimedOut) 8 0) (cond (raised starts past n SendOk) 16 0)

any_five : (a b c d e : Bool) → (a || (b || (c || (d || (e || false))))) ≡ (((((false || a) || b) || c) || d) || e)
any_five true true true true true = refl
any_five true b c d e = refl
any_five false true c d e = refl
any_five false false true d e = refl
any_five false false false true e = refl
any_five false false false false true = refl
any_five false false false false false = refl

asks_is : (starts : Starts) (past : Past) (n : ℕ) → asks starts past n ≡ any_met (λ i. raised starts past n (interrupt_at i)) (mask past n) 5
asks_is starts past n =
    let m = mask past n in
    any_five (has_bit m 1 && raised starts past n Connected) (has_bit m 2 && raised starts past n Disconnected) (has_bit m 4 && raised starts past n Received)
    (has_bit m 8 && raised starts past n TimedOut) (has_bit m 16 && raised starts past n SendOk)

pub asks_masked : (starts : Starts) (past : Past) (n : ℕ) → asks starts past n ≡ not (eqb (bit_and (interrupt_register starts past n) (mask past n)) 0)
asks_masked starts past n =
    asks_is starts past n ∙ met_exactly (λ i. raised starts past n (interrupt_at i)) (mask past n) 5
    ∙ ap (λ (x : ℕ). not (eqb (bit_and x (mask past n)) 0)) (sym (register_is starts past n))

test_of : (b : Bool) (x : ℕ) → x ≡ cond b 1 0 → eqb x 1 ≡ b
test_of true x h = ap (λ (y : ℕ). eqb y 1) h
test_of false x h = ap (λ (y : ℕ). eqb y 1) h

-- A bit of Sn_IR reads 1 exactly where it is raised.
bit_of : (starts : Starts) (past : Past) (n i : ℕ) → i < 5 → has_bit (interrupt_register starts past n) (2 ^ i) ≡ raised starts past n (interrupt_at i)
bit_of starts past n i below =
    test_of (raised starts past n (interrupt_at i)) _
    (ap (λ (x : ℕ). x / 2 ^ i % 2) (register_is starts past n) ∙ bit_sum_at (λ j. raised starts past n (interrupt_at j)) 5 i below)

pub register_bit : (starts : Starts) (past : Past) (n : ℕ) (bit : Interrupt) → has_bit (interrupt_register starts past n) (bit_value bit) ≡ raised starts past n bit
register_bit starts past n Connected = bit_of starts past n 0 (omega arith)
register_bit starts past n Disconnected = bit_of starts past n 1 (omega arith)
register_bit starts past n Received = bit_of starts past n 2 (omega arith)
register_bit starts past n TimedOut = bit_of starts past n 3 (omega arith)
register_bit starts past n SendOk = bit_of starts past n 4 (omega arith)

sum_eight : (a b c d e f g h : ℕ) → a + (b + (c + (d + (e + (f + (g + (h + 0))))))) ≡ 0 + a + b + c + d + e + f + g + h
sum_eight a b c d e f g h = omega arith

pub sir_is : (starts : Starts) (past : Past) → sir_register starts past ≡ bit_sum (asks starts past) 8
sir_is starts past =
    sum_eight (cond (asks starts past 0) 1 0) (cond (asks starts past 1) 2 0) (cond (asks starts past 2) 4 0) (cond (asks starts past 3) 8 0)
    (cond (asks starts past 4) 16 0) (cond (asks starts past 5) 32 0) (cond (asks starts past 6) 64 0) (cond (asks starts past 7) 128 0)

any_eight : (a b c d e f g h : Bool) → (a || (b || (c || (d || (e || (f || (g || (h || false)))))))) ≡ ((((((((false || a) || b) || c) || d) || e) || f) || g) || h)
any_eight true true true true true true true true = refl
any_eight true b c d e f g h = refl
any_eight false true c d e f g h = refl
any_eight false false true d e f g h = refl
any_eight false false false true e f g h = refl
any_eight false false false false true f g h = refl
any_eight false false false false false true g h = refl
any_eight false false false false false false true h = refl
any_eight false false false false false false false true = refl
any_eight false false false false false false false false = refl

low_is : (starts : Starts) (past : Past) → interrupt_low starts past ≡ any_met (asks starts past) (enabled_sockets past) 8
low_is starts past =
    let m = enabled_sockets past in
    any_eight (has_bit m 1 && asks starts past 0) (has_bit m 2 && asks starts past 1) (has_bit m 4 && asks starts past 2) (has_bit m 8 && asks starts past 3)
    (has_bit m 16 && asks starts past 4) (has_bit m 32 && asks starts past 5) (has_bit m 64 && asks starts past 6) (has_bit m 128 && asks starts past 7)

pub low_enabled : (starts : Starts) (past : Past) → interrupt_low starts past ≡ not (eqb (bit_and (sir_register starts past) (enabled_sockets past)) 0)
low_enabled starts past =
    low_is starts past ∙ met_exactly (asks starts past) (enabled_sockets past) 8
    ∙ ap (λ (x : ℕ). not (eqb (bit_and x (enabled_sockets past)) 0)) (sym (sir_is starts past))

-- Bit n of SIR reads 1 exactly where socket n asks.
pub sir_bit : (starts : Starts) (past : Past) (n : ℕ) → n < 8 → has_bit (sir_register starts past) (2 ^ n) ≡ asks starts past n
sir_bit starts past n below =
    test_of (asks starts past n) _ (ap (λ (x : ℕ). x / 2 ^ n % 2) (sir_is starts past) ∙ bit_sum_at (asks starts past) 8 n below)
