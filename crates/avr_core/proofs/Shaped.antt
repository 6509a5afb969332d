-- The one walk over all instructions. `Shaped` says what every row's tree is like; what a layer wants of it follows from that, with
-- no look at the rows (`Uses`).
use Rattle.std.proofs.Common.{◌≡◌, ◌≤◌, ◌<◌, ◌⊎◌, inl, inr, ◌*◌, ◌+◌, ◌/◌, ◌%◌, ◌==◌, nat_lt, nat_le, ◌&&◌, ℕ, ℤ, List, Bool, true, false, Result, Ok, Err, if◌then◌else◌, refl, arith}
use Rattle.std.specs.Prelude.{IfOk}
use Rattle.std.proofs.lemmas.Bool.{and_parts}
use Rattle.std.proofs.lemmas.Bool.Decides.{nat_tests}
use Rattle.avr_core.specs.Access.{load, store, stored}
use Rattle.avr_core.specs.Ask.{Give, Call}
use Rattle.avr_core.specs.BitRows.{bits_row}
use Rattle.avr_core.specs.Calls.{DataCall, Read, Write, WriteBit, AnswerTo}
use Rattle.avr_core.specs.JumpRows.{jumps_row, skip_row, branch_row}
use Rattle.avr_core.specs.LogicRows.{logic_row}
use Rattle.avr_core.specs.Meaning.{executed}
use Rattle.avr_core.specs.MoveRows.{moves_row, ld_row, st_row}
use Rattle.avr_core.specs.Ops.{is_resting}
use Rattle.avr_core.specs.ProductRows.{products_row}
use Rattle.avr_core.specs.Registers.{reg, with_reg, with_sreg, above, below, in_flash}
use Rattle.avr_core.specs.Settled.{Settles}
use Rattle.avr_core.specs.Stack.{is_sram, push_row, pop_row, enter_row, leave_row}
use Rattle.avr_core.specs.Steps.{Asked, ran, on, stopped, answered, or_went, went_of}
use Rattle.avr_core.specs.SumRows.{sums_row}
use Rattle.avr_core.specs.Within.{IsAsked}
use Rattle.avr_core.specs.declared.bus.DataEnd.{DataEnd}
use Rattle.avr_core.specs.declared.bus.DataEnd.TheVariants as ends
use Rattle.avr_core.specs.declared.cpu.Core.{Core}
use Rattle.avr_sheet.specs.declared.stop.AvrStop.TheVariants.{BadAddress, StackOut, Device}
use Rattle.avr_core.specs.declared.went.Went.{Went}
use Rattle.avr_core.specs.declared.went.Went.TheVariants as wents
use Rattle.avr_table.specs.WellFormed.{IsWellFormed, IsSum, IsProduct, IsLogic, IsJump, IsBits}
use Rattle.avr_table.specs.declared.fault.DecodeFault.{DecodeFault}
use Rattle.avr_table.specs.declared.fault.DecodeFault.TheVariants as faults
use Rattle.avr_table.specs.declared.instr.Instr.{Instr}
use Rattle.avr_table.specs.declared.instr.Instr.TheVariants as instrs
use Rattle.avr_table.specs.declared.instr.Bits.{Bits}
use Rattle.avr_table.specs.declared.instr.Bits.TheVariants as bits
use Rattle.avr_table.specs.declared.instr.Sums.{Sums}
use Rattle.avr_table.specs.declared.instr.Sums.TheVariants as sums
use Rattle.avr_table.specs.declared.instr.Products.{Products}
use Rattle.avr_table.specs.declared.instr.Products.TheVariants as products
use Rattle.avr_table.specs.declared.instr.Logic.{Logic}
use Rattle.avr_table.specs.declared.instr.Logic.TheVariants as logics
use Rattle.avr_table.specs.declared.instr.Moves.{Moves}
use Rattle.avr_table.specs.declared.instr.Moves.TheVariants.{Movw, Mov, LddZ, LddY, StdZ, StdY, Lds, Ld, LpmZ, LpmZInc, Pop, Sts, St, Push, Lpm, In, Out, Ldi}
use Rattle.avr_table.specs.declared.instr.Jumps.{Jumps}
use Rattle.avr_table.specs.declared.instr.Jumps.TheVariants.{Cpse, Ret, Reti, Ijmp, Icall, Jmp, Call as CallTo, Sbic, Sbis, Rjmp, Rcall, Brbs, Brbc, Sbrc, Sbrs}
use Rattle.avr_table.specs.declared.instr.Pointer.{Pointer}
use Rattle.avr_table.specs.declared.instr.Pointer.TheVariants.{ZInc, ZDec, YInc, YDec, X, XInc, XDec}

-- A step that was not ended by the bus; behind an answered call it is no stop either, and only SLEEP and BREAK rest.
abbrev pub IsFree : Bool → Bool → Went → Type 0
IsFree rests later (wents.Ran cycles) = Unit {0}
IsFree rests later wents.Break = rests ≡ true
IsFree rests later wents.Sleep = rests ≡ true
IsFree rests later wents.BusOver = ⊥
IsFree rests later (wents.Stop stop) = later ≡ false

-- What is asked, of an instruction that is well formed: addresses and bits within bounds; behind an answered call SRAM alone, which
-- no device stops.
abbrev pub IsSafe : Type 0 → Bool → DataCall → Type 0
IsSafe formed true (Read at) = is_sram at ≡ true
IsSafe formed false (Read at) = formed → IsAsked at
IsSafe formed true (Write at v) = is_sram at ≡ true
IsSafe formed false (Write at v) = IsAsked at
IsSafe formed later (WriteBit io bit set) = (later ≡ false) × (formed → (io < 32) × (bit < 8))

-- A tree by an answer: it goes on, or ends at once as the bus says, with the core as before.
abbrev pub Follows : {T : Type 0} → Core → Result T DataEnd → Asked → Type 0 → Type 0
Follows core (Ok v) tree goes = goes
Follows core (Err ends.BusOver) tree goes = tree ≡ Give (record { went = wents.BusOver; core = core })
Follows core (Err (ends.Stop s)) tree goes = (pc : ℕ) × (tree ≡ Give (record { went = wents.Stop (Device pc s); core = core }))

abbrev pub FollowsAt : (c : DataCall) → Core → AnswerTo c → Asked → Type 0 → Type 0
FollowsAt (Read at) core a tree goes = Follows core a tree goes
FollowsAt (Write at v) core a tree goes = Follows core a tree goes
FollowsAt (WriteBit io bit set) core a tree goes = Follows core a tree goes

-- The shape of every instruction: whether it is well formed, whether it is SLEEP or BREAK, the core before it, and whether a call was
-- answered already.
abbrev pub Shaped : Type 0 → Bool → Core → Bool → Asked → Type 0
Shaped formed rests core later (Give s) = Settles core s × IsFree rests later s.went
Shaped formed rests core later (Call c next) =
    IsSafe formed later c × ((a : AnswerTo c) → FollowsAt c core a (next a) (Shaped formed rests core true (next a)))

one : (1 ≤ 1) × (1 ≤ 4)
one = (omega arith, omega arith)

two : (1 ≤ 2) × (2 ≤ 4)
two = (omega arith, omega arith)

three : (1 ≤ 3) × (3 ≤ 4)
three = (omega arith, omega arith)

four : (1 ≤ 4) × (4 ≤ 4)
four = (omega arith, omega arith)

-- One of two trees, by a test.
either : (formed : Type 0) (core : Core) (later b : Bool) (x y : Asked) → (b ≡ true → Shaped formed false core later x) → (b ≡ false → Shaped formed false core later y)
    → Shaped formed false core later (if b then x else y)
either formed core later true x y first second = first refl
either formed core later false x y first second = second refl

-- The addresses of SRAM, and those that are left when the core's own and those past the end are taken away.
pub sram-asked : (at : ℕ) → is_sram at ≡ true → IsAsked at
sram-asked at is =
    let both : (nat_le 256 at ≡ true) × (nat_le at 2303 ≡ true) = and_parts _ _ is in
    let low : nat_le 256 at ≡ true = both.0 in
    let high : nat_le at 2303 ≡ true = both.1 in
    let least : 256 ≤ at = grind (arith, nat_tests) in
    let most : at ≤ 2303 = grind (arith, nat_tests) in
    record { from = omega arith; to = most; other = inr (omega arith) }

other-than : (at : ℕ) → (at == 93) ≡ false → (at == 94) ≡ false → (at == 95) ≡ false → (at < 93) ⊎ (95 < at)
other-than at low high sreg = grind (arith, nat_tests)

left-asked : (at : ℕ) → nat_lt at 32 ≡ false → (at == 93) ≡ false → (at == 94) ≡ false → (at == 95) ≡ false → nat_lt 2303 at ≡ false → IsAsked at
left-asked at register low high sreg past =
    record { from = grind (arith, nat_tests); to = grind (arith, nat_tests); other = other-than at low high sreg }

answered-shaped : {T : Type 0} (formed : Type 0) (core : Core) (f : T → Asked) → ((v : T) → Shaped formed false core true (f v)) → (a : Result T DataEnd)
    → Follows core a (answered core f a) (Shaped formed false core true (answered core f a))
answered-shaped formed core f all (Ok v) = all v
answered-shaped formed core f all (Err ends.BusOver) = refl
answered-shaped formed core f all (Err (ends.Stop s)) = (core.pc, refl)

loaded-shaped : (formed : Type 0) (core at_core : Core) (f : ℕ → Asked) → ((v : ℕ) → Shaped formed false core true (f v)) → (a : Result ℕ DataEnd)
    → Follows core a (or_went core f (went_of at_core a)) (Shaped formed false core true (or_went core f (went_of at_core a)))
loaded-shaped formed core at_core f all (Ok v) = all v
loaded-shaped formed core at_core f all (Err ends.BusOver) = refl
loaded-shaped formed core at_core f all (Err (ends.Stop s)) = (at_core.pc, refl)

stored-shaped : (formed : Type 0) (core at_core : Core) (f : Core → Asked) → ((v : Core) → Shaped formed false core true (f v)) → (a : Result (Unit {0}) DataEnd)
    → Follows core a (or_went core f (stored at_core (went_of at_core a))) (Shaped formed false core true (or_went core f (stored at_core (went_of at_core a))))
stored-shaped formed core at_core f all (Ok u) = all at_core
stored-shaped formed core at_core f all (Err ends.BusOver) = refl
stored-shaped formed core at_core f all (Err (ends.Stop s)) = (at_core.pc, refl)

load-shaped : (formed : Type 0) (core at_core : Core) (at : ℕ) (f : ℕ → Asked) → ((later : Bool) (v : ℕ) → Shaped formed false core later (f v))
    → Shaped formed false core false (load at_core at (or_went core f))
unfolding load
load-shaped formed core at_core at f all =
    let next : Result ℕ Went → Asked = or_went core f in
    let on_bus : Asked = Call (Read at) (λ answer. next (went_of at_core answer)) in
    let past : Asked = if nat_lt 2303 at then next (Err (wents.Stop (BadAddress at_core.pc at))) else on_bus in
    let from_95 : Asked = if at == 95 then next (Ok at_core.sreg) else past in
    let from_94 : Asked = if at == 94 then next (Ok (at_core.sp / 256)) else from_95 in
    let from_93 : Asked = if at == 93 then next (Ok (at_core.sp % 256)) else from_94 in
    either formed core false (nat_lt at 32) (next (Ok (reg at_core at))) from_93 (λ _. all false (reg at_core at)) (λ register.
    either formed core false (at == 93) (next (Ok (at_core.sp % 256))) from_94 (λ _. all false (at_core.sp % 256)) (λ low.
    either formed core false (at == 94) (next (Ok (at_core.sp / 256))) from_95 (λ _. all false (at_core.sp / 256)) (λ high.
    either formed core false (at == 95) (next (Ok at_core.sreg)) past (λ _. all false at_core.sreg) (λ sreg.
    either formed core false (nat_lt 2303 at) (next (Err (wents.Stop (BadAddress at_core.pc at)))) on_bus (λ _. (refl, refl)) (λ past.
    ((λ _. left-asked at register low high sreg past), loaded-shaped formed core at_core f (all true)))))))

store-shaped : (formed : Type 0) (core at_core : Core) (at v : ℕ) (f : Core → Asked) → ((later : Bool) (after : Core) → Shaped formed false core later (f after))
    → Shaped formed false core false (store at_core at v (or_went core f))
unfolding store
store-shaped formed core at_core at v f all =
    let next : Result Core Went → Asked = or_went core f in
    let low_set : Core = record at_core { sp = at_core.sp / 256 * 256 + v } in
    let high_set : Core = record at_core { sp = v * 256 + at_core.sp % 256 } in
    let on_bus : Asked = Call (Write at v) (λ answer. next (stored at_core (went_of at_core answer))) in
    let past : Asked = if nat_lt 2303 at then next (Err (wents.Stop (BadAddress at_core.pc at))) else on_bus in
    let from_95 : Asked = if at == 95 then next (Ok (with_sreg at_core v)) else past in
    let from_94 : Asked = if at == 94 then next (Ok high_set) else from_95 in
    let from_93 : Asked = if at == 93 then next (Ok low_set) else from_94 in
    either formed core false (nat_lt at 32) (next (Ok (with_reg at_core at v))) from_93 (λ _. all false (with_reg at_core at v)) (λ register.
    either formed core false (at == 93) (next (Ok low_set)) from_94 (λ _. all false low_set) (λ low.
    either formed core false (at == 94) (next (Ok high_set)) from_95 (λ _. all false high_set) (λ high.
    either formed core false (at == 95) (next (Ok (with_sreg at_core v))) past (λ _. all false (with_sreg at_core v)) (λ sreg.
    either formed core false (nat_lt 2303 at) (next (Err (wents.Stop (BadAddress at_core.pc at)))) on_bus (λ _. (refl, refl)) (λ past.
    (left-asked at register low high sreg past, stored-shaped formed core at_core f (all true)))))))

ld-shaped : (formed : Type 0) (d : ℕ) (p : Pointer) (core : Core) → Shaped formed false core false (ld_row d p core)
ld-shaped formed d ZInc core = load-shaped formed core _ _ _ (λ l v. (two, tt))
ld-shaped formed d ZDec core = load-shaped formed core _ _ _ (λ l v. (two, tt))
ld-shaped formed d YInc core = load-shaped formed core _ _ _ (λ l v. (two, tt))
ld-shaped formed d YDec core = load-shaped formed core _ _ _ (λ l v. (two, tt))
ld-shaped formed d X core = load-shaped formed core _ _ _ (λ l v. (two, tt))
ld-shaped formed d XInc core = load-shaped formed core _ _ _ (λ l v. (two, tt))
ld-shaped formed d XDec core = load-shaped formed core _ _ _ (λ l v. (two, tt))

st-shaped : (formed : Type 0) (r : ℕ) (p : Pointer) (core : Core) → Shaped formed false core false (st_row r p core)
st-shaped formed r ZInc core = store-shaped formed core _ _ _ _ (λ l v. (two, tt))
st-shaped formed r ZDec core = store-shaped formed core _ _ _ _ (λ l v. (two, tt))
st-shaped formed r YInc core = store-shaped formed core _ _ _ _ (λ l v. (two, tt))
st-shaped formed r YDec core = store-shaped formed core _ _ _ _ (λ l v. (two, tt))
st-shaped formed r X core = store-shaped formed core _ _ _ _ (λ l v. (two, tt))
st-shaped formed r XInc core = store-shaped formed core _ _ _ _ (λ l v. (two, tt))
st-shaped formed r XDec core = store-shaped formed core _ _ _ _ (λ l v. (two, tt))

push-shaped : (formed : Type 0) (d : ℕ) (core : Core) → Shaped formed false core false (push_row d core)
push-shaped formed d core =
    let pushed : Unit {0} → Asked = λ u. Give (on 2 1 (record core { sp = below core.sp 1 })) in
    either formed core false (is_sram core.sp) (Call (Write core.sp (reg core d)) (answered core pushed)) (Give (stopped core (StackOut core.pc core.sp)))
    (λ is. (sram-asked core.sp is, answered-shaped formed core pushed (λ u. (two, tt)))) (λ _. (refl, refl))

pop-shaped : (formed : Type 0) (d : ℕ) (core : Core) → Shaped formed false core false (pop_row d core)
pop-shaped formed d core =
    let popped : ℕ → Asked = λ v. Give (on 2 1 (record (with_reg core d v) { sp = above core.sp 1 })) in
    either formed core false (is_sram (above core.sp 1)) (Call (Read (above core.sp 1)) (answered core popped)) (Give (stopped core (StackOut core.pc core.sp)))
    (λ is. ((λ _. sram-asked (above core.sp 1) is), answered-shaped formed core popped (λ v. (two, tt)))) (λ _. (refl, refl))

pub enter-shaped : (formed : Type 0) (cycles back to sreg : ℕ) (core : Core) → (1 ≤ cycles) × (cycles ≤ 4) → Shaped formed false core false (enter_row cycles back to sreg core)
enter-shaped formed cycles back to sreg core few =
    let entered : Unit {0} → Asked = λ u. Give (ran cycles (record core { pc = to; sp = below core.sp 2; sreg = sreg })) in
    let high : Unit {0} → Asked = λ u. Call (Write (below core.sp 1) (back / 256)) (answered core entered) in
    either formed core false (is_sram core.sp && is_sram (below core.sp 1)) (Call (Write core.sp (back % 256)) (answered core high)) (Give (stopped core (StackOut core.pc core.sp)))
    (λ is. (
      sram-asked core.sp (and_parts (is_sram core.sp) (is_sram (below core.sp 1)) is).0,
      answered-shaped formed core high (λ u. ((and_parts (is_sram core.sp) (is_sram (below core.sp 1)) is).1, answered-shaped formed core entered (λ u. (few, tt)))),
    ))
    (λ _. (refl, refl))

leave-shaped : (formed : Type 0) (sreg : ℕ) (core : Core) → Shaped formed false core false (leave_row sreg core)
leave-shaped formed sreg core =
    let left : ℕ → ℕ → Asked = λ high low. Give (ran 4 (record core { pc = in_flash (256 * high + low); sp = above core.sp 2; sreg = sreg })) in
    let then_low : ℕ → Asked = λ high. Call (Read (above core.sp 2)) (answered core (left high)) in
    either formed core false (is_sram (above core.sp 1) && is_sram (above core.sp 2)) (Call (Read (above core.sp 1)) (answered core then_low)) (Give (stopped core (StackOut core.pc core.sp)))
    (λ is. (
      (λ _. sram-asked (above core.sp 1) (and_parts (is_sram (above core.sp 1)) (is_sram (above core.sp 2)) is).0),
      answered-shaped formed core then_low (λ high. ((and_parts (is_sram (above core.sp 1)) (is_sram (above core.sp 2)) is).1, answered-shaped formed core (left high) (λ low. (four, tt)))),
    ))
    (λ _. (refl, refl))

moves-shaped : (formed : Type 0) (flash : List ℕ) (m : Moves) (core : Core) → Shaped formed false core false (moves_row flash m core)
moves-shaped formed flash (Movw d r) core = (one, tt)
moves-shaped formed flash (Mov d r) core = (one, tt)
moves-shaped formed flash (Ldi d k) core = (one, tt)
moves-shaped formed flash (LddZ d q) core = load-shaped formed core _ _ _ (λ l v. (two, tt))
moves-shaped formed flash (LddY d q) core = load-shaped formed core _ _ _ (λ l v. (two, tt))
moves-shaped formed flash (StdZ d q) core = store-shaped formed core _ _ _ _ (λ l v. (two, tt))
moves-shaped formed flash (StdY d q) core = store-shaped formed core _ _ _ _ (λ l v. (two, tt))
moves-shaped formed flash (Lds d k) core = load-shaped formed core _ _ _ (λ l v. (two, tt))
moves-shaped formed flash (Sts d k) core = store-shaped formed core _ _ _ _ (λ l v. (two, tt))
moves-shaped formed flash (Ld d p) core = ld-shaped formed d p core
moves-shaped formed flash (St d p) core = st-shaped formed d p core
moves-shaped formed flash (LpmZ d) core = (three, tt)
moves-shaped formed flash (LpmZInc d) core = (three, tt)
moves-shaped formed flash Lpm core = (three, tt)
moves-shaped formed flash (Pop d) core = pop-shaped formed d core
moves-shaped formed flash (Push d) core = push-shaped formed d core
moves-shaped formed flash (In d a) core = load-shaped formed core _ _ _ (λ l v. (one, tt))
moves-shaped formed flash (Out d a) core = store-shaped formed core _ _ _ _ (λ l v. (one, tt))

few-words : (long : Bool) → (1 ≤ 1 + (if long then 2 else 1)) × (1 + (if long then 2 else 1) ≤ 4)
few-words true = three
few-words false = two

skip-shaped : (formed : Type 0) (flash : List ℕ) (skips : Bool) (core : Core) (later : Bool) → Shaped formed false core later (Give (skip_row flash skips core))
skip-shaped formed flash true core later = (few-words _, tt)
skip-shaped formed flash false core later = (one, tt)

branch-shaped : (formed : Type 0) (taken : Bool) (k : ℤ) (core : Core) → Shaped formed false core false (Give (branch_row taken k core))
branch-shaped formed true k core = (two, tt)
branch-shaped formed false k core = (one, tt)

io-asked : (a b : ℕ) → (a < 32) × (b < 8) → IsAsked (32 + a)
io-asked a b is =
    let low : a < 32 = is.0 in
    record { from = omega arith; to = omega arith; other = inl (omega arith) }

jumps-shaped : (flash : List ℕ) (j : Jumps) (core : Core) → Shaped (IsJump j) false core false (jumps_row flash j core)
jumps-shaped flash (Cpse d r) core = skip-shaped (IsJump (Cpse d r)) flash _ core false
jumps-shaped flash Ret core = leave-shaped _ _ core
jumps-shaped flash Reti core = leave-shaped _ _ core
jumps-shaped flash Ijmp core = (two, tt)
jumps-shaped flash Icall core = enter-shaped _ _ _ _ _ core three
jumps-shaped flash (Jmp k) core = (three, tt)
jumps-shaped flash (CallTo k) core = enter-shaped _ _ _ _ _ core four
jumps-shaped flash (Sbic a b) core = (io-asked a b, answered-shaped (IsJump (Sbic a b)) core _ (λ v. skip-shaped (IsJump (Sbic a b)) flash _ core true))
jumps-shaped flash (Sbis a b) core = (io-asked a b, answered-shaped (IsJump (Sbis a b)) core _ (λ v. skip-shaped (IsJump (Sbis a b)) flash _ core true))
jumps-shaped flash (Rjmp k) core = (two, tt)
jumps-shaped flash (Rcall k) core = enter-shaped _ _ _ _ _ core three
jumps-shaped flash (Brbs s k) core = branch-shaped (IsJump (Brbs s k)) _ k core
jumps-shaped flash (Brbc s k) core = branch-shaped (IsJump (Brbc s k)) _ k core
jumps-shaped flash (Sbrc d b) core = skip-shaped (IsJump (Sbrc d b)) flash _ core false
jumps-shaped flash (Sbrs d b) core = skip-shaped (IsJump (Sbrs d b)) flash _ core false

bits-shaped : (i : Bits) (core : Core) → Shaped (IsBits i) (is_resting (Ok (instrs.Bits i))) core false (bits_row i core)
bits-shaped bits.Nop core = (one, tt)
bits-shaped (bits.Bset s) core = (one, tt)
bits-shaped (bits.Bclr s) core = (one, tt)
bits-shaped bits.Sleep core = (tt, refl)
bits-shaped bits.Break core = (tt, refl)
bits-shaped bits.Wdr core = (one, tt)
bits-shaped bits.Spm core = (refl, refl)
bits-shaped (bits.Cbi a b) core = ((refl, λ is. is), answered-shaped _ core (λ u. Give (on 2 1 core)) (λ u. (two, tt)))
bits-shaped (bits.Sbi a b) core = ((refl, λ is. is), answered-shaped _ core (λ u. Give (on 2 1 core)) (λ u. (two, tt)))
bits-shaped (bits.Bld d b) core = (one, tt)
bits-shaped (bits.Bst d b) core = (one, tt)

sums-shaped : (formed : Type 0) (i : Sums) (core : Core) → Shaped formed false core false (Give (sums_row i core))
sums-shaped formed (sums.Adiw d k) core = (two, tt)
sums-shaped formed (sums.Sbiw d k) core = (two, tt)
sums-shaped formed _ core = (one, tt)

products-shaped : (formed : Type 0) (i : Products) (core : Core) → Shaped formed false core false (Give (products_row i core))
products-shaped formed (products.Mul d r) core = (two, tt)
products-shaped formed _ core = (two, tt)

logic-shaped : (formed : Type 0) (i : Logic) (core : Core) → Shaped formed false core false (Give (logic_row i core))
logic-shaped formed (logics.And d r) core = (one, tt)
logic-shaped formed _ core = (one, tt)

pub executed-shaped : (flash : List ℕ) (word : ℕ) (said : Result Instr DecodeFault) (core : Core)
    → Shaped (IfOk said IsWellFormed) (is_resting said) core false (executed flash word said core)
executed-shaped flash word (Ok (instrs.Sums i)) core = sums-shaped (IsSum i) i core
executed-shaped flash word (Ok (instrs.Products i)) core = products-shaped (IsProduct i) i core
executed-shaped flash word (Ok (instrs.Logic i)) core = logic-shaped (IsLogic i) i core
executed-shaped flash word (Ok (instrs.Moves i)) core = moves-shaped _ flash i core
executed-shaped flash word (Ok (instrs.Jumps i)) core = jumps-shaped flash i core
executed-shaped flash word (Ok (instrs.Bits i)) core = bits-shaped i core
executed-shaped flash word (Err faults.Illegal) core = (refl, refl)
executed-shaped flash word (Err faults.Undefined) core = (refl, refl)
