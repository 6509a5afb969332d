-- Plain instructions in a row, and what they are as steps of the microcontroller.
use Rattle.std.proofs.Common.{◌≡◌, ℕ, zero, suc, inl, inr, ◌⊎◌, ◌+◌, ◌%◌, ◌<◌, ◌≤◌, ◌==◌, ◌&&◌, ◌||◌, Bool, true, false, not, List, [], ◌∷◌, ◌++◌, length, take, Option, Some, None, Ok, if◌then◌else◌, nat_le, slice_index, slice_set, refl, ap, sym, subst, ◌∙◌, add-one, add-zero, arith}
use Rattle.std.proofs.lemmas.Bool.{cond-true, cond-false, and_parts}
use Rattle.std.proofs.lemmas.Bool.Decides.{nat_tests}
use Rattle.std.proofs.lemmas.List.{take_more_set}
use Rattle.std.proofs.lemmas.Option.{none-some}
use Rattle.avr_core.specs.Ask.{Give, Call}
use Rattle.avr_core.specs.Calls.{Read, Write, WriteBit}
use Rattle.avr_core.specs.Code.{said_at}
use Rattle.avr_core.specs.Meaning.{meaning}
use Rattle.avr_core.specs.Memory.{Served, served, over_memory}
use Rattle.avr_core.specs.Ops.{is_owing}
use Rattle.avr_core.specs.Registers.{in_flash}
use Rattle.avr_core.specs.Settled.{Settles}
use Rattle.avr_core.specs.Stack.{is_sram}
use Rattle.avr_core.specs.Steps.{Asked, Stepped, ran}
use Rattle.avr_core.specs.Trees.{All}
use Rattle.avr_core.specs.declared.cpu.Core.{Core}
use Rattle.avr_core.proofs.Uses.{meaning-settles}
use Rattle.avr_sheet.specs.BitNames.{I}
use Rattle.avr_sheet.specs.Bits.{is_set}
use Rattle.avr_space.specs.Devices.{handled, with_byte, read_at, write_row, pending, passed}
use Rattle.avr_space.specs.Quiet.{lapsed, IsQuietUntil, PrintsNoneUntil}
use Rattle.avr_space.specs.Through.{followed, through}
use Rattle.avr_space.specs.declared.devices.Devices.{Devices}
use Rattle.avr_space.proofs.Quiet.{lapsed-memory, lapsed-cycles, lapsed-more, lapsed-pending, lapsed-printed}
use Rattle.avr_timer.specs.Laws.{IsHeld}
use Rattle.avr_mcu.specs.State.{McuState, noted, printed}
use Rattle.avr_mcu.specs.Step.{gone, passing, looking, counting, finished, instruction, owes, raises, request, step_by, stepped}
use Rattle.avr_mcu.specs.Stretch.{Course, begun, IsNext, RunsPlain, IsMove, GoesOn, noted_all}
use Rattle.avr_mcu.specs.declared.went.McuWent.{McuWent}
use Rattle.avr_mcu.specs.declared.went.McuWent.TheVariants.{Ran, Asleep}

-- Of the loop: one instruction more.
pub one-more : (flash : List ℕ) (most calm n : ℕ) (before now : Course) (next : Course) → RunsPlain flash most calm n before now → IsNext flash most calm now next
    → RunsPlain flash most calm (n + 1) before next
one-more flash most calm n before now next runs is =
    subst (λ k. RunsPlain flash most calm k before next) (sym (add-one n)) (now, runs, is)

pub is-next : (flash : List ℕ) (most calm cycles spent was n at : ℕ) (core after : Core) (memory left notes : List ℕ)
    → spent < most → (spent < calm) ⊎ (is_set core.sreg I ≡ false) → n < length notes → at ≡ core.pc
    → over_memory (meaning flash core) memory ≡ Some (served (ran cycles after) left) → is_owing (said_at flash (in_flash core.pc)) ≡ false
    → IsNext flash most calm (record { core = core; memory = memory; was = was; addresses = take n notes; spent = spent })
    (record { core = after; memory = left; was = core.sreg; addresses = take (n + 1) (slice_set notes n at); spent = spent + cycles })
is-next flash most calm cycles spent was n at core after memory left notes early quiet small ats comes plain = record {
  cycles = cycles;
  early = early;
  calm_is = quiet;
  comes = comes;
  plain = plain;
  was_is = refl;
  adds = refl;
  notes = take_more_set notes n at small ∙ ap (λ a. take n notes ++ a ∷ []) ats;
}

from-some : {X : Type 0} → X → Option X → X
from-some d None = d
from-some d (Some x) = x

some-same : {X : Type 0} (x y : X) → Some x ≡ Some y → x ≡ y
unfolding from-some
some-same x y is = ap (from-some x) is

-- What is there in one case alone.
record InOneCase {X : Type 0} (b : Bool) (o : Option X) (x : X) : Type 0 where
  pub case : b ≡ true
  pub is : o ≡ Some x

in-one-case : {X : Type 0} (b : Bool) (o : Option X) (x : X) → (if b then o else None) ≡ Some x → InOneCase b o x
in-one-case true o x is = record { case = refl; is = is }
in-one-case false o x is = absurd (none-some x is)

from-256 : (at : ℕ) → is_sram at ≡ true → nat_le 256 at ≡ true
from-256 at is = (and_parts _ _ is).0

read-sram : (at : ℕ) (ds : Devices) → is_sram at ≡ true → read_at at ds ≡ handled (slice_index ds.memory at) ds
unfolding read_at
read-sram at ds is = cond-true (nat_le 256 at) _ _ (from-256 at is)

write-sram : (at v : ℕ) (ds : Devices) → is_sram at ≡ true → write_row at v ds ≡ Give (handled (Ok tt) (with_byte at v ds))
unfolding write_row
write-sram at v ds is = cond-true (nat_le 256 at) _ _ (from-256 at is)

-- A tree that comes to something over memory alone comes to it through the devices, and asks nothing of the bus.
memory-through : (tree : Asked) (ds : Devices) (x : Served) → over_memory tree ds.memory ≡ Some x
    → through tree ds ≡ Give (handled x.step (record ds { memory = x.memory }))
memory-through (Give s) ds x is = ap (λ y. Give (handled y.step (record ds { memory = y.memory }))) (some-same (served s ds.memory) x is)
memory-through (Call (Read at) go) ds x is =
    let one : InOneCase (is_sram at) (over_memory (go (Ok (slice_index ds.memory at))) ds.memory) x = in-one-case (is_sram at) (over_memory (go (Ok (slice_index ds.memory at))) ds.memory) x is in
    ap (λ r. through (go (Ok r.answer)) r.devices) (read-sram at ds one.case) ∙ memory-through (go (Ok (slice_index ds.memory at))) ds x one.is
memory-through (Call (Write at v) go) ds x is =
    let one : InOneCase (is_sram at) (over_memory (go (Ok tt)) (slice_set ds.memory at v)) x = in-one-case (is_sram at) (over_memory (go (Ok tt)) (slice_set ds.memory at v)) x is in
    ap (λ t. followed t (λ h. through (go h.answer) h.devices)) (write-sram at v ds one.case) ∙ memory-through (go (Ok tt)) (with_byte at v ds) x one.is
memory-through (Call (WriteBit io bit set) go) ds x is = absurd (none-some x is)

-- What comes over memory of a tree whose results all hold, holds; so a plain instruction takes one to four cycles.
all-came : (P : Stepped → Type 0) (tree : Asked) (memory : List ℕ) (x : Served) → All P tree → over_memory tree memory ≡ Some x → P x.step
all-came P (Give s) memory x all is = subst (λ y. P y.step) (some-same (served s memory) x is) all
all-came P (Call (Read at) go) memory x all is =
    let one : InOneCase (is_sram at) (over_memory (go (Ok (slice_index memory at))) memory) x = in-one-case (is_sram at) (over_memory (go (Ok (slice_index memory at))) memory) x is in
    all-came P (go (Ok (slice_index memory at))) memory x (all (Ok (slice_index memory at))) one.is
all-came P (Call (Write at v) go) memory x all is =
    let one : InOneCase (is_sram at) (over_memory (go (Ok tt)) (slice_set memory at v)) x = in-one-case (is_sram at) (over_memory (go (Ok tt)) (slice_set memory at v)) x is in
    all-came P (go (Ok tt)) (slice_set memory at v) x (all (Ok tt)) one.is
all-came P (Call (WriteBit io bit set) go) memory x all is = absurd (none-some x is)

plain-settles : (flash : List ℕ) (core after : Core) (memory left : List ℕ) (c : ℕ) → over_memory (meaning flash core) memory ≡ Some (served (ran c after) left)
    → (1 ≤ c) × (c ≤ 4)
plain-settles flash core after memory left c is =
    all-came (Settles core) (meaning flash core) memory (served (ran c after) left) (meaning-settles flash core) is

-- One instruction, or one cycle asleep, that is not the 64th.
counting-few : (went : McuWent) (c : ℕ) (s : McuState) → s.counted < 63 → counting went c s ≡ Give (passing went c (record s { counted = s.counted + 1 }))
unfolding counting
counting-few went c s few =
    let next : (s.counted + 1) % 64 ≡ s.counted + 1 = omega arith in
    let more : (s.counted + 1 == 0) ≡ false = grind (arith, nat_tests) in
    ap (λ n. if n == 0 then looking went c (record s { counted = n }) else Give (passing went c (record s { counted = n }))) next
    ∙ cond-false (s.counted + 1 == 0) _ _ more

plain_state : McuState → ℕ → Core → List ℕ → McuState
plain_state s c core memory = record s {
  core = core;
  devices = passed c (record s.devices { memory = memory });
  trail = noted s.trail s.core.pc;
  counted = s.counted + 1;
  owed = raises s.core.sreg core.sreg;
}

plain-stepped : (s : McuState) (c : ℕ) (core : Core) (memory : List ℕ) → request s ≡ None → s.asleep ≡ false → s.counted < 63
    → over_memory (meaning s.flash s.core) s.devices.memory ≡ Some (served (ran c core) memory) → owes s.flash s.core core ≡ raises s.core.sreg core.sreg
    → stepped s ≡ Give (gone Ran (plain_state s c core memory))
unfolding stepped instruction plain_state
plain-stepped s c core memory none awake few comes plain =
    let ds : Devices = record s.devices { memory = memory } in
    let next : McuState = record s { core = core; devices = ds; trail = noted s.trail s.core.pc; owed = raises s.core.sreg core.sreg } in
    ap (λ r. step_by r s) none
    ∙ (cond-false s.asleep _ _ awake
    ∙ (ap (λ t. followed t (λ h. finished (owes s.flash s.core h.answer.core) h.answer.went (record s { core = h.answer.core; devices = h.devices; trail = noted s.trail s.core.pc })))
    (memory-through (meaning s.flash s.core) s.devices (served (ran c core) memory) comes)
    ∙ (ap (λ o. counting Ran c (record next { owed = o })) plain
    ∙ counting-few Ran c next few)))

asleep-stepped : (s : McuState) → request s ≡ None → s.asleep ≡ true → s.counted < 63 → stepped s ≡ Give (passing Asleep 1 (record s { counted = s.counted + 1 }))
unfolding stepped
asleep-stepped s none asleep few =
    ap (λ r. step_by r s) none ∙ (cond-true s.asleep _ _ asleep ∙ counting-few Asleep 1 s few)

owes-is : (flash : List ℕ) (core after : Core) → is_owing (said_at flash (in_flash core.pc)) ≡ false → owes flash core after ≡ raises core.sreg after.sreg
unfolding owes
owes-is flash core after is = ap (λ b. b || raises core.sreg after.sreg) is

-- No interrupt comes first.
request-none : (s : McuState) → (pending s.devices ≡ None) ⊎ (is_set s.core.sreg I ≡ false) → request s ≡ None
unfolding request
request-none s (inl none) =
    elim (is_set s.core.sreg 7 && not s.owed) as (λ b. (if b then pending s.devices else None) ≡ None) [ true ↦ none | false ↦ refl ]
request-none s (inr clear) =
    ap (λ b. if b && not s.owed then pending s.devices else None) clear

-- Addresses that are noted in their turn, and one more.
pub noted-more : (trail xs : List ℕ) (at : ℕ) → noted_all trail (xs ++ at ∷ []) ≡ noted (noted_all trail xs) at
noted-more trail [] at = refl
noted-more trail (x ∷ xs) at = noted-more (noted trail x) xs at

-- What is known of the time ahead: up to `most` cycles the limit is not reached and nothing is printed, and up to `calm` nothing is
-- requested.
pub record IsAhead (s : McuState) (limit most calm : ℕ) : Type 0 where
  pub held : IsHeld s.devices.timers
  pub below : (n : ℕ) → n < most → s.devices.cycles + n < limit
  pub still : (n : ℕ) → n < most → printed (record s { devices = lapsed n s.devices }) ≡ printed s
  pub quiet : (n : ℕ) → n < calm → pending (lapsed n s.devices) ≡ None

owed_after : ℕ → Bool → Bool → Bool
owed_after zero before last = before
owed_after (suc k) before last = last

-- The microcontroller after plain instructions.
rushed : McuState → ℕ → Course → McuState
rushed s k now = record s {
  core = now.core;
  devices = lapsed now.spent (record s.devices { memory = now.memory });
  trail = noted_all s.trail now.addresses;
  counted = s.counted + k;
  owed = owed_after k s.owed (raises now.was now.core.sreg);
}

same-state : (s : McuState) (core : Core) (d e : Devices) (t u : List ℕ) (m n : ℕ) (o p : Bool) → d ≡ e → t ≡ u → m ≡ n → o ≡ p
    → record s { core = core; devices = d; trail = t; counted = m; owed = o } ≡ record s { core = core; devices = e; trail = u; counted = n; owed = p }
same-state s core d e t u m n o p ds ts ns os =
    ap (λ x. record s { core = core; devices = x; trail = t; counted = m; owed = o }) ds
    ∙ (ap (λ x. record s { core = core; devices = e; trail = x; counted = m; owed = o }) ts
    ∙ (ap (λ x. record s { core = core; devices = e; trail = u; counted = x; owed = o }) ns
    ∙ ap (λ x. record s { core = core; devices = e; trail = u; counted = n; owed = x }) os))

rushed-none : (s : McuState) → rushed s 0 (begun s.core s.devices.memory) ≡ s
unfolding rushed owed_after
rushed-none s = ap (λ n. record s { counted = n }) (add-zero s.counted)

quiet-at : (s : McuState) (limit most calm : ℕ) (n : ℕ) (core : Core) (memory : List ℕ) → IsAhead s limit most calm → (n < calm) ⊎ (is_set core.sreg I ≡ false)
    → (pending (lapsed n (record s.devices { memory = memory })) ≡ None) ⊎ (is_set core.sreg I ≡ false)
quiet-at s limit most calm n core memory ahead (inl early) = inl (lapsed-pending n s.devices memory ∙ ahead.quiet n early)
quiet-at s limit most calm n core memory ahead (inr clear) = inr clear

rushed-on : (s : McuState) (limit most calm k : ℕ) (mid now : Course) → IsAhead s limit most calm → s.asleep ≡ false → s.counted + k < 63 → IsNext s.flash most calm mid now
    → IsMove limit (printed s) (rushed s k mid) (rushed s (suc k) now)
unfolding rushed owed_after plain_state
rushed-on s limit most calm k mid now ahead awake few next =
    let here : McuState = rushed s k mid in
    let ds : Devices = record s.devices { memory = mid.memory } in
    let calm_here : (pending here.devices ≡ None) ⊎ (is_set here.core.sreg I ≡ false) = quiet-at s limit most calm mid.spent mid.core mid.memory ahead next.calm_is in
    let comes : over_memory (meaning here.flash here.core) here.devices.memory ≡ Some (served (ran next.cycles now.core) now.memory) =
    ap (over_memory (meaning s.flash mid.core)) (lapsed-memory mid.spent ds) ∙ next.comes in
    let cycles = plain-settles s.flash mid.core now.core mid.memory now.memory next.cycles next.comes in
    let one : stepped here ≡ Give (gone Ran (plain_state here next.cycles now.core now.memory)) =
    plain-stepped here next.cycles now.core now.memory (request-none here calm_here) awake few comes (owes-is s.flash mid.core now.core next.plain) in
    let lapses : passed next.cycles (record (lapsed mid.spent ds) { memory = now.memory }) ≡ lapsed now.spent (record s.devices { memory = now.memory }) =
    lapsed-more ds mid.spent next.cycles now.memory ahead.held cycles.0 ∙ ap (λ n. lapsed n (record s.devices { memory = now.memory })) (sym next.adds) in
    let trail : noted (noted_all s.trail mid.addresses) mid.core.pc ≡ noted_all s.trail now.addresses =
    sym (noted-more s.trail mid.addresses mid.core.pc) ∙ ap (noted_all s.trail) (sym next.notes) in
    let count : s.counted + k + 1 ≡ s.counted + suc k = omega arith in
    let lands : plain_state here next.cycles now.core now.memory ≡ rushed s (suc k) now =
    same-state s now.core (passed next.cycles (record (lapsed mid.spent ds) { memory = now.memory })) (lapsed now.spent (record s.devices { memory = now.memory }))
    (noted (noted_all s.trail mid.addresses) mid.core.pc) (noted_all s.trail now.addresses) (s.counted + k + 1) (s.counted + suc k)
    (raises mid.core.sreg now.core.sreg) (raises now.was now.core.sreg) lapses trail count (ap (λ v. raises v now.core.sreg) (sym next.was_is)) in
    let time : here.devices.cycles ≡ s.devices.cycles + mid.spent = lapsed-cycles mid.spent ds in
    record {
      below = subst (λ n. n < limit) (sym time) (ahead.below mid.spent next.early);
      still = lapsed-printed mid.spent s.devices mid.memory ∙ ahead.still mid.spent next.early;
      is = one ∙ (ap (λ (t : McuState). Give (gone Ran t)) lands ∙ ap (λ b. Give (gone (if b then Asleep else Ran) (rushed s (suc k) now))) (sym awake));
    }

rush-goes : (s : McuState) (limit most calm k : ℕ) (now : Course) → IsAhead s limit most calm → s.asleep ≡ false → s.counted + k ≤ 63
    → RunsPlain s.flash most calm k (begun s.core s.devices.memory) now → GoesOn limit k s (rushed s k now)
rush-goes s limit most calm zero now ahead awake few runs = subst (λ c. rushed s 0 c ≡ s) (sym runs) (rushed-none s)
rush-goes s limit most calm (suc k) now ahead awake few runs =
    let before : s.counted + k < 63 = omega (arith, few) in
    (rushed s k runs.0, rush-goes s limit most calm k runs.0 ahead awake (omega (arith, few)) runs.1, rushed-on s limit most calm k runs.0 now ahead awake before runs.2)

-- What the code leaves.
owed-last : (k : ℕ) (before last : Bool) → 0 < k → owed_after k before last ≡ last
unfolding owed_after
owed-last zero before last some = absurd (omega arith)
owed-last (suc k) before last some = refl

rushed-is : (s : McuState) (k : ℕ) (core : Core) (memory : List ℕ) (was : ℕ) (addresses trail : List ℕ) (spent : ℕ) → 0 < k → k ≤ spent → trail ≡ noted_all s.trail addresses
    → rushed s k (record { core = core; memory = memory; was = was; addresses = addresses; spent = spent })
    ≡ record s { core = core; devices = passed spent (record s.devices { memory = memory }); trail = trail; counted = s.counted + k; owed = raises was core.sreg }
unfolding rushed
rushed-is s k core memory was addresses trail spent some least notes =
    let took : (spent == 0) ≡ false = grind (arith, nat_tests) in
    let last : Bool = raises was core.sreg in
    let ds : Devices = record s.devices { memory = memory } in
    ap (λ d. record s { core = core; devices = d; trail = noted_all s.trail addresses; counted = s.counted + k; owed = owed_after k s.owed last }) (cond-false (spent == 0) ds (passed spent ds) took)
    ∙ (ap (λ t. record s { core = core; devices = passed spent ds; trail = t; counted = s.counted + k; owed = owed_after k s.owed last }) (sym notes)
    ∙ ap (λ o. record s { core = core; devices = passed spent ds; trail = trail; counted = s.counted + k; owed = o }) (owed-last k s.owed last some))

pub rush-ends : (s : McuState) (limit most calm k : ℕ) (core : Core) (memory : List ℕ) (was : ℕ) (addresses trail : List ℕ) (spent : ℕ) → IsAhead s limit most calm → s.asleep ≡ false
    → s.counted + k ≤ 63 → 0 < k → k ≤ spent → trail ≡ noted_all s.trail addresses
    → RunsPlain s.flash most calm k (begun s.core s.devices.memory) (record { core = core; memory = memory; was = was; addresses = addresses; spent = spent })
    → GoesOn limit k s (record s { core = core; devices = passed spent (record s.devices { memory = memory }); trail = trail; counted = s.counted + k; owed = raises was core.sreg })
rush-ends s limit most calm k core memory was addresses trail spent ahead awake few some least notes runs =
    let now : Course = record { core = core; memory = memory; was = was; addresses = addresses; spent = spent } in
    subst (λ t. GoesOn limit k s t) (rushed-is s k core memory was addresses trail spent some least notes) (rush-goes s limit most calm k now ahead awake few runs)

pub rush-none : (s : McuState) (limit most calm k : ℕ) (core : Core) (memory : List ℕ) (was : ℕ) (addresses : List ℕ) (spent : ℕ) → k ≤ 0
    → RunsPlain s.flash most calm k (begun s.core s.devices.memory) (record { core = core; memory = memory; was = was; addresses = addresses; spent = spent })
    → GoesOn limit k s (record s { core = core; devices = record s.devices { memory = memory } })
rush-none s limit most calm zero core memory was addresses spent none runs =
    ap (λ (c : Course). record s { core = c.core; devices = record s.devices { memory = c.memory } }) runs
rush-none s limit most calm (suc k) core memory was addresses spent none runs = absurd (omega arith)

-- Cycles asleep.
dozed : McuState → ℕ → McuState
dozed s k = record s { devices = lapsed k s.devices; counted = s.counted + k }

dozed-none : (s : McuState) → dozed s 0 ≡ s
unfolding dozed
dozed-none s = ap (λ n. record s { counted = n }) (add-zero s.counted)

dozed-on : (s : McuState) (limit most k : ℕ) → IsAhead s limit most most → s.asleep ≡ true → k < most → s.counted + k < 63
    → IsMove limit (printed s) (dozed s k) (dozed s (suc k))
unfolding dozed
dozed-on s limit most k ahead asleep early few =
    let here : McuState = dozed s k in
    let ds : Devices = s.devices in
    let same : record ds { memory = (lapsed k ds).memory } ≡ ds = ap (λ m. record ds { memory = m }) (lapsed-memory k ds) in
    let lapses : passed 1 (lapsed k ds) ≡ lapsed (suc k) ds =
    lapsed-more ds k 1 (lapsed k ds).memory ahead.held (omega arith) ∙ (ap (λ (d : Devices). lapsed (k + 1) d) same ∙ ap (λ n. lapsed n ds) (add-one k)) in
    let count : s.counted + k + 1 ≡ s.counted + suc k = omega arith in
    let one = asleep-stepped here (request-none here (inl (ahead.quiet k early))) asleep few in
    let time : here.devices.cycles ≡ s.devices.cycles + k = lapsed-cycles k ds in
    record {
      below = subst (λ n. n < limit) (sym time) (ahead.below k early);
      still = ahead.still k early;
      is = one ∙ (ap (λ d. Give (gone Asleep (record s { devices = d; counted = s.counted + k + 1 }))) lapses
          ∙ (ap (λ n. Give (gone Asleep (record s { devices = lapsed (suc k) ds; counted = n }))) count
          ∙ ap (λ b. Give (gone (if b then Asleep else Ran) (dozed s (suc k)))) (sym asleep)));
    }

doze-goes : (s : McuState) (limit most k : ℕ) → IsAhead s limit most most → s.asleep ≡ true → k ≤ most → s.counted + k ≤ 63 → GoesOn limit k s (dozed s k)
doze-goes s limit most zero ahead asleep early few = dozed-none s
doze-goes s limit most (suc k) ahead asleep early few =
    (dozed s k, doze-goes s limit most k ahead asleep (omega (arith, early)) (omega (arith, few)), dozed-on s limit most k ahead asleep (omega (arith, early)) (omega (arith, few)))

pub doze-ends : (s : McuState) (limit most k : ℕ) → IsAhead s limit most most → s.asleep ≡ true → k ≤ most → s.counted + k ≤ 63 → 0 < k
    → GoesOn limit k s (record s { devices = passed k s.devices; counted = s.counted + k })
unfolding dozed
doze-ends s limit most k ahead asleep early few some =
    let took : (k == 0) ≡ false = grind (arith, nat_tests) in
    subst (λ d. GoesOn limit k s (record s { devices = d; counted = s.counted + k })) (cond-false (k == 0) s.devices (passed k s.devices) took)
    (doze-goes s limit most k ahead asleep early few)

-- What is ahead, as it was computed.
pub ahead-of : (s : McuState) (limit printed_at quiet_until most calm : ℕ) → IsHeld s.devices.timers → PrintsNoneUntil s.devices printed_at → IsQuietUntil s.devices quiet_until
    → s.devices.cycles + most ≤ limit → (0 < most → s.devices.cycles + most ≤ printed_at) → (0 < calm → s.devices.cycles + calm ≤ quiet_until) → IsAhead s limit most calm
ahead-of s limit printed_at quiet_until most calm held prints quiet first second third = record {
  held = held;
  below = λ n early. omega (arith, first, early);
  still = λ n early. let some : 0 < most = omega (arith, early) in let at = second some in prints n (omega (arith, at, early));
  quiet = λ n early. let some : 0 < calm = omega (arith, early) in let at = third some in quiet n (omega (arith, at, early));
}
