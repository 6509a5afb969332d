-- A step of the microcontroller ends with the bus over exactly where a call on the bus was answered so.
use Rattle.std.proofs.Common.{◌≡◌, ◌↔◌, ℕ, ◌+◌, ◌%◌, ◌==◌, Bool, true, false, List, [], ◌∷◌, Option, Some, None, is_some, IsSome, Result, Ok, Err, is_err, refl, sym, ap, ◌∙◌, slice_index}
use Rattle.avr_sheet.specs.Bits.{is_set}
use Rattle.avr_core.specs.Ask.{Give, Call}
use Rattle.avr_core.specs.Meaning.{meaning, interrupted}
use Rattle.avr_core.specs.Steps.{Stepped}
use Rattle.avr_core.specs.declared.went.Went.{Went}
use Rattle.avr_core.specs.declared.went.Went.TheVariants as wents
use Rattle.avr_mcu.specs.Answers.{reads, over, led}
use Rattle.avr_space.specs.Devices.{Handled}
use Rattle.avr_space.specs.Peer.{OfBus}
use Rattle.avr_mcu.specs.State.{McuState, noted}
use Rattle.avr_mcu.specs.Step.{Gone, passing, looked, looking, counting, sleeping, finished, owes, instruction, entered, entry, request, step_by, stepped}
use Rattle.avr_space.specs.Through.{through}
use Rattle.board_bus.specs.declared.event.BusAnswer.{BusAnswer}
use Rattle.board_bus.specs.declared.event.BusAnswer.TheVariants.{Done as Told, Out, Level}
use Rattle.board_bus.specs.declared.event.BusEvent.{BusEvent}
use Rattle.board_bus.specs.declared.event.BusEvent.TheVariants.{Select, Byte, Look}
use Rattle.avr_space.specs.declared.bus.BusIsOver.{BusIsOver}
use Rattle.avr_mcu.specs.declared.went.McuWent.{McuWent}
use Rattle.avr_mcu.specs.declared.went.McuWent.TheVariants.{Ran, Asleep, Served, Break, Sleep, BusOver, Stop}
use Rattle.avr_core.specs.Cuts.{EndsCut, by_cut, CutsOnly, went_over}
use Rattle.avr_core.proofs.Uses.{meaning-cuts, interrupted-cuts}
use Rattle.avr_mcu_laws.specs.Over.{bus_over, mcu_over, gone_over}
use Rattle.avr_mcu_laws.proofs.Cuts.{either, cuts-followed}
use Rattle.avr_mcu_laws.proofs.DeviceCuts.{core_over, through-cuts}

abbrev GoneCuts : OfBus Gone → Type 0
GoneCuts tree = CutsOnly bus_over gone_over tree

looked-cuts : (went : McuWent) (n : ℕ) (s : McuState) → mcu_over went ≡ false → (a : Result Bool BusIsOver)
    → by_cut (is_err a) (EndsCut gone_over (looked went n s a)) (GoneCuts (looked went n s a))
looked-cuts went n s whole (Ok high) = whole
looked-cuts went n s whole (Err over) = refl

counting-cuts : (went : McuWent) (n : ℕ) (s : McuState) → mcu_over went ≡ false → GoneCuts (counting went n s)
unfolding counting
counting-cuts went n s whole =
    let next : McuState = record s { counted = (s.counted + 1) % 64 } in
    either bus_over gone_over (next.counted == 0) (looking went n next) (Give (passing went n next)) (looked-cuts went n next whole) whole

sleeping-cuts : (s : McuState) → GoneCuts (sleeping s)
sleeping-cuts s =
    let asleep : McuState = record s { owed = false; asleep = is_set (slice_index s.devices.memory 0x53) 0 } in
    either bus_over gone_over (is_set s.core.sreg 7) (counting Ran 1 asleep) (Give (passing Sleep 1 s)) (counting-cuts Ran 1 asleep refl) refl

-- What follows once the core has gone so.
finished-cuts : (owed : Bool) (went : Went) (s : McuState)
    → by_cut (went_over went) (EndsCut gone_over (finished owed went s)) (GoneCuts (finished owed went s))
finished-cuts owed (wents.Ran n) s = counting-cuts Ran n (record s { owed = owed }) refl
finished-cuts owed wents.Break s = refl
finished-cuts owed wents.Sleep s = sleeping-cuts s
finished-cuts owed wents.BusOver s = refl
finished-cuts owed (wents.Stop stop) s = refl

entered-cuts : (vector : ℕ) (went : Went) (s : McuState)
    → by_cut (went_over went) (gone_over (entered vector went s) ≡ true) (gone_over (entered vector went s) ≡ false)
entered-cuts vector (wents.Ran n) s = refl
entered-cuts vector wents.Break s = refl
entered-cuts vector wents.Sleep s = refl
entered-cuts vector wents.BusOver s = refl
entered-cuts vector (wents.Stop stop) s = refl

instruction-cuts : (s : McuState) → GoneCuts (instruction s)
unfolding instruction
instruction-cuts s =
    let after : Handled Stepped → McuState = λ h. record s { core = h.answer.core; devices = h.devices; trail = noted s.trail s.core.pc } in
    cuts-followed bus_over core_over gone_over (through (meaning s.flash s.core) s.devices) (λ h. finished (owes s.flash s.core h.answer.core) h.answer.went (after h))
    (through-cuts (meaning s.flash s.core) s.devices (meaning-cuts s.flash s.core))
    (λ h. finished-cuts (owes s.flash s.core h.answer.core) h.answer.went (after h))

entry-cuts : (vector : ℕ) (s : McuState) → GoneCuts (entry vector s)
unfolding entry
entry-cuts vector s =
    let after : Handled Stepped → McuState = λ h. record s { core = h.answer.core; devices = h.devices } in
    cuts-followed bus_over core_over gone_over (through (interrupted vector s.core) s.devices) (λ h. Give (entered vector h.answer.went (after h)))
    (through-cuts (interrupted vector s.core) s.devices (interrupted-cuts vector s.core))
    (λ h. entered-cuts vector h.answer.went (after h))

step-by-cuts : (request : Option ℕ) (s : McuState) → GoneCuts (step_by request s)
step-by-cuts (Some vector) s = entry-cuts vector s
step-by-cuts None s = either bus_over gone_over s.asleep (counting Asleep 1 s) (instruction s) (counting-cuts Asleep 1 s refl) (instruction-cuts s)

pub step-cuts : (s : McuState) → GoneCuts (stepped s)
unfolding stepped
step-cuts s = step-by-cuts (request s) s

-- On a list of answers.
ends-on-none : (c : BusEvent) (tree : OfBus Gone) → by_cut (bus_over c (over c)) (EndsCut gone_over tree) (GoneCuts tree) → EndsCut gone_over tree
ends-on-none (Select low) tree it = it
ends-on-none (Byte mosi) tree it = it
ends-on-none Look tree it = it

goes-on-told : (c : BusEvent) (x : BusAnswer) (tree : OfBus Gone) → by_cut (bus_over c (reads c x)) (EndsCut gone_over tree) (GoneCuts tree) → GoneCuts tree
goes-on-told (Select low) x tree it = it
goes-on-told (Byte mosi) Told tree it = it
goes-on-told (Byte mosi) (Out v) tree it = it
goes-on-told (Byte mosi) (Level high) tree it = it
goes-on-told Look Told tree it = it
goes-on-told Look (Out v) tree it = it
goes-on-told Look (Level high) tree it = it

ends-led : (tree : OfBus Gone) → EndsCut gone_over tree → gone_over (led tree []).result ≡ true
ends-led (Give g) ends = ends
ends-led (Call c go) ends = absurd ends

led-cuts : (tree : OfBus Gone) (xs : List BusAnswer) → GoneCuts tree → gone_over (led tree xs).result ≡ is_some (led tree xs).wants
led-cuts (Give g) xs cuts = cuts
led-cuts (Call c go) [] cuts = ends-led (go (over c)) (ends-on-none c (go (over c)) (cuts (over c)))
led-cuts (Call c go) (x ∷ xs) cuts = led-cuts (go (reads c x)) xs (goes-on-told c x (go (reads c x)) (cuts (reads c x)))

over-is : (went : McuWent) → mcu_over went ≡ true → went ≡ BusOver
over-is Ran e = absurd (cc)
over-is Asleep e = absurd (cc)
over-is Served e = absurd (cc)
over-is Break e = absurd (cc)
over-is Sleep e = absurd (cc)
over-is BusOver e = refl
over-is (Stop stop) e = absurd (cc)

pub over-wanted : (s : McuState) (xs : List BusAnswer) → ((led (stepped s) xs).result.went ≡ BusOver) ↔ IsSome (led (stepped s) xs).wants
over-wanted s xs =
    let same = led-cuts (stepped s) xs (step-cuts s) in (
      λ is. sym same ∙ ap mcu_over is,
      λ some. over-is (led (stepped s) xs).result.went (same ∙ some),
    )
