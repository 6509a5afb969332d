-- Each end of a run on given answers has its cause.
use Rattle.std.proofs.Common.{◌≡◌, ℕ, zero, suc, ◌+◌, ◌-◌, ◌≤◌, ◌<◌, Bool, true, false, List, [], ◌∷◌, length, Option, Some, None, IsSome, if◌then◌else◌, nat_le, refl, sym, ap, subst, ◌∙◌, arith, length-append}
use Rattle.std.proofs.lemmas.Bool.Decides.{nat_tests}
use Rattle.avr_core.specs.Ask.{Give, Call}
use Rattle.avr_mcu.specs.Answers.{reads, over, led}
use Rattle.avr_space.specs.Peer.{OfBus}
use Rattle.avr_mcu.specs.Run.{Outcome, end_of, ended, run}
use Rattle.avr_mcu.specs.Settled.{Times}
use Rattle.avr_mcu.specs.State.{McuState, taken}
use Rattle.avr_mcu.specs.Step.{stepped}
use Rattle.board_bus.specs.declared.event.BusAnswer.{BusAnswer}
use Rattle.board_bus.specs.declared.event.BusEvent.{BusEvent}
use Rattle.avr_mcu.specs.declared.run.RunEnd.{RunEnd}
use Rattle.avr_mcu.specs.declared.run.RunEnd.TheVariants as ends
use Rattle.avr_mcu.specs.declared.went.McuWent.{McuWent}
use Rattle.avr_mcu.specs.declared.went.McuWent.TheVariants.{Ran, Asleep, Served, Break, Sleep, BusOver, Stop}
use Rattle.avr_mcu.proofs.Fuel.{by_end, goes-on, run-by-end}
use Rattle.avr_mcu.proofs.Runs.{led-all}
use Rattle.avr_mcu.proofs.Timing.{step-times}
use Rattle.avr_mcu_laws.proofs.StepCuts.{over-wanted}
use Rattle.avr_mcu_laws.specs.Ends.{LimitIsReached, AnswersAreUsed}

-- Each call that was answered used one answer, and the rest are left.
led-counts : {R : Type 0} (tree : OfBus R) (xs : List BusAnswer) → length (led tree xs).asked + length (led tree xs).left ≡ length xs
led-counts (Give r) xs = omega arith
led-counts (Call c go) [] = led-counts (go (over c)) []
led-counts (Call c go) (x ∷ xs) = let counts = led-counts (go (reads c x)) xs in omega (arith, counts)

-- None is left where one more was wanted.
uses-all : {R : Type 0} (tree : OfBus R) (xs : List BusAnswer) → IsSome (led tree xs).wants → length (led tree xs).asked ≡ length xs
uses-all (Give r) xs wanted = absurd (cc)
uses-all (Call c go) [] wanted = let counts = led-counts (go (over c)) [] in omega (arith, counts)
uses-all (Call c go) (x ∷ xs) wanted = ap suc (uses-all (go (reads c x)) xs wanted)

-- What a step's end says of it.
reached-by : (b : Bool) (limit cycles : ℕ) (end : RunEnd) → nat_le limit cycles ≡ b → (if b then Some ends.CycleLimit else None) ≡ Some end → limit ≤ cycles
reached-by true limit cycles end e is = grind (arith, nat_tests)
reached-by false limit cycles end e is = absurd (cc)

reached : (wants : Option BusEvent) (went : McuWent) (limit cycles : ℕ) → (went ≡ BusOver → IsSome wants)
    → end_of wants went limit cycles ≡ Some ends.CycleLimit → limit ≤ cycles
reached (Some call) went limit cycles wanted is = absurd (cc)
reached None Ran limit cycles wanted is = reached-by _ limit cycles ends.CycleLimit refl is
reached None Asleep limit cycles wanted is = reached-by _ limit cycles ends.CycleLimit refl is
reached None Served limit cycles wanted is = reached-by _ limit cycles ends.CycleLimit refl is
reached None Break limit cycles wanted is = absurd (cc)
reached None Sleep limit cycles wanted is = absurd (cc)
reached None BusOver limit cycles wanted is = let some = wanted refl in absurd (cc)
reached None (Stop stop) limit cycles wanted is = absurd (cc)

no-want : (b : Bool) (call : BusEvent) → (if b then Some ends.CycleLimit else None) ≡ Some (ends.Wants call) → ⊥
no-want true call is = absurd (cc)
no-want false call is = absurd (cc)

wanted-by : (wants : Option BusEvent) (went : McuWent) (limit cycles : ℕ) (call : BusEvent)
    → end_of wants went limit cycles ≡ Some (ends.Wants call) → IsSome wants
wanted-by (Some wanted) went limit cycles call is = refl
wanted-by None Ran limit cycles call is = absurd (no-want (nat_le limit cycles) call is)
wanted-by None Asleep limit cycles call is = absurd (no-want (nat_le limit cycles) call is)
wanted-by None Served limit cycles call is = absurd (no-want (nat_le limit cycles) call is)
wanted-by None Break limit cycles call is = absurd (cc)
wanted-by None Sleep limit cycles call is = absurd (cc)
wanted-by None BusOver limit cycles call is = absurd (cc)
wanted-by None (Stop stop) limit cycles call is = absurd (cc)

-- The outcome of a run on these answers has the cause of its end.
abbrev HasCause : ℕ → List BusAnswer → Outcome → Type 0
HasCause limit xs o =
    (o.end ≡ ends.CycleLimit → limit ≤ o.cycles) × ((call : BusEvent) → o.end ≡ ends.Wants call → length o.asked ≡ length xs)

-- How the first step ends the run.
abbrev first_end : ℕ → McuState → List BusAnswer → Option RunEnd
first_end limit s xs = let l = led (stepped s) xs in end_of l.wants l.result.went limit l.result.state.devices.cycles

ends-here : (end : RunEnd) (limit : ℕ) (s : McuState) (xs : List BusAnswer) → first_end limit s xs ≡ Some end → HasCause limit xs (ended (led (stepped s) xs) end)
ends-here end limit s xs is =
    let l = led (stepped s) xs in
    let cycles : ℕ = l.result.state.devices.cycles in (
      λ e. reached l.wants l.result.went limit cycles (over-wanted s xs).0 (is ∙ ap Some e),
      λ call e. uses-all (stepped s) xs (wanted-by l.wants l.result.went limit cycles call (is ∙ ap Some e)),
    )

ends-by : (end : Option RunEnd) (limit : ℕ) (s : McuState) (xs : List BusAnswer) (rest : Outcome) → first_end limit s xs ≡ end
    → (end ≡ None → HasCause limit (led (stepped s) xs).left rest) → HasCause limit xs (by_end end (led (stepped s) xs) rest)
ends-by (Some end) limit s xs rest is later = ends-here end limit s xs is
ends-by None limit s xs rest is later =
    let l = led (stepped s) xs in
    let it = later refl in (
      it.0,
      λ call e. length-append l.asked rest.asked ∙ ap (λ n. length l.asked + n) (it.1 call e) ∙ led-counts (stepped s) xs,
    )

-- By the number of steps that are enough to come to the limit.
run-ends : (n limit : ℕ) (s : McuState) (xs : List BusAnswer) → (1 ≤ n) × (limit + 1 ≤ s.devices.cycles + n) → HasCause limit xs (run limit s xs)
run-ends zero limit s xs enough = absurd (omega (arith, enough))
run-ends (suc n) limit s xs enough =
    let l = led (stepped s) xs in
    let cycles : ℕ = l.result.state.devices.cycles in
    let timed = led-all (Times s) (stepped s) xs (step-times s) in
    subst (HasCause limit xs) (sym (run-by-end limit s xs))
    (ends-by (first_end limit s xs) limit s xs (run limit (taken l.result.state) l.left) refl
    (λ on. let past : (s.devices.cycles + 1 ≤ cycles) × (cycles < limit) = goes-on l.wants l.result.went limit s.devices.cycles cycles timed on in
    run-ends n limit (taken l.result.state) l.left (omega (arith, enough, past), omega (arith, enough, past))))

run-has-cause : (limit : ℕ) (s : McuState) (xs : List BusAnswer) → HasCause limit xs (run limit s xs)
run-has-cause limit s xs = run-ends (limit - s.devices.cycles + 1) limit s xs (omega arith, omega arith)

pub limit-is-reached : LimitIsReached
limit-is-reached limit s xs = (run-has-cause limit s xs).0

pub answers-are-used : AnswersAreUsed
answers-are-used limit s xs = (run-has-cause limit s xs).1
