-- A sweep goes on from the place that was met, and no count falls.
use Rattle.std.proofs.Common.{◌≡◌, ◌≤◌, ◌<◌, ℕ, ◌+◌, ◌-◌, zero, suc, ltb, List, [], ◌∷◌, drop, Option, None, Some, Result, Ok, Err, IfSome, MatchOption, refl, sym, ap, ◌∙◌, subst, arith}
use Rattle.std.proofs.lemmas.Bool.{cond_both, ltb-true}
use Rattle.chip_sheet.specs.Past.{Past}
use Rattle.chip_sheet.specs.Streams.{Starts}
use Rattle.chip_sheet.specs.LinkCalls.{due_at}
use Rattle.chip_sheet.specs.LinkAnswers.{LinkAnswer, NotYet, Failed}
use Rattle.link_trait.specs.Calls.{Call}
use Rattle.link_trait.specs.Shown.{Shown}
use Rattle.chip_shared.specs.State.{State}
use Rattle.chip_shared.specs.Calling.{Steps, Idles, Called, is_due, places, first_of, first_due, did_at}
use Rattle.chip_shared.specs.Causes.{Does, Later}
use Rattle.chip_shared.specs.Sweeping.{Sweeps, behind, goes_on_from}
use Rattle.chip_shared.specs.declared.shared.StepEnd.{StepEnd}
use Rattle.chip_shared.specs.declared.shared.LinkDid.{LinkDid}

-- The first due place of some that stand in a row is not before the first of them.
abbrev pub InRow : ℕ → List ℕ → Type 0
InRow from [] = Unit {0}
InRow from (place ∷ more) = (place ≡ from) × InRow (from + 1) more

pub places_in_row : InRow 0 places
places_in_row = (refl, (refl, (refl, (refl, (refl, (refl, (refl, (refl, (refl, (refl, (refl, (refl, (refl, (refl, (refl, (refl, tt))))))))))))))))

pub drop_in_row : (k from : ℕ) (row : List ℕ) → InRow from row → InRow (k + from) (drop k row)
drop_in_row zero from row it = let e : from ≡ 0 + from = omega arith in subst (λ (x : ℕ). InRow x row) e it
drop_in_row (suc k) from [] it = tt
drop_in_row (suc k) from (place ∷ more) it =
    let e : k + (from + 1) ≡ suc k + from = omega arith in
    subst (λ (x : ℕ). InRow x (drop k more)) e (drop_in_row k (from + 1) more it.1)

abbrev pub From : ℕ → Option ℕ → Type 0
From from met = IfSome met (λ place. from ≤ place)

later_from : (from : ℕ) (met : Option ℕ) → From (from + 1) met → From from met
later_from from None it = tt
later_from from (Some place) it = omega (arith, it)

row_from : (starts : Starts) (past : Past) (from : ℕ) (row : List ℕ) → InRow from row → From from (first_of starts past row)
row_from starts past from [] it = tt
row_from starts past from (place ∷ more) it =
    cond_both (is_due (due_at starts past place)) (Some place) (first_of starts past more) (From from)
    (λ e. let same = it.0 in omega (arith, same))
    (λ e. later_from from (first_of starts past more) (row_from starts past (from + 1) more it.1))

pub due_from : (starts : Starts) (past : Past) (from : ℕ) → From from (first_due starts past from)
due_from starts past from =
    let e : from + 0 ≡ from = omega arith in
    subst (λ (x : ℕ). From x (first_due starts past from)) e (row_from starts past (from + 0) (drop from places) (drop_in_row from 0 places places_in_row))

-- How many places are left.
abbrev pub left : Option ℕ → ℕ
left None = 0
left (Some from) = 16 - from

abbrev pub IsPlace : Option ℕ → Type 0
IsPlace next = IfSome next (λ from. from < 16)

-- The next place, where there is one, is behind a place.
abbrev pub Behind : ℕ → Option ℕ → Type 0
Behind from next = IsPlace next × (left next < 16 - from)

pub behind_goes : (from place : ℕ) → from < 16 → from ≤ place → Behind from (behind place)
behind_goes from place few on =
    cond_both (ltb place 15) (Some (place + 1)) None (Behind from)
    (λ e. let h = ltb-true place 15 e in (omega (arith, h), omega (arith, h, few, on)))
    (λ e. (tt, omega (arith, few)))

pub did_behind : (place : ℕ) (answer : LinkAnswer) → goes_on_from (did_at place answer) ≡ behind place
did_behind place NotYet = refl
did_behind place Failed = refl
did_behind place answer = refl

met_behind : {L : Type 0} (effect : L → Call → LinkAnswer → L → Type 0) (old new : State L) (from : ℕ) (does : LinkDid) (met : Option ℕ) → from < 16 → From from met
    → MatchOption met (Idles old does new) (λ place. Called effect old place does new) → Behind from (goes_on_from does)
met_behind effect old new from does None few on it = rw it.did (tt, omega (arith, few))
met_behind effect old new from does (Some place) few on it =
    let same = ap goes_on_from it.did ∙ did_behind place it.answer in
    subst (Behind from) (sym same) (behind_goes from place few on)

-- A sweep from its start goes on from here as from the start.
pub record SweepsOn {L : Type 0} (effect : L → Call → LinkAnswer → L → Type 0) (start now : State L) (next : Option ℕ) : Type 0 where
  pub place : IsPlace next
  pub used : ℕ
  pub few : used + left next ≤ 16
  pub goes : (most : ℕ) (result : Result (Unit {0}) StepEnd) (new : State L) → most + used ≡ 16 → Sweeps effect most now next result new → Sweeps effect 16 start (Some 0) result new

pub sweeps_start : {L : Type 0} (effect : L → Call → LinkAnswer → L → Type 0) (start : State L) → SweepsOn effect start start (Some 0)
sweeps_start effect start = record {
  place = omega arith;
  used = 0;
  few = omega arith;
  goes = λ most result new all it. let e : most ≡ 16 = omega (arith, all) in subst (λ (k : ℕ). Sweeps effect k start (Some 0) result new) e it;
}

pub sweep_behind : {L : Type 0} (effect : L → Call → LinkAnswer → L → Type 0) (now mid : State L) (from : ℕ) (does : LinkDid) → from < 16 → Steps effect now from (Ok does) mid → Behind from (goes_on_from does)
sweep_behind effect now mid from does few step = met_behind effect now mid from does (first_due now.starts now.log.past from) few (due_from now.starts now.log.past from) step.1

pub sweeps_step : {L : Type 0} (effect : L → Call → LinkAnswer → L → Type 0) (start now mid : State L) (from : ℕ) (does : LinkDid) → SweepsOn effect start now (Some from) → Steps effect now from (Ok does) mid
    → SweepsOn effect start mid (goes_on_from does)
sweeps_step effect start now mid from does on step =
    let further = sweep_behind effect now mid from does on.place step in
    let less = further.1 in
    let few = on.few in
    record {
      place = further.0;
      used = on.used + 1;
      few = omega (arith, less, few);
      goes = λ most result new all it. on.goes (suc most) result new (omega (arith, all)) (Ok does, (mid, (step, it)));
    }

pub sweeps_end : {L : Type 0} (effect : L → Call → LinkAnswer → L → Type 0) (start now : State L) → SweepsOn effect start now None → Sweeps effect 16 start (Some 0) (Ok tt) now
sweeps_end effect start now on =
    let few = on.few in
    on.goes (16 - on.used) (Ok tt) now (omega (arith, few)) (refl, refl)

pub sweeps_refused : {L : Type 0} (effect : L → Call → LinkAnswer → L → Type 0) (start now mid : State L) (from : ℕ) (end_ : StepEnd) → SweepsOn effect start now (Some from) → Steps effect now from (Err end_) mid
    → Sweeps effect 16 start (Some 0) (Err end_) mid
sweeps_refused effect start now mid from end_ on step =
    let few = on.few in
    let place = on.place in
    on.goes (suc (15 - on.used)) (Err end_) mid (omega (arith, few, place)) (Err end_, (mid, (step, (refl, refl))))

-- No count falls.
pub later_same : (old new : Shown) → new ≡ old → Later old new
later_same old new same = rw same (record { faults = omega arith; waits = omega arith; stalls = omega arith })

pub later_still : (old mid new : Shown) → Later old mid → Later mid new → Later old new
later_still old mid new one two =
    let a = one.faults in let b = two.faults in let c = one.waits in let d = two.waits in let e = one.stalls in let f = two.stalls in
    record { faults = omega (arith, a, b); waits = omega (arith, c, d); stalls = omega (arith, e, f) }

met_later : {L : Type 0} (effect : L → Call → LinkAnswer → L → Type 0) (shown : L → Shown) (old new : State L) (does : LinkDid) (met : Option ℕ)
    → MatchOption met (Idles old does new) (λ place. Called (Does effect shown) old place does new) → Later (shown old.links) (shown new.links)
met_later effect shown old new does None it = later_same (shown old.links) (shown new.links) (ap shown it.links)
met_later effect shown old new does (Some place) it =
    let counts = it.effect.counts in
    record { faults = counts.faults.later; waits = counts.waits.later; stalls = counts.stalls.later }

pub step_later : {L : Type 0} (effect : L → Call → LinkAnswer → L → Type 0) (shown : L → Shown) (old new : State L) (from : ℕ) (step : Result LinkDid StepEnd)
    → Steps (Does effect shown) old from step new → Later (shown old.links) (shown new.links)
step_later effect shown old new from (Ok does) it = met_later effect shown old new does (first_due old.starts old.log.past from) it.1
step_later effect shown old new from (Err end_) it = later_same (shown old.links) (shown new.links) (ap shown it.0.links)

-- The same, as the loop names its values.
pub sweep_smaller : {L : Type 0} (effect : L → Call → LinkAnswer → L → Type 0) (start now mid : State L) (next after : Option ℕ) (from : ℕ) (does : LinkDid) → SweepsOn effect start now next → next ≡ Some from
    → Steps effect now from (Ok does) mid → after ≡ goes_on_from does → left after < left next
sweep_smaller effect start now mid next after from does on is step goes =
    let here = subst (λ (x : Option ℕ). SweepsOn effect start now x) is on in
    rw (is, goes) ((sweep_behind effect now mid from does here.place step).1)

pub sweeps_next : {L : Type 0} (effect : L → Call → LinkAnswer → L → Type 0) (start now mid : State L) (next after : Option ℕ) (from : ℕ) (does : LinkDid) → SweepsOn effect start now next → next ≡ Some from
    → Steps effect now from (Ok does) mid → after ≡ goes_on_from does → SweepsOn effect start mid after
sweeps_next effect start now mid next after from does on is step goes =
    subst (λ (x : Option ℕ). SweepsOn effect start mid x) (sym goes)
    (sweeps_step effect start now mid from does (subst (λ (x : Option ℕ). SweepsOn effect start now x) is on) step)

pub sweeps_over : {L : Type 0} (effect : L → Call → LinkAnswer → L → Type 0) (start now : State L) (next : Option ℕ) → SweepsOn effect start now next → next ≡ None → Sweeps effect 16 start (Some 0) (Ok tt) now
sweeps_over effect start now next on is = sweeps_end effect start now (subst (λ (x : Option ℕ). SweepsOn effect start now x) is on)

pub sweeps_err : {L : Type 0} (effect : L → Call → LinkAnswer → L → Type 0) (start now mid : State L) (next : Option ℕ) (from : ℕ) (end_ : StepEnd) → SweepsOn effect start now next → next ≡ Some from
    → Steps effect now from (Err end_) mid → Sweeps effect 16 start (Some 0) (Err end_) mid
sweeps_err effect start now mid next from end_ on is step = sweeps_refused effect start now mid from end_ (subst (λ (x : Option ℕ). SweepsOn effect start now x) is on) step
