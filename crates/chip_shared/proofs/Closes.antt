-- Closing goes on from socket to socket, and what its answers say.
use Rattle.std.proofs.Common.{◌≡◌, ◌≤◌, ◌<◌, ℕ, ◌+◌, ◌-◌, ◌*◌, zero, suc, Bool, true, false, ◌||◌, Result, Ok, Err, refl, sym, ◌∙◌, subst, arith, inl, inr}
use Rattle.std.proofs.lemmas.Bool.{false≢true, cases_lt}
use Rattle.chip_sheet.specs.Windows.{flight}
use Rattle.chip_sheet.specs.LinkAnswers.{LinkAnswer}
use Rattle.chip_hist.specs.Log.{is_full}
use Rattle.wz_base.specs.Outside.{Rose}
use Rattle.link_trait.specs.Calls.{Call}
use Rattle.link_trait.specs.Shown.{Shown}
use Rattle.chip_shared.specs.State.{State, Keeps}
use Rattle.chip_shared.specs.Calling.{Steps}
use Rattle.chip_shared.specs.Causes.{Does, Later}
use Rattle.chip_shared.specs.Draining.{Drains, is_out_due}
use Rattle.chip_shared.specs.Closing.{Closes, Ends, EndsBy, OnlyStalled, Leaves}
use Rattle.chip_shared.specs.declared.shared.StepEnd.{StepEnd}
use Rattle.chip_shared.specs.declared.shared.StepEnd.TheVariants as end
use Rattle.chip_shared.specs.declared.shared.LinkDid.TheVariants as did
use Rattle.chip_shared.specs.declared.closing.Closing.{Closing}
use Rattle.chip_shared.specs.declared.closing.Closing.TheVariants.{Clear, Waiting, Faulted, Full, NoMemory}
use Rattle.chip_shared.proofs.Sweeps.{later_same, later_still, step_later}
use Rattle.chip_shared.proofs.Drained.{Drained, drained, Settled, Stalled, settled_since, settled_still, rose_since, rose_still}

-- What closing makes from here it made from the start.
abbrev pub ClosesOn : {L : Type 0} → (L → Call → LinkAnswer → L → Type 0) → ℕ → Bool → State L → State L → Type 0
ClosesOn effect n faulted start now = (more : ℕ) (answer : Closing) (new : State _) → more + n ≡ 8 → Closes effect more n faulted now answer new → Closes effect 8 0 false start answer new

pub closes_step : {L : Type 0} (effect : L → Call → LinkAnswer → L → Type 0) (n : ℕ) (faulted failed : Bool) (start now mid : State L) → ClosesOn effect n faulted start now
    → (most : ℕ) × Drains effect most n now (Ok failed) mid → ClosesOn effect (n + 1) (faulted || failed) start mid
closes_step effect n faulted failed start now mid on it =
    λ more answer new all rest. on (suc more) answer new (omega (arith, all)) (it.0, (Ok failed, (mid, (it.1, rest))))

pub closes_end : {L : Type 0} (effect : L → Call → LinkAnswer → L → Type 0) (faulted : Bool) (start now : State L) (answer : Closing) → ClosesOn effect 8 faulted start now → Ends now.starts now.log.past faulted answer
    → Closes effect 8 0 false start answer now
closes_end effect faulted start now answer on it = on 0 answer now (omega arith) (it, refl)

pub closes_refused : {L : Type 0} (effect : L → Call → LinkAnswer → L → Type 0) (n : ℕ) (faulted : Bool) (start now mid : State L) (end_ : StepEnd) (answer : Closing) → n < 8 → ClosesOn effect n faulted start now
    → (most : ℕ) × Drains effect most n now (Err end_) mid → EndsBy end_ answer → Closes effect 8 0 false start answer mid
closes_refused effect n faulted start now mid end_ answer few on it by =
    on (suc (7 - n)) answer mid (omega (arith, few)) (it.0, (Err end_, (mid, (it.1, (by, refl)))))

-- The step that was refused: something was due, and the history had reached its limit or had not.
abbrev pub Limit : {L : Type 0} → StepEnd → State L → Type 0
Limit end.TraceFull now = is_full now.log ≡ true
Limit end.NoMemory now = is_full now.log ≡ false
Limit (end.Stopped s) now = Unit {0}

pub record Ended {L : Type 0} (shown : L → Shown) (old : State L) (n : ℕ) (end_ : StepEnd) (new : State L) : Type 0 where
  pub due : is_out_due new n ≡ true
  pub limit : Limit end_ new
  pub later : Later (shown old.links) (shown new.links)

due_still : {L : Type 0} (old new : State L) (n : ℕ) → Keeps old new → is_out_due old n ≡ true → is_out_due new n ≡ true
due_still old new n keeps is = rw (keeps.starts, keeps.past) is

full_still : {L : Type 0} (old new : State L) → Keeps old new → is_full new.log ≡ is_full old.log
full_still old new keeps = rw (keeps.past, keeps.limit) refl

ended_step : {L : Type 0} (effect : L → Call → LinkAnswer → L → Type 0) (shown : L → Shown) (old new : State L) (n : ℕ) (end_ : StepEnd) → is_out_due old n ≡ true → Steps (Does effect shown) old (2 * n) (Err end_) new
    → Ended shown old n end_ new
ended_step effect shown old new n (end.Stopped s) is step = record { due = due_still old new n step.0 is; limit = tt; later = step_later effect shown old new (2 * n) (Err (end.Stopped s)) step }
ended_step effect shown old new n end.TraceFull is step =
    record { due = due_still old new n step.0 is; limit = full_still old new step.0 ∙ step.1.1.1; later = step_later effect shown old new (2 * n) (Err end.TraceFull) step }
ended_step effect shown old new n end.NoMemory is step =
    record { due = due_still old new n step.0 is; limit = full_still old new step.0 ∙ step.1.1.0.room; later = step_later effect shown old new (2 * n) (Err end.NoMemory) step }

ended_later : {L : Type 0} (shown : L → Shown) (old mid new : State L) (n : ℕ) (end_ : StepEnd) → Later (shown old.links) (shown mid.links) → Ended shown mid n end_ new → Ended shown old n end_ new
ended_later shown old mid new n end_ later it = record { due = it.due; limit = it.limit; later = later_still (shown old.links) (shown mid.links) (shown new.links) later it.later }

never_err : (failed : Bool) (end_ : StepEnd) (result : Result Bool StepEnd) → result ≡ Err end_ → result ≡ Ok failed → ⊥
never_err failed end_ result err ok = let h = sym ok ∙ err in cc

same_end : (a b : StepEnd) (result : Result Bool StepEnd) → result ≡ Err a → result ≡ Err b → b ≡ a
same_end a b result one two = let h = sym two ∙ one in cc

pub ended : {L : Type 0} (effect : L → Call → LinkAnswer → L → Type 0) (shown : L → Shown) (most n : ℕ) (old : State L) (end_ : StepEnd) (result : Result Bool StepEnd) (new : State L) → result ≡ Err end_
    → Drains (Does effect shown) most n old result new → Ended shown old n end_ new
ended effect shown zero n old end_ result new err it = absurd (never_err false end_ result err it.1.0)
ended effect shown (suc most) n old end_ result new err (is, (Err by, (mid, (step, rest)))) =
    let e = same_end end_ by result err rest.0 in
    subst (λ (x : StepEnd). Ended shown old n x new) e
    (subst (λ (s : State _). Ended shown old n by s) (sym rest.1) (ended_step effect shown old mid n by is step))
ended effect shown (suc most) n old end_ result new err (is, (Ok (did.Did at), (mid, (step, rest)))) =
    ended_later shown old mid new n end_ (step_later effect shown old mid (2 * n) (Ok (did.Did at)) step) (ended effect shown most n mid end_ result new err rest)
ended effect shown (suc most) n old end_ result new err (is, (Ok (did.NotYet at), (mid, (step, rest)))) = absurd (never_err false end_ result err rest.0)
ended effect shown (suc most) n old end_ result new err (is, (Ok (did.Fault at), (mid, (step, rest)))) = absurd (never_err true end_ result err rest.0)
ended effect shown (suc most) n old end_ result new err (is, (Ok did.Idle, (mid, (step, rest)))) = absurd rest

-- What holds once the sockets below n were gone through.
pub record Gone {L : Type 0} (shown : L → Shown) (start : Shown) (n : ℕ) (faulted : Bool) (now : State L) : Type 0 where
  pub later : Later start (shown now.links)
  pub settled : (m : ℕ) → m < n → Settled shown start m now
  pub fault : faulted ≡ true → Rose start.faults (shown now.links).faults

gone_start : {L : Type 0} (shown : L → Shown) (now : State L) → Gone shown (shown now.links) 0 false now
gone_start shown now = record {
  later = later_same (shown now.links) (shown now.links) refl;
  settled = λ m few. absurd (omega (arith, few));
  fault = λ is. absurd (false≢true is);
}

fault_by : (a b : Bool) (start mid new : ℕ) → (a ≡ true → Rose start mid) → mid ≤ new → start ≤ mid → (b ≡ true → Rose mid new) → (a || b) ≡ true → Rose start new
fault_by true b start mid new one later before two is = rose_still start mid new (one refl) later
fault_by false b start mid new one later before two is = rose_since start mid new before (two is)

gone_step : {L : Type 0} (shown : L → Shown) (start : Shown) (n : ℕ) (faulted failed : Bool) (now mid : State L) → Gone shown start n faulted now → Drained shown now n failed mid → Gone shown start (n + 1) (faulted || failed) mid
gone_step shown start n faulted failed now mid gone it = record {
  later = later_still start (shown now.links) (shown mid.links) gone.later it.later;
  settled = λ m few. elim (cases_lt m n) [
    | inl below ↦ settled_still shown start m now mid (gone.settled m below) (it.kept m (λ e. omega (arith, e, below))) it.later
    | inr over ↦ let e : n ≡ m = omega (arith, over, few) in
        subst (λ (k : ℕ). Settled shown start k mid) e (settled_since shown start (shown now.links) n mid gone.later it.settled)
  ];
  fault = fault_by faulted failed start.faults (shown now.links).faults (shown mid.links).faults gone.fault it.later.faults gone.later.faults it.fault;
}

stalls_of : {L : Type 0} (shown : L → Shown) (start : Shown) (n : ℕ) (now : State L) → 0 < flight now.starts now.log.past n → Settled shown start n now → Stalled shown start n now
stalls_of shown start n now some (inl none) = absurd (omega (arith, some, none))
stalls_of shown start n now some (inr it) = it

only_stalled : {L : Type 0} (shown : L → Shown) (start : Shown) (faulted : Bool) (now : State L) → Gone shown start 8 faulted now → OnlyStalled now.starts now.log.past start (shown now.links)
only_stalled shown start faulted now gone = λ n few some. let it = stalls_of shown start n now some (gone.settled n few) in record { life = it.life; stalls = it.stalls }

gone_leaves : {L : Type 0} (shown : L → Shown) (start : Shown) (faulted : Bool) (now : State L) (answer : Closing) → Gone shown start 8 faulted now → Ends now.starts now.log.past faulted answer → Leaves answer start now (shown now.links)
gone_leaves shown start faulted now Clear gone it = it
gone_leaves shown start faulted now Faulted gone it = (gone.fault it.0, (it.1, only_stalled shown start faulted now gone))
gone_leaves shown start faulted now Waiting gone it =
    let stalled = stalls_of shown start it.1.0 now it.1.1.1 (gone.settled it.1.0 it.1.1.0) in
    (stalled.waits, (it.1, only_stalled shown start faulted now gone))
gone_leaves shown start faulted now Full gone it = absurd it
gone_leaves shown start faulted now NoMemory gone it = absurd it

ends_by : {L : Type 0} (shown : L → Shown) (start : Shown) (old now : State L) (n : ℕ) (end_ : StepEnd) (answer : Closing) → n < 8 → EndsBy end_ answer → Ended shown old n end_ now → Leaves answer start now (shown now.links)
ends_by shown start old now n (end.Stopped s) answer few by it = absurd by
ends_by shown start old now n end.TraceFull answer few by it = subst (λ (a : Closing). Leaves a start now (shown now.links)) (sym by) ((n, (few, it.due)), it.limit)
ends_by shown start old now n end.NoMemory answer few by it = subst (λ (a : Closing). Leaves a start now (shown now.links)) (sym by) ((n, (few, it.due)), it.limit)

-- What its answer says.
pub record Said {L : Type 0} (shown : L → Shown) (start : Shown) (answer : Closing) (new : State L) : Type 0 where
  pub leaves : Leaves answer start new (shown new.links)
  pub later : Later start (shown new.links)

closes_by : {L : Type 0} (effect : L → Call → LinkAnswer → L → Type 0) (shown : L → Shown) (start : Shown) (more n : ℕ) (faulted : Bool) (old : State L) (answer : Closing) (new : State L) → more + n ≡ 8 → Gone shown start n faulted old
    → Closes (Does effect shown) more n faulted old answer new → Said shown start answer new
closes_by effect shown start zero n faulted old answer new all gone it =
    let e : n ≡ 8 = omega (arith, all) in
    let whole = subst (λ (k : ℕ). Gone shown start k faulted old) e gone in
    subst (λ (s : State _). Said shown start answer s) (sym it.1) (record { leaves = gone_leaves shown start faulted old answer whole it.0; later = whole.later })
closes_by effect shown start (suc more) n faulted old answer new all gone (most, (Ok failed, (mid, (drains, rest)))) =
    let few : n < 8 = omega (arith, all) in
    closes_by effect shown start more (n + 1) (faulted || failed) mid answer new (omega (arith, all))
    (gone_step shown start n faulted failed old mid gone (drained effect shown most n old failed (Ok failed) mid few refl drains)) rest
closes_by effect shown start (suc more) n faulted old answer new all gone (most, (Err end_, (mid, (drains, rest)))) =
    let few : n < 8 = omega (arith, all) in
    let it = ended effect shown most n old end_ (Err end_) mid refl drains in
    subst (λ (s : State _). Said shown start answer s) (sym rest.1)
    (record { leaves = ends_by shown start old mid n end_ answer few rest.0 it; later = later_still start (shown old.links) (shown mid.links) gone.later it.later })

pub closes_says : {L : Type 0} (effect : L → Call → LinkAnswer → L → Type 0) (shown : L → Shown) (old : State L) (answer : Closing) (new : State L) → Closes (Does effect shown) 8 0 false old answer new → Said shown (shown old.links) answer new
closes_says effect shown old answer new it = closes_by effect shown (shown old.links) 8 0 false old answer new (omega arith) (gone_start shown old) it
