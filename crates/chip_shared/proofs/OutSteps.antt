-- The step at an outgoing place where something is due.
use Rattle.std.proofs.Common.{◌≡◌, ◌<◌, ℕ, suc, ◌+◌, ◌*◌, ◌/◌, ◌%◌, Bool, true, false, eqb, List, [], ◌∷◌, length, length-drop, drop, Option, None, Some, Result, Ok, Err, MatchOption, refl, sym, ap, ◌∙◌, subst, arith}
use Rattle.std.proofs.lemmas.Bool.{cond-true, eq-eqb}
use Rattle.chip_sheet.specs.declared.socket.Due.{Due}
use Rattle.chip_sheet.specs.Past.{Past}
use Rattle.chip_sheet.specs.Streams.{Starts}
use Rattle.chip_sheet.specs.Windows.{flight, in_flight, offered, offered_length, room_length}
use Rattle.chip_sheet.specs.LinkCalls.{due_at, outgoing, incoming}
use Rattle.chip_sheet.specs.LinkAnswers.{LinkAnswer, NotYet, Failed, entry_by, may_answer}
use Rattle.link_trait.specs.Calls.{Call}
use Rattle.chip_shared.specs.State.{State}
use Rattle.chip_shared.specs.Calling.{Steps, Idles, Called, is_due, places, first_of, first_due, did_at, call_of}
use Rattle.chip_shared.specs.Draining.{Drains, is_out_due}
use Rattle.chip_shared.specs.declared.shared.StepEnd.{StepEnd}
use Rattle.chip_shared.specs.declared.shared.LinkDid.{LinkDid}
use Rattle.chip_shared.specs.declared.shared.LinkDid.TheVariants as did
use Rattle.chip_shared.proofs.Sweeps.{InRow, places_in_row, drop_in_row}
use Rattle.chip_shared.proofs.Nearer.{Moves, calls_left, calls_fall}

-- The call that was made, with its answer and its entry.
pub record OutBy {L : Type 0} (does_so : L → Call → LinkAnswer → L → Type 0) (old : State L) (place n : ℕ) (call : Due) (does : LinkDid) (new : State L) : Type 0 where
  pub answer : LinkAnswer
  pub effect : does_so old.links (call_of call (offered old.starts old.log.past n) (in_flight old.starts old.log.past n) (room_length old.starts old.log.past n)) answer new.links
  pub may : may_answer call (offered_length old.starts old.log.past n) (room_length old.starts old.log.past n) answer ≡ true
  pub past : new.log.past ≡ entry_by n (flight old.starts old.log.past n) call answer ∷ old.log.past
  pub did : does ≡ did_at place answer
  pub stopped : new.stopped ≡ None
  pub starts : new.starts ≡ old.starts

-- It is the call of the socket's outgoing place.
abbrev pub Out : {L : Type 0} → (L → Call → LinkAnswer → L → Type 0) → State L → ℕ → LinkDid → State L → Type 0
Out effect old n does new = OutBy effect old (2 * n) n (outgoing old.starts old.log.past n) does new

half : (n : ℕ) → 2 * n / 2 ≡ n
half n = omega arith

even : (n : ℕ) → 2 * n % 2 ≡ 0
even n = omega arith

pub due_out : (starts : Starts) (past : Past) (n : ℕ) → due_at starts past (2 * n) ≡ outgoing starts past n
due_out starts past n =
    cond-true (eqb (2 * n % 2) 0) (outgoing starts past (2 * n / 2)) (incoming starts past (2 * n / 2)) (eq-eqb (2 * n % 2) 0 (even n))
    ∙ ap (outgoing starts past) (half n)

first_head : (starts : Starts) (past : Past) (from : ℕ) (row : List ℕ) → InRow from row → 0 < length row → is_due (due_at starts past from) ≡ true → first_of starts past row ≡ Some from
first_head starts past from [] it some is = absurd (omega (arith, some))
first_head starts past from (place ∷ more) it some is =
    cond-true (is_due (due_at starts past place)) (Some place) (first_of starts past more) (ap (λ (x : ℕ). is_due (due_at starts past x)) it.0 ∙ is) ∙ ap (λ (x : ℕ). Some x) it.0

first_out : (starts : Starts) (past : Past) (n : ℕ) → n < 8 → is_due (due_at starts past (2 * n)) ≡ true → first_due starts past (2 * n) ≡ Some (2 * n)
first_out starts past n few is =
    let all = length-drop (2 * n) places in
    let e : 2 * n + 0 ≡ 2 * n = omega arith in
    first_head starts past (2 * n) (drop (2 * n) places) (subst (λ (x : ℕ). InRow x (drop (2 * n) places)) e (drop_in_row (2 * n) 0 places places_in_row)) (omega (arith, all, few)) is

pub out_step : {L : Type 0} (effect : L → Call → LinkAnswer → L → Type 0) (old mid : State L) (n : ℕ) (does : LinkDid) → n < 8 → is_out_due old n ≡ true → Steps effect old (2 * n) (Ok does) mid → Out effect old n does mid
out_step effect old mid n does few is step =
    let starts = old.starts in
    let past = old.log.past in
    let it = subst (λ (o : Option ℕ). MatchOption o (Idles old does mid) (λ place. Called effect old place does mid)) (first_out starts past n few is) step.1 in
    let by : OutBy effect old (2 * n) (2 * n / 2) (due_at starts past (2 * n)) does mid =
    record { answer = it.answer; effect = it.effect; may = it.may; past = it.past; did = it.did; stopped = it.stopped; starts = it.starts } in
    subst (λ (call : Due). OutBy effect old (2 * n) n call does mid) (due_out starts past n)
    (subst (λ (m : ℕ). OutBy effect old (2 * n) m (due_at starts past (2 * n)) does mid) (half n) by)

-- What the step says tells the answer.
never_idle : (place : ℕ) (answer : LinkAnswer) → did.Idle ≡ did_at place answer → ⊥
never_idle place NotYet h = cc
never_idle place Failed h = cc
never_idle place answer h = cc

moves : (at place : ℕ) (answer : LinkAnswer) → did.Did at ≡ did_at place answer → Moves answer
moves at place NotYet h = cc
moves at place Failed h = cc
moves at place answer h = tt

pub is_not_yet : (at place : ℕ) (answer : LinkAnswer) → did.NotYet at ≡ did_at place answer → answer ≡ NotYet
is_not_yet at place NotYet h = refl
is_not_yet at place Failed h = cc
is_not_yet at place answer h = cc

pub is_failed : (at place : ℕ) (answer : LinkAnswer) → did.Fault at ≡ did_at place answer → answer ≡ Failed
is_failed at place NotYet h = cc
is_failed at place Failed h = refl
is_failed at place answer h = cc

-- A step whose answer is this one.
pub step_as : {L : Type 0} (effect : L → Call → LinkAnswer → L → Type 0) (old new : State L) (from : ℕ) (result : Result LinkDid StepEnd) (does want : LinkDid) → result ≡ Ok does → does ≡ want → Steps effect old from result new
    → Steps effect old from (Ok want) new
step_as effect old new from result does want is same step = subst (λ (r : Result LinkDid StepEnd). Steps effect old from r new) (is ∙ ap (λ (d : LinkDid). Ok d) same) step

-- Something is due, so the step is not idle.
pub not_idle : {L : Type 0} (effect : L → Call → LinkAnswer → L → Type 0) (old mid : State L) (n : ℕ) → n < 8 → is_out_due old n ≡ true → Steps effect old (2 * n) (Ok did.Idle) mid → ⊥
not_idle effect old mid n few is step =
    let out = out_step effect old mid n did.Idle few is step in
    never_idle (2 * n) out.answer out.did

-- A step that did something leaves fewer calls.
pub drain_smaller : {L : Type 0} (effect : L → Call → LinkAnswer → L → Type 0) (old mid : State L) (n at : ℕ) → n < 8 → is_out_due old n ≡ true → Steps effect old (2 * n) (Ok (did.Did at)) mid
    → calls_left mid.starts mid.log.past n < calls_left old.starts old.log.past n
drain_smaller effect old mid n at few is step =
    let out = out_step effect old mid n (did.Did at) few is step in
    let less = calls_fall old.starts old.log.past n out.answer out.may (moves at (2 * n) out.answer out.did) in
    subst (λ (s : Starts). calls_left s mid.log.past n < calls_left old.starts old.log.past n) (sym out.starts)
    (subst (λ (p : Past). calls_left old.starts p n < calls_left old.starts old.log.past n) (sym out.past) less)

-- No step stops.
pub step_unstopped : {L : Type 0} (effect : L → Call → LinkAnswer → L → Type 0) (old mid : State L) (n : ℕ) (does : LinkDid) → n < 8 → is_out_due old n ≡ true → Steps effect old (2 * n) (Ok does) mid → mid.stopped ≡ None
step_unstopped effect old mid n does few is step = (out_step effect old mid n does few is step).stopped

-- What is drained from here was drained from the start.
abbrev pub DrainsOn : {L : Type 0} → (L → Call → LinkAnswer → L → Type 0) → ℕ → State L → State L → Type 0
DrainsOn effect n start now = (most : ℕ) (result : Result Bool StepEnd) (new : State _) → Drains effect most n now result new → (all : ℕ) × Drains effect all n start result new

pub drains_step : {L : Type 0} (effect : L → Call → LinkAnswer → L → Type 0) (n : ℕ) (start now mid : State L) (at : ℕ) → DrainsOn effect n start now → is_out_due now n ≡ true → Steps effect now (2 * n) (Ok (did.Did at)) mid
    → DrainsOn effect n start mid
drains_step effect n start now mid at on is step = λ most result new it. on (suc most) result new (is, (Ok (did.Did at), (mid, (step, it))))

pub drains_end : {L : Type 0} (effect : L → Call → LinkAnswer → L → Type 0) (n : ℕ) (start now : State L) → DrainsOn effect n start now → is_out_due now n ≡ false → (all : ℕ) × Drains effect all n start (Ok false) now
drains_end effect n start now on is = on 0 (Ok false) now (is, (refl, refl))

pub drains_not_yet : {L : Type 0} (effect : L → Call → LinkAnswer → L → Type 0) (n : ℕ) (start now mid : State L) (at : ℕ) → DrainsOn effect n start now → is_out_due now n ≡ true → Steps effect now (2 * n) (Ok (did.NotYet at)) mid
    → (all : ℕ) × Drains effect all n start (Ok false) mid
drains_not_yet effect n start now mid at on is step = on 1 (Ok false) mid (is, (Ok (did.NotYet at), (mid, (step, (refl, refl)))))

pub drains_fault : {L : Type 0} (effect : L → Call → LinkAnswer → L → Type 0) (n : ℕ) (start now mid : State L) (at : ℕ) → DrainsOn effect n start now → is_out_due now n ≡ true → Steps effect now (2 * n) (Ok (did.Fault at)) mid
    → (all : ℕ) × Drains effect all n start (Ok true) mid
drains_fault effect n start now mid at on is step = on 1 (Ok true) mid (is, (Ok (did.Fault at), (mid, (step, (refl, refl)))))

pub drains_refused : {L : Type 0} (effect : L → Call → LinkAnswer → L → Type 0) (n : ℕ) (start now mid : State L) (end_ : StepEnd) → DrainsOn effect n start now → is_out_due now n ≡ true → Steps effect now (2 * n) (Err end_) mid
    → (all : ℕ) × Drains effect all n start (Err end_) mid
drains_refused effect n start now mid end_ on is step = on 1 (Err end_) mid (is, (Err end_, (mid, (step, (refl, refl)))))
