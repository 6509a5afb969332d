-- Closing of the chip with scripted peers is the schedule's.
use Rattle.std.proofs.Common.{◌≡◌, ◌≤◌, ◌<◌, ℕ, zero, suc, ◌+◌, ◌*◌, Bool, true, false, ◌||◌, Option, None, Some, MatchOption, Result, Ok, Err, refl, sym, ap, ◌∙◌, subst, arith}
use Rattle.std.proofs.lemmas.Bool.{false≢true}
use Rattle.board_bus.specs.declared.event.BusEvent.{BusEvent}
use Rattle.chip_sheet.specs.declared.socket.Status.{Status}
use Rattle.chip_sheet.specs.declared.socket.Status.TheVariants.{Closed, Init, Listen, SynSent, Established, FinWait, CloseWait, LastAck, Udp}
use Rattle.chip_sheet.specs.Life.{life}
use Rattle.chip_hist.specs.Log.{is_full}
use Rattle.link_script.specs.declared.script_links.ScriptLinks.{ScriptLinks}
use Rattle.chip_shared.specs.State.{State}
use Rattle.chip_shared.specs.Calling.{Idles, Called, Steps, first_due}
use Rattle.chip_shared.specs.Draining.{Drains, is_out_due}
use Rattle.chip_shared.specs.Closing.{Closes, EndsBy}
use Rattle.chip_shared.specs.declared.shared.StepEnd.{StepEnd}
use Rattle.chip_shared.specs.declared.shared.StepEnd.TheVariants as end
use Rattle.chip_shared.specs.declared.shared.LinkDid.{LinkDid}
use Rattle.chip_shared.specs.declared.shared.LinkDid.TheVariants as dids
use Rattle.chip_shared.specs.declared.closing.Closing.{Closing}
use Rattle.chip_shared.specs.declared.closing.Closing.TheVariants.{NoMemory}
use Rattle.chip_shared.proofs.Nearer.{phases, olds, calls_left}
use Rattle.chip_shared.proofs.OutSteps.{drain_smaller}
use Rattle.chip_shared.proofs.Seeking.{finds}
use Rattle.board_sim.specs.Boards.{Board, is_full_at}
use Rattle.board_sim.specs.Sweeps.{Swept, whole, cut_off, did, linked}
use Rattle.board_sim.specs.Closes.{is_out_due_on, went_on, drained, untaken, most_steps, closed_from, closed}
use Rattle.board_sim.specs.Views.{board_of}
use Rattle.board_sim.specs.Seats.{ClosesTo}
use Rattle.board_sim.proofs.LinkSteps.{ByScript, Leads, called_is, called_did, refused}

-- The steps of a socket, one by one.
drained_over : (most : ℕ) (b : Board) (n : ℕ) → is_out_due_on b n ≡ false → drained (suc most) b n ≡ whole b
unfolding drained
drained_over most b n none = rw none refl

drained_full : (most : ℕ) (b : Board) (n : ℕ) → is_out_due_on b n ≡ true → is_full_at b.events b.past ≡ true → drained (suc most) b n ≡ cut_off b
unfolding drained
drained_full most b n some full = rw (some, full) refl

drained_on : (most : ℕ) (b : Board) (n : ℕ) → is_out_due_on b n ≡ true → is_full_at b.events b.past ≡ false → went_on (did b (2 * n)) ≡ true → drained (suc most) b n ≡ drained most (linked b (2 * n)) n
unfolding drained
drained_on most b n some room on = rw (some, room, on) refl

drained_last : (most : ℕ) (b : Board) (n : ℕ) → is_out_due_on b n ≡ true → is_full_at b.events b.past ≡ false → went_on (did b (2 * n)) ≡ false → drained (suc most) b n ≡ whole (linked b (2 * n))
unfolding drained
drained_last most b n some room on = rw (some, room, on) refl

-- The call of a step at a place at which one is due.
call_there : (old mid : State ScriptLinks) (place : ℕ) (does : LinkDid) (met : Option ℕ) → met ≡ Some place → MatchOption met (Idles old does mid) (λ p. Called ByScript old p does mid) → Called ByScript old place does mid
call_there old mid place does met is it = subst (λ (m : Option ℕ). MatchOption m (Idles old does mid) (λ p. Called ByScript old p does mid)) is it

-- A step that went on leaves fewer calls.
falls : (old mid : State ScriptLinks) (n : ℕ) (does : LinkDid) → n < 8 → is_out_due old n ≡ true → Steps ByScript old (2 * n) (Ok does) mid → went_on does ≡ true
    → calls_left mid.starts mid.log.past n < calls_left old.starts old.log.past n
falls old mid n (dids.Did at) small some step on = drain_smaller ByScript old mid n at small some step
falls old mid n (dids.NotYet at) small some step on = absurd (false≢true on)
falls old mid n (dids.Fault at) small some step on = absurd (false≢true on)
falls old mid n dids.Idle small some step on = absurd (false≢true on)

-- Three calls at most take no bytes.
phases_few : (s : Status) (shut : Bool) → phases s shut ≤ 2
phases_few SynSent shut = omega arith
phases_few FinWait true = omega arith
phases_few FinWait false = omega arith
phases_few LastAck true = omega arith
phases_few LastAck false = omega arith
phases_few Closed shut = omega arith
phases_few Init shut = omega arith
phases_few Listen shut = omega arith
phases_few Established shut = omega arith
phases_few CloseWait shut = omega arith
phases_few Udp shut = omega arith

olds_few : (old : Option ℕ) → olds old ≤ 1
olds_few None = omega arith
olds_few (Some life) = omega arith

calls_few : (wanted : Option BusEvent) (bytes steps : ℕ) (old : State ScriptLinks) (n : ℕ) → calls_left old.starts old.log.past n ≤ untaken (board_of old wanted bytes steps) n + 3
calls_few wanted bytes steps old n =
    let at = life old.log.past n in
    let phases = phases_few at.status at.shut in
    let olds = olds_few at.old in
    omega (arith, phases, olds)

-- The outgoing steps of a socket: with as many steps as calls are left at most, and one more.
abbrev Drained : ℕ → ℕ → Option BusEvent → ℕ → ℕ → State ScriptLinks → Result Bool StepEnd → State ScriptLinks → Type 0
Drained fuel n wanted bytes steps old result new = Leads result (drained (suc fuel) (board_of old wanted bytes steps) n) wanted bytes steps new

ended : (fuel n : ℕ) (wanted : Option BusEvent) (bytes steps : ℕ) (old mid new : State ScriptLinks) (failed : Bool) (result : Result Bool StepEnd) → mid.stopped ≡ None
    → drained (suc fuel) (board_of old wanted bytes steps) n ≡ whole (board_of mid wanted bytes steps) → result ≡ Ok failed → new ≡ mid → Drained fuel n wanted bytes steps old result new
ended fuel n wanted bytes steps old mid new failed result none is ok same = rw (ok, same) (record { by = is; unstopped = none })

last_step : (fuel n : ℕ) (wanted : Option BusEvent) (bytes steps : ℕ) (old mid new : State ScriptLinks) (does : LinkDid) (failed : Bool) (result : Result Bool StepEnd)
    → is_out_due old n ≡ true → is_full old.log ≡ false → Called ByScript old (2 * n) does mid → went_on does ≡ false → result ≡ Ok failed → new ≡ mid → Drained fuel n wanted bytes steps old result new
last_step fuel n wanted bytes steps old mid new does failed result some room it on ok same =
    let b = board_of old wanted bytes steps in
    let last = subst (λ (d : LinkDid). went_on d ≡ false) (called_did wanted bytes steps old mid (2 * n) does it) on in
    ended fuel n wanted bytes steps old mid new failed result it.stopped
    (drained_last fuel b n some room last ∙ ap whole (sym (called_is wanted bytes steps old mid (2 * n) does it))) ok same

step_on : (fuel n : ℕ) (wanted : Option BusEvent) (bytes steps : ℕ) (old mid new : State ScriptLinks) (does : LinkDid) (result : Result Bool StepEnd)
    → is_out_due old n ≡ true → is_full old.log ≡ false → Called ByScript old (2 * n) does mid → went_on does ≡ true → Drained fuel n wanted bytes steps mid result new → Drained (suc fuel) n wanted bytes steps old result new
step_on fuel n wanted bytes steps old mid new does result some room it on rest =
    let b = board_of old wanted bytes steps in
    let goes = subst (λ (d : LinkDid). went_on d ≡ true) (called_did wanted bytes steps old mid (2 * n) does it) on in
    let e = drained_on (suc fuel) b n some room goes ∙ ap (λ (x : Board). drained (suc fuel) x n) (sym (called_is wanted bytes steps old mid (2 * n) does it)) in
    subst (λ (s : Swept). Leads result s wanted bytes steps new) (sym e) rest

-- A step that went on takes one of those that are left, and there is one.
abbrev Later : ℕ → ℕ → Option BusEvent → ℕ → ℕ → State ScriptLinks → Result Bool StepEnd → State ScriptLinks → Type 0
Later most n wanted bytes steps mid result new = (fuel : ℕ) → mid.stopped ≡ None → calls_left mid.starts mid.log.past n ≤ fuel → Drained fuel n wanted bytes steps mid result new

next_step : (most fuel n : ℕ) (wanted : Option BusEvent) (bytes steps : ℕ) (old mid new : State ScriptLinks) (does : LinkDid) (result : Result Bool StepEnd) → calls_left old.starts old.log.past n ≤ fuel
    → calls_left mid.starts mid.log.past n < calls_left old.starts old.log.past n
    → is_out_due old n ≡ true → is_full old.log ≡ false → Called ByScript old (2 * n) does mid → went_on does ≡ true → Later most n wanted bytes steps mid result new → Drained fuel n wanted bytes steps old result new
next_step most zero n wanted bytes steps old mid new does result few less some room it on rest = absurd (omega (arith, few, less))
next_step most (suc fuel) n wanted bytes steps old mid new does result few less some room it on rest =
    step_on fuel n wanted bytes steps old mid new does result some room it on
    (rest fuel it.stopped (omega (arith, few, less)))

-- What follows a step that was made, by what it did.
abbrev Follows : ℕ → ℕ → LinkDid → State ScriptLinks → Result Bool StepEnd → State ScriptLinks → Type 0
Follows most n does mid result new = elim does [
  | dids.Did place ↦ Drains ByScript most n mid result new
  | dids.NotYet place ↦ (result ≡ Ok false) × (new ≡ mid)
  | dids.Fault place ↦ (result ≡ Ok true) × (new ≡ mid)
  | dids.Idle ↦ ⊥
]

after_step : (most fuel n : ℕ) (wanted : Option BusEvent) (bytes steps : ℕ) (old mid new : State ScriptLinks) (does : LinkDid) (result : Result Bool StepEnd) → calls_left old.starts old.log.past n ≤ fuel
    → (went_on does ≡ true → calls_left mid.starts mid.log.past n < calls_left old.starts old.log.past n)
    → is_out_due old n ≡ true → is_full old.log ≡ false → Called ByScript old (2 * n) does mid
    → Follows most n does mid result new
    → (Drains ByScript most n mid result new → Later most n wanted bytes steps mid result new) → Drained fuel n wanted bytes steps old result new
after_step most fuel n wanted bytes steps old mid new (dids.Did place) result few less some room it rest on = next_step most fuel n wanted bytes steps old mid new (dids.Did place) result few (less refl) some room it refl (on rest)
after_step most fuel n wanted bytes steps old mid new (dids.NotYet place) result few less some room it rest on = last_step fuel n wanted bytes steps old mid new (dids.NotYet place) false result some room it refl rest.0 rest.1
after_step most fuel n wanted bytes steps old mid new (dids.Fault place) result few less some room it rest on = last_step fuel n wanted bytes steps old mid new (dids.Fault place) true result some room it refl rest.0 rest.1
after_step most fuel n wanted bytes steps old mid new dids.Idle result few less some room it rest on = absurd rest

pub drains_are : (most n : ℕ) (wanted : Option BusEvent) (bytes steps : ℕ) (old : State ScriptLinks) (result : Result Bool StepEnd) (new : State ScriptLinks) (fuel : ℕ) → n < 8
    → old.stopped ≡ None → calls_left old.starts old.log.past n ≤ fuel → Drains ByScript most n old result new → Drained fuel n wanted bytes steps old result new
drains_are zero n wanted bytes steps old result new fuel small none few it =
    ended fuel n wanted bytes steps old old new false result none (drained_over fuel (board_of old wanted bytes steps) n it.0) it.1.0 it.1.1
drains_are (suc most) n wanted bytes steps old result new fuel small none few (some, (Err end_, (mid, (step, rest)))) =
    refused end_ (drained (suc fuel) (board_of old wanted bytes steps) n) wanted bytes steps old mid new result
    none step.0 step.1.0 step.1.1 rest.0 rest.1 (λ full. drained_full fuel (board_of old wanted bytes steps) n some full)
drains_are (suc most) n wanted bytes steps old result new fuel small none few (some, (Ok does, (mid, (step, rest)))) =
    let it = call_there old mid (2 * n) does (first_due old.starts old.log.past (2 * n)) (finds old.starts old.log.past (2 * n) (omega arith) some) step.1 in
    after_step most fuel n wanted bytes steps old mid new does result few (falls old mid n does small some step) some step.0.room it rest
    (λ further fuel' stays less. drains_are most n wanted bytes steps mid result new fuel' small stays less further)

drain_is : (most n : ℕ) (wanted : Option BusEvent) (bytes steps : ℕ) (old : State ScriptLinks) (result : Result Bool StepEnd) (new : State ScriptLinks) → n < 8
    → old.stopped ≡ None → Drains ByScript most n old result new → Leads result (drained (most_steps (board_of old wanted bytes steps) n) (board_of old wanted bytes steps) n) wanted bytes steps new
drain_is most n wanted bytes steps old result new small none it =
    let b = board_of old wanted bytes steps in
    let all : suc (untaken b n + 3) ≡ most_steps b n = omega arith in
    subst (λ (k : ℕ). Leads result (drained k b n) wanted bytes steps new) all
    (drains_are most n wanted bytes steps old result new (untaken b n + 3) small none (calls_few wanted bytes steps old n) it)

closed_cut : (more : ℕ) (b after : Board) (n : ℕ) → drained (most_steps b n) b n ≡ cut_off after → closed_from (suc more) b n ≡ after
unfolding closed_from
closed_cut more b after n is = rw is refl

closed_on : (more : ℕ) (b after : Board) (n : ℕ) → drained (most_steps b n) b n ≡ whole after → closed_from (suc more) b n ≡ closed_from more after (n + 1)
unfolding closed_from
closed_on more b after n is = rw is refl

closed_none : (b : Board) (n : ℕ) → closed_from zero b n ≡ b
unfolding closed_from
closed_none b n = refl

closes_same : (answer : Closing) (a b c : Board) → a ≡ b → ClosesTo answer b c → ClosesTo answer a c
closes_same answer a b c same it = subst (λ (x : Board). ClosesTo answer x c) (sym same) it

equal_closes : (answer : Closing) (a b : Board) → a ≡ b → ClosesTo answer a b
equal_closes NoMemory a b same = tt
equal_closes answer a b same = same

-- A socket whose steps were refused ends it.
closes_refused : (more n : ℕ) (wanted : Option BusEvent) (bytes steps : ℕ) (old mid new : State ScriptLinks) (end_ : StepEnd) (answer : Closing)
    → Leads {A = Bool} (Err end_) (drained (most_steps (board_of old wanted bytes steps) n) (board_of old wanted bytes steps) n) wanted bytes steps mid → EndsBy end_ answer → new ≡ mid
    → ClosesTo answer (closed_from (suc more) (board_of old wanted bytes steps) n) (board_of new wanted bytes steps)
closes_refused more n wanted bytes steps old mid new (end.Stopped stop) answer it by same = absurd by
closes_refused more n wanted bytes steps old mid new end.NoMemory answer it by same = rw by tt
closes_refused more n wanted bytes steps old mid new end.TraceFull answer it by same =
    equal_closes answer _ _ (closed_cut more (board_of old wanted bytes steps) (board_of mid wanted bytes steps) n it.by ∙ ap (λ (s : State ScriptLinks). board_of s wanted bytes steps) (sym same))

pub closes_are : (more n : ℕ) (wanted : Option BusEvent) (bytes steps : ℕ) (faulted : Bool) (old : State ScriptLinks) (answer : Closing) (new : State ScriptLinks) → more + n ≤ 8
    → old.stopped ≡ None → Closes ByScript more n faulted old answer new → ClosesTo answer (closed_from more (board_of old wanted bytes steps) n) (board_of new wanted bytes steps)
closes_are zero n wanted bytes steps faulted old answer new small none it =
    equal_closes answer _ _ (closed_none (board_of old wanted bytes steps) n ∙ ap (λ (s : State ScriptLinks). board_of s wanted bytes steps) (sym it.1))
closes_are (suc more) n wanted bytes steps faulted old answer new small none (most, (Err end_, (mid, (drains, rest)))) =
    closes_refused more n wanted bytes steps old mid new end_ answer (drain_is most n wanted bytes steps old (Err end_) mid (omega arith) none drains) rest.0 rest.1
closes_are (suc more) n wanted bytes steps faulted old answer new small none (most, (Ok failed, (mid, (drains, rest)))) =
    let it = drain_is most n wanted bytes steps old (Ok failed) mid (omega arith) none drains in
    closes_same answer _ _ (board_of new wanted bytes steps) (closed_on more (board_of old wanted bytes steps) (board_of mid wanted bytes steps) n it.by)
    (closes_are more (n + 1) wanted bytes steps (faulted || failed) mid answer new (omega arith) it.unstopped rest)

-- What `closing` leaves, from its clause.
pub closing_is : (wanted : Option BusEvent) (bytes steps : ℕ) (old : State ScriptLinks) (answer : Closing) (new : State ScriptLinks)
    → old.stopped ≡ None → Closes ByScript 8 0 false old answer new → ClosesTo answer (closed (board_of old wanted bytes steps)) (board_of new wanted bytes steps)
closing_is wanted bytes steps old answer new none it = closes_are 8 0 wanted bytes steps false old answer new (omega arith) none it

-- Where memory was not missing, all of it was made.
pub closed_is : (answer : Closing) (board b : Board) → (answer ≡ NoMemory → ⊥) → ClosesTo answer board b → board ≡ b
closed_is NoMemory board b other it = absurd (other refl)
closed_is answer board b other it = it
