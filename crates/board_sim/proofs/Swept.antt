-- A sweep of the chip with scripted peers is the schedule's.
use Rattle.std.proofs.Common.{◌≡◌, ℕ, zero, suc, true, false, Option, None, Some, MatchOption, Result, Ok, Err, refl, sym, ap, ◌∙◌, subst}
use Rattle.board_bus.specs.declared.event.BusEvent.{BusEvent}
use Rattle.link_script.specs.declared.script_links.ScriptLinks.{ScriptLinks}
use Rattle.chip_hist.specs.Log.{is_full}
use Rattle.chip_shared.specs.State.{State}
use Rattle.chip_shared.specs.Calling.{Idles, Called, first_due}
use Rattle.chip_shared.specs.Sweeping.{Sweeps, goes_on_from}
use Rattle.chip_shared.specs.declared.shared.StepEnd.{StepEnd}
use Rattle.chip_shared.specs.declared.shared.LinkDid.{LinkDid}
use Rattle.board_sim.specs.Boards.{Board, is_full_at}
use Rattle.board_sim.specs.Sweeps.{Swept, whole, cut_off, did, linked, idled, swept_from}
use Rattle.board_sim.specs.Views.{board_of}
use Rattle.board_sim.proofs.LinkSteps.{ByScript, Leads, idle_is, called_is, called_did, refused}

-- The rest of a sweep whose history is not full, by the first place at which a call is due.
abbrev met_by : ℕ → Board → Option ℕ → Swept
met_by most b None = whole (idled b)
met_by most b (Some place) = swept_from most (linked b place) (goes_on_from (did b place))

swept_full : (most : ℕ) (b : Board) (from : ℕ) → is_full_at b.events b.past ≡ true → swept_from (suc most) b (Some from) ≡ cut_off b
unfolding swept_from
swept_full most b from full = rw full refl

swept_met : (most : ℕ) (b : Board) (from : ℕ) (met : Option ℕ) → is_full_at b.events b.past ≡ false → first_due b.starts b.past from ≡ met → swept_from (suc most) b (Some from) ≡ met_by most b met
unfolding swept_from
swept_met most b from met room is = rw (room, is) refl

-- Where no place is left, the sweep is over.
swept_none : (most : ℕ) (b : Board) → swept_from most b None ≡ whole b
unfolding swept_from
swept_none zero b = refl
swept_none (suc most) b = refl

over : (swept : Swept) (wanted : Option BusEvent) (bytes steps : ℕ) (old new : State ScriptLinks) (result : Result (Unit {0}) StepEnd) → old.stopped ≡ None → swept ≡ whole (board_of old wanted bytes steps)
    → result ≡ Ok tt → new ≡ old → Leads result swept wanted bytes steps new
over swept wanted bytes steps old new result none is ok same = rw (ok, same) (record { by = is; unstopped = none })

-- After a step that was made.
after_idle : (most : ℕ) (wanted : Option BusEvent) (bytes steps : ℕ) (old mid new : State ScriptLinks) (from : ℕ) (does : LinkDid) (result : Result (Unit {0}) StepEnd)
    → is_full old.log ≡ false → first_due old.starts old.log.past from ≡ None → Idles old does mid → Sweeps ByScript most mid (goes_on_from does) result new
    → Leads result (swept_from (suc most) (board_of old wanted bytes steps) (Some from)) wanted bytes steps new
after_idle most wanted bytes steps old mid new from does result room is it rest =
    let ends = subst (λ (d : LinkDid). Sweeps ByScript most mid (goes_on_from d) result new) it.did rest in
    over (swept_from (suc most) (board_of old wanted bytes steps) (Some from)) wanted bytes steps mid new result it.stopped
    (swept_met most (board_of old wanted bytes steps) from None room is ∙ ap whole (sym (idle_is wanted bytes steps old mid does it)))
    ends.0 ends.1

after_call : (most : ℕ) (wanted : Option BusEvent) (bytes steps : ℕ) (old mid new : State ScriptLinks) (from place : ℕ) (does : LinkDid) (result : Result (Unit {0}) StepEnd)
    → is_full old.log ≡ false → first_due old.starts old.log.past from ≡ Some place → Called ByScript old place does mid
    → Leads result (swept_from most (board_of mid wanted bytes steps) (goes_on_from does)) wanted bytes steps new
    → Leads result (swept_from (suc most) (board_of old wanted bytes steps) (Some from)) wanted bytes steps new
after_call most wanted bytes steps old mid new from place does result room is it rest =
    let b = board_of old wanted bytes steps in
    let e = swept_met most b from (Some place) room is
    ∙ ap (λ (d : LinkDid). swept_from most (linked b place) (goes_on_from d)) (sym (called_did wanted bytes steps old mid place does it))
    ∙ ap (λ (x : Board). swept_from most x (goes_on_from does)) (sym (called_is wanted bytes steps old mid place does it)) in
    subst (λ (s : Swept). Leads result s wanted bytes steps new) (sym e) rest

after_step : (most : ℕ) (wanted : Option BusEvent) (bytes steps : ℕ) (old mid new : State ScriptLinks) (from : ℕ) (does : LinkDid) (result : Result (Unit {0}) StepEnd) (met : Option ℕ)
    → is_full old.log ≡ false → first_due old.starts old.log.past from ≡ met → MatchOption met (Idles old does mid) (λ place. Called ByScript old place does mid)
    → Sweeps ByScript most mid (goes_on_from does) result new
    → (mid.stopped ≡ None → Leads result (swept_from most (board_of mid wanted bytes steps) (goes_on_from does)) wanted bytes steps new)
    → Leads result (swept_from (suc most) (board_of old wanted bytes steps) (Some from)) wanted bytes steps new
after_step most wanted bytes steps old mid new from does result None room is it rest on = after_idle most wanted bytes steps old mid new from does result room is it rest
after_step most wanted bytes steps old mid new from does result (Some place) room is it rest on =
    after_call most wanted bytes steps old mid new from place does result room is it (on it.stopped)

pub sweeps_are : (most : ℕ) (wanted : Option BusEvent) (bytes steps : ℕ) (old : State ScriptLinks) (from : Option ℕ) (result : Result (Unit {0}) StepEnd) (new : State ScriptLinks)
    → old.stopped ≡ None → Sweeps ByScript most old from result new → Leads result (swept_from most (board_of old wanted bytes steps) from) wanted bytes steps new
sweeps_are zero wanted bytes steps old None result new none it =
    over (swept_from zero (board_of old wanted bytes steps) None) wanted bytes steps old new result none (swept_none zero (board_of old wanted bytes steps)) it.0 it.1
sweeps_are zero wanted bytes steps old (Some from) result new none it = absurd it
sweeps_are (suc most) wanted bytes steps old None result new none it =
    over (swept_from (suc most) (board_of old wanted bytes steps) None) wanted bytes steps old new result none (swept_none (suc most) (board_of old wanted bytes steps)) it.0 it.1
sweeps_are (suc most) wanted bytes steps old (Some from) result new none (Err end_, (mid, (step, rest))) =
    refused end_ (swept_from (suc most) (board_of old wanted bytes steps) (Some from)) wanted bytes steps old mid new result
    none step.0 step.1.0 step.1.1 rest.0 rest.1 (λ full. swept_full most (board_of old wanted bytes steps) from full)
sweeps_are (suc most) wanted bytes steps old (Some from) result new none (Ok does, (mid, (step, rest))) =
    after_step most wanted bytes steps old mid new from does result (first_due old.starts old.log.past from) step.0.room refl step.1 rest
    (λ stays. sweeps_are most wanted bytes steps mid (goes_on_from does) result new stays rest)

-- What `sweep` leaves, from its clause.
pub sweep_is : (wanted : Option BusEvent) (bytes steps : ℕ) (old : State ScriptLinks) (result : Result (Unit {0}) StepEnd) (new : State ScriptLinks)
    → old.stopped ≡ None → Sweeps ByScript 16 old (Some 0) result new → Leads result (swept_from 16 (board_of old wanted bytes steps) (Some 0)) wanted bytes steps new
sweep_is wanted bytes steps old result new none it = sweeps_are 16 wanted bytes steps old (Some 0) result new none it
