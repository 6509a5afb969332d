-- One link step of the chip with scripted peers, as the schedule's board makes it.
use Rattle.std.proofs.Common.{◌≡◌, ◌<◌, ◌⊎◌, ℕ, ◌/◌, true, ◌∷◌, Option, None, Some, Result, Ok, Err, IfOk, sym, ap, ◌∙◌}
use Rattle.board_bus.specs.declared.event.BusEvent.{BusEvent}
use Rattle.chip_sheet.specs.declared.event.Entry.TheVariants.{Rest}
use Rattle.chip_sheet.specs.declared.stop.ChipStop.{ChipStop}
use Rattle.chip_sheet.specs.Past.{Past}
use Rattle.chip_sheet.specs.Streams.{Starts}
use Rattle.chip_sheet.specs.Windows.{flight, most_read}
use Rattle.chip_sheet.specs.LinkCalls.{due_at}
use Rattle.chip_sheet.specs.LinkAnswers.{LinkAnswer, entry_by}
use Rattle.chip_hist.specs.Log.{is_full}
use Rattle.link_trait.specs.Calls.{Call}
use Rattle.link_script.specs.Play.{Played, Plays, answer_to, after, shown}
use Rattle.link_script.specs.Links.{played_of}
use Rattle.link_script.specs.declared.script_links.ScriptLinks.{ScriptLinks}
use Rattle.chip_shared.specs.State.{State, Keeps}
use Rattle.chip_shared.specs.Asking.{Refused}
use Rattle.chip_shared.specs.Causes.{Does}
use Rattle.chip_shared.specs.Calling.{Idles, Called, call_at, did_at}
use Rattle.chip_shared.specs.declared.shared.StepEnd.{StepEnd}
use Rattle.chip_shared.specs.declared.shared.StepEnd.TheVariants as end
use Rattle.chip_shared.specs.declared.shared.LinkDid.{LinkDid}
use Rattle.board_sim.specs.Boards.{Board}
use Rattle.board_sim.specs.Sweeps.{Swept, whole, cut_off, answered, did, linked, idled}
use Rattle.board_sim.specs.Views.{board_of}
use Rattle.board_sim.specs.Seats.{LeadsBy}

-- What a call makes of scripted peers, and of the counts that they show.
abbrev pub ByScript : ScriptLinks → Call → LinkAnswer → ScriptLinks → Type 0
ByScript p call answer q = Does (λ l c a m. Plays (played_of l) c a (played_of m)) (λ l. shown (played_of l)) p call answer q

-- There is no room for a link step.
abbrev pub Short : ℕ → ℕ → Type 0
Short events bytes = (events ≡ 0) ⊎ (bytes < most_read)

-- Boards are the same by their parts.
abbrev board_by : Option BusEvent → ℕ → ℕ → Starts → ℕ → Past → Played → Board
board_by wanted bytes steps starts events past links = record { starts = starts; events = events; past = past; links = links; wanted = wanted; bytes = bytes; steps = steps }

pub same_board : (wanted : Option BusEvent) (bytes steps : ℕ) (starts starts' : Starts) (events events' : ℕ) (past past' : Past) (links links' : Played)
    → starts ≡ starts' → events ≡ events' → past ≡ past' → links ≡ links'
    → board_by wanted bytes steps starts events past links ≡ board_by wanted bytes steps starts' events' past' links'
same_board wanted bytes steps starts starts' events events' past past' links links' a b c d = cc

same_kept : (wanted : Option BusEvent) (bytes steps : ℕ) (old new : State ScriptLinks) → Keeps old new → board_of new wanted bytes steps ≡ board_of old wanted bytes steps
same_kept wanted bytes steps old new it =
    same_board wanted bytes steps new.starts old.starts new.log.limit old.log.limit new.log.past old.log.past (played_of new.links) (played_of old.links)
    it.starts it.limit it.past (ap played_of it.links)

-- A turn in which nothing happened.
pub idle_is : (wanted : Option BusEvent) (bytes steps : ℕ) (old new : State ScriptLinks) (does : LinkDid) → Idles old does new → board_of new wanted bytes steps ≡ idled (board_of old wanted bytes steps)
idle_is wanted bytes steps old new does it =
    same_board wanted bytes steps new.starts old.starts new.log.limit old.log.limit new.log.past (Rest ∷ old.log.past) (played_of new.links) (played_of old.links)
    it.starts it.limit it.past (ap played_of it.links)

-- A call that was made.
pub called_is : (wanted : Option BusEvent) (bytes steps : ℕ) (old new : State ScriptLinks) (place : ℕ) (does : LinkDid) → Called ByScript old place does new
    → board_of new wanted bytes steps ≡ linked (board_of old wanted bytes steps) place
unfolding linked answered
called_is wanted bytes steps old new place does it =
    let so = it.effect.so in
    same_board wanted bytes steps new.starts old.starts new.log.limit old.log.limit
    new.log.past (entry_by (place / 2) (flight old.starts old.log.past (place / 2)) (due_at old.starts old.log.past place) (answer_to (played_of old.links) (call_at old.starts old.log.past place)) ∷ old.log.past)
    (played_of new.links) (after (played_of old.links) (call_at old.starts old.log.past place))
    it.starts it.limit
    (it.past ∙ ap (λ (a : LinkAnswer). entry_by (place / 2) (flight old.starts old.log.past (place / 2)) (due_at old.starts old.log.past place) a ∷ old.log.past) so.answered)
    so.left

pub called_did : (wanted : Option BusEvent) (bytes steps : ℕ) (old new : State ScriptLinks) (place : ℕ) (does : LinkDid) → Called ByScript old place does new
    → does ≡ did (board_of old wanted bytes steps) place
unfolding did answered
called_did wanted bytes steps old new place does it = it.did ∙ ap (did_at place) it.effect.so.answered

-- What link steps that ended so come to, and that no stop was answered.
pub record Leads {A : Type 0} (result : Result A StepEnd) (swept : Swept) (wanted : Option BusEvent) (bytes steps : ℕ) (new : State ScriptLinks) : Type 0 where
  pub by : LeadsBy result swept (board_of new wanted bytes steps)
  pub unstopped : new.stopped ≡ None

unstopped_never : (stop : ChipStop) (stopped : Option ChipStop) → stopped ≡ None → stopped ≡ Some stop → ⊥
unstopped_never stop stopped none some = let h = sym none ∙ some in cc

refused_by : (A : Type 0) (end_ : StepEnd) (swept : Swept) (wanted : Option BusEvent) (bytes steps : ℕ) (old new : State ScriptLinks) → old.stopped ≡ None → Keeps old new → Refused old Short end_
    → (is_full old.log ≡ true → swept ≡ cut_off (board_of old wanted bytes steps)) → LeadsBy {A = A} (Err end_) swept (board_of new wanted bytes steps)
refused_by A (end.Stopped stop) swept wanted bytes steps old new none keeps why cut = absurd (unstopped_never stop old.stopped none why)
refused_by A end.TraceFull swept wanted bytes steps old new none keeps why cut = cut why.1 ∙ ap cut_off (sym (same_kept wanted bytes steps old new keeps))
refused_by A end.NoMemory swept wanted bytes steps old new none keeps why cut = tt

-- A step that was refused.
pub refused : {A : Type 0} (end_ : StepEnd) (swept : Swept) (wanted : Option BusEvent) (bytes steps : ℕ) (old mid new : State ScriptLinks) (result : Result A StepEnd)
    → old.stopped ≡ None → Keeps old mid → mid.stopped ≡ old.stopped → Refused old Short end_ → result ≡ Err end_ → new ≡ mid
    → (is_full old.log ≡ true → swept ≡ cut_off (board_of old wanted bytes steps)) → Leads result swept wanted bytes steps new
refused {A} end_ swept wanted bytes steps old mid new result none keeps stays why is same cut =
    rw (is, same) (record {
      by = refused_by A end_ swept wanted bytes steps old mid none keeps why cut;
      unstopped = stays ∙ none;
    })

-- Link steps that were made whole.
pub led_whole : {A : Type 0} (result : Result A StepEnd) (swept : Swept) (wanted : Option BusEvent) (bytes steps : ℕ) (new : State ScriptLinks) → Leads result swept wanted bytes steps new
    → IfOk result (λ done. swept ≡ whole (board_of new wanted bytes steps))
led_whole (Ok done) swept wanted bytes steps new it = it.by
led_whole (Err end_) swept wanted bytes steps new it = tt
