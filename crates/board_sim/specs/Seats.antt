-- The board as the code keeps it: the shared state, the first event that got no answer, and the counts since the last sweep.
use Rattle.std.specs.Prelude.{◌≡◌, ℕ, ◌≤◌, true, false, length, Option, Some, None, Result, Ok, Err}
use Rattle.board_bus.specs.declared.event.BusEvent.{BusEvent}
use Rattle.board_bus.specs.declared.event.BusAnswer.{BusAnswer}
use Rattle.chip_sheet.specs.Stops.{stop}
use Rattle.chip_hist.specs.Log.{is_full}
use Rattle.chip_shared.specs.State.{State}
use Rattle.chip_shared.specs.declared.shared.StepEnd.{StepEnd}
use Rattle.chip_shared.specs.declared.shared.StepEnd.TheVariants as step_ends
use Rattle.chip_shared.specs.declared.closing.Closing.{Closing}
use Rattle.chip_shared.specs.declared.closing.Closing.TheVariants as closings
use Rattle.link_script.specs.declared.script_links.ScriptLinks.{ScriptLinks}
use Rattle.avr_space.specs.Peer.{AnswerTo}
use Rattle.avr_space.specs.declared.bus.BusIsOver.{BusIsOver}
use Rattle.avr_mcu.specs.Answers.{reads, over}
use Rattle.avr_run.specs.Told.{Told}
use Rattle.board_sim.specs.Boards.{Board}
use Rattle.board_sim.specs.Sweeps.{Swept, whole, cut_off}
use Rattle.board_sim.specs.Views.{board_of}
use Rattle.board_sim.specs.Exchanges.{asked_of, answers_of}
use Rattle.board_sim.specs.declared.peer.Unanswered.{Unanswered}

pub record Seat : Type 0 where
  pub now : State ScriptLinks
  pub refused : Option Unanswered
  pub bytes : ℕ
  pub steps : ℕ

abbrev pub wanted_of : Option Unanswered → Option BusEvent
wanted_of None = None
wanted_of (Some u) = Some u.event

-- As the schedule sees it, and as the run of the firmware does.
abbrev pub seen : Seat → Board
seen s = board_of s.now (wanted_of s.refused) s.bytes s.steps

abbrev pub told_of : Seat → Told
told_of s = record { asked = asked_of s.now.log.past; answers = answers_of s.now.log.past; wanted = wanted_of s.refused }

-- No event was refused for want of memory, which is the one cause that is no function of what happened.
abbrev pub IsWellBy : Option Unanswered → Type 0
IsWellBy None = Unit {0}
IsWellBy (Some u) = u.end ≡ step_ends.NoMemory → ⊥

abbrev pub IsWell : Seat → Type 0
IsWell s = IsWellBy s.refused

-- Why an event got no answer.
abbrev pub CauseBy : StepEnd → State ScriptLinks → BusEvent → Type 0
CauseBy (step_ends.Stopped s) now c = (is_full now.log ≡ false) × (stop now.starts now.log.past c ≡ Some s)
CauseBy step_ends.TraceFull now c = is_full now.log ≡ true
CauseBy step_ends.NoMemory now c = Unit {0}

abbrev pub IsCause : Option Unanswered → State ScriptLinks → Type 0
IsCause None now = now.stopped ≡ None
IsCause (Some u) now = CauseBy u.end now u.event

-- The cause of a refusal is kept, and there are no more counted bytes than entries.
pub record IsSeat (s : Seat) : Type 0 where
  pub cause : IsCause s.refused s.now
  pub counted : s.bytes ≤ length s.now.log.past

-- What the microcontroller is given of an answer.
abbrev pub given : (c : BusEvent) → Result BusAnswer BusIsOver → AnswerTo c
given c (Ok x) = reads c x
given c (Err e) = over c

-- What link steps that ended so come to: they were made whole, or the history was full at one of them; where memory was missing there
-- is no more to say.
abbrev pub LeadsBy : {A : Type 0} → Result A StepEnd → Swept → Board → Type 0
LeadsBy (Ok done) swept b = swept ≡ whole b
LeadsBy (Err step_ends.TraceFull) swept b = swept ≡ cut_off b
LeadsBy (Err step_ends.NoMemory) swept b = Unit {0}
LeadsBy (Err (step_ends.Stopped stop)) swept b = ⊥

-- What closing comes to; where memory was missing there is no more to say.
abbrev pub ClosesTo : Closing → Board → Board → Type 0
ClosesTo closings.NoMemory board b = Unit {0}
ClosesTo answer board b = board ≡ b
