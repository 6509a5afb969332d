-- What an event of the bus makes of the board, as the schedule and the run of the firmware see it.
use Rattle.std.proofs.Common.{◌≡◌, ◌⊎◌, ℕ, ◌+◌, true, false, ◌∷◌, is_some, Option, None, Some, inl, inr, refl, sym, ap, ◌∙◌, subst}
use Rattle.std.proofs.lemmas.Bool.{false≢true}
use Rattle.board_bus.specs.declared.event.BusAnswer.{BusAnswer}
use Rattle.board_bus.specs.declared.event.BusEvent.{BusEvent}
use Rattle.chip_sheet.specs.declared.event.Entry.TheVariants.{Bus}
use Rattle.chip_sheet.specs.declared.stop.ChipStop.{ChipStop}
use Rattle.chip_sheet.specs.Answers.{answer}
use Rattle.chip_sheet.specs.Stops.{stop}
use Rattle.link_script.specs.Links.{played_of}
use Rattle.link_script.specs.declared.script_links.ScriptLinks.{ScriptLinks}
use Rattle.chip_shared.specs.Asking.{Answered, Refused, StopsAt}
use Rattle.chip_shared.specs.State.{State, Keeps}
use Rattle.chip_shared.specs.declared.shared.StepEnd.{StepEnd}
use Rattle.chip_shared.specs.declared.shared.StepEnd.TheVariants as end
use Rattle.avr_space.specs.Peer.{AnswerTo}
use Rattle.avr_mcu.specs.Answers.{reads, over}
use Rattle.avr_run.specs.Steps.{Functional}
use Rattle.board_sim.specs.Boards.{Board, answers, counted, is_full_at, is_refused, next}
use Rattle.board_sim.specs.Seats.{Seat, IsCause, IsWell, seen}
use Rattle.board_sim.specs.Views.{board_of}
use Rattle.board_sim.specs.declared.peer.Unanswered.{Unanswered}
use Rattle.board_sim.proofs.LinkSteps.{same_board}

-- What a board answers, by whether it answers.
refused_full : (b : Board) (c : BusEvent) → b.wanted ≡ None → is_full_at b.events b.past ≡ true → is_refused b c ≡ true
refused_full b c none full = rw (none, full) refl

refused_stop : (b : Board) (c : BusEvent) (s : ChipStop) → b.wanted ≡ None → is_full_at b.events b.past ≡ false → stop b.starts b.past c ≡ Some s → is_refused b c ≡ true
refused_stop b c s none room is = rw (none, room, is) refl

unrefused : (b : Board) (c : BusEvent) → b.wanted ≡ None → is_full_at b.events b.past ≡ false → stop b.starts b.past c ≡ None → is_refused b c ≡ false
unrefused b c none room allowed = rw (none, room, allowed) refl

over_answers : (b : Board) (c : BusEvent) → is_refused b c ≡ true → over c ≡ answers b c
unfolding answers
over_answers b c is = rw is refl

reads_answers : (b : Board) (c : BusEvent) → is_refused b c ≡ false → reads c (answer b.starts b.past c) ≡ answers b c
unfolding answers
reads_answers b c is = rw is refl

refused_next : (b : Board) (c : BusEvent) → b.wanted ≡ None → is_refused b c ≡ true → next b c ≡ record b { wanted = Some c }
unfolding next
refused_next b c none is = rw (is, none) refl

kept_next : (b : Board) (c first : BusEvent) → b.wanted ≡ Some first → next b c ≡ b
unfolding next
kept_next b c first some = rw some refl

answered_next : (b : Board) (c : BusEvent) → is_refused b c ≡ false → next b c ≡ record b { past = Bus c (answer b.starts b.past c) ∷ b.past; bytes = b.bytes + counted c }
unfolding next
answered_next b c is = rw is refl

-- Seats by their parts.
abbrev pub seat : State ScriptLinks → Option Unanswered → ℕ → ℕ → Seat
seat now refused bytes steps = record { now = now; refused = refused; bytes = bytes; steps = steps }

-- What an event makes of a seat, where the seat after it is well.
abbrev Does : Seat → (c : BusEvent) → AnswerTo c → Seat → Type 0
Does s c a t = IsWell t → Functional seen IsWell answers next s c a t

-- Behind an event that got no answer none gets one.
kept_at : (now : State ScriptLinks) (u : Unanswered) (bytes steps : ℕ) (c : BusEvent) → Does (seat now (Some u) bytes steps) c (over c) (seat now (Some u) bytes steps)
kept_at now u bytes steps c well =
    let b = board_of now (Some u.event) bytes steps in record {
      well = well;
      answers_is = over_answers b c refl;
      next_is = sym (kept_next b c u.event refl);
    }

pub kept_is : (now : State ScriptLinks) (refused : Option Unanswered) (bytes steps : ℕ) (c : BusEvent) (s : Seat) → seat now refused bytes steps ≡ s → is_some refused ≡ true → Does s c (over c) s
kept_is now None bytes steps c s view some = absurd (false≢true some)
kept_is now (Some u) bytes steps c s view some = subst (λ (t : Seat). Does t c (over c) t) view (kept_at now u bytes steps c)

-- An event that was answered.
answered_at : (old new : State ScriptLinks) (bytes one steps : ℕ) (c : BusEvent) (a : BusAnswer) → Answered old c a new → one ≡ counted c
    → Does (seat old None bytes steps) c (reads c a) (seat new None (bytes + one) steps)
answered_at old new bytes one steps c a it count well =
    let b = board_of old None bytes steps in
    let no = unrefused b c refl it.before.room it.allowed in record {
      well = tt;
      answers_is = ap (reads c) it.is ∙ reads_answers b c no;
      next_is = ap (λ (n : ℕ). board_of new None (bytes + n) steps) count
          ∙ same_board None (bytes + counted c) steps new.starts old.starts new.log.limit old.log.limit
          new.log.past (Bus c (answer old.starts old.log.past c) ∷ old.log.past) (played_of new.links) (played_of old.links)
          it.starts it.limit (it.past ∙ ap (λ (x : BusAnswer). Bus c x ∷ old.log.past) it.is) (ap played_of it.links)
          ∙ sym (answered_next b c no);
    }

pub answered_is : (old new : State ScriptLinks) (refused : Option Unanswered) (bytes one steps : ℕ) (c : BusEvent) (a : BusAnswer) (s : Seat) → seat old refused bytes steps ≡ s → is_some refused ≡ false
    → Answered old c a new → one ≡ counted c → Does s c (reads c a) (seat new refused (bytes + one) steps)
answered_is old new None bytes one steps c a s view none it count =
    subst (λ (t : Seat). Does t c (reads c a) (seat new None (bytes + one) steps)) view (answered_at old new bytes one steps c a it count)
answered_is old new (Some u) bytes one steps c a s view none it count = absurd (false≢true (sym none))

-- Why an event was refused.
abbrev Why : State ScriptLinks → BusEvent → StepEnd → State ScriptLinks → Type 0
Why old c end_ new = Keeps old new × ((Refused old (λ events bytes. events ≡ 0) end_ × (new.stopped ≡ old.stopped)) ⊎ StopsAt old c end_ new)

unstopped_never : (s : ChipStop) (stopped : Option ChipStop) → stopped ≡ None → stopped ≡ Some s → ⊥
unstopped_never s stopped none some = let h = sym none ∙ some in cc

refused_by : (old new : State ScriptLinks) (bytes steps : ℕ) (c : BusEvent) (end_ : StepEnd) → old.stopped ≡ None → Why old c end_ new → (end_ ≡ end.NoMemory → ⊥)
    → is_refused (board_of old None bytes steps) c ≡ true
refused_by old new bytes steps c (end.Stopped s) none (keeps, inl (was, same)) well = absurd (unstopped_never s old.stopped none was)
refused_by old new bytes steps c (end.Stopped s) none (keeps, inr (before, (is, stays))) well = refused_stop (board_of old None bytes steps) c s refl before.room is
refused_by old new bytes steps c end.TraceFull none (keeps, inl (was, same)) well = refused_full (board_of old None bytes steps) c refl was.1
refused_by old new bytes steps c end.TraceFull none (keeps, inr never) well = absurd never
refused_by old new bytes steps c end.NoMemory none why well = absurd (well refl)

-- An event that was refused.
abbrev first_refused : BusEvent → StepEnd → Option Unanswered
first_refused c end_ = Some (record { event = c; «end» = end_ })

refused_at : (old new : State ScriptLinks) (bytes steps : ℕ) (c : BusEvent) (end_ : StepEnd) → old.stopped ≡ None → Why old c end_ new
    → Does (seat old None bytes steps) c (over c) (seat new (first_refused c end_) bytes steps)
refused_at old new bytes steps c end_ unstopped why well =
    let b = board_of old None bytes steps in
    let yes = refused_by old new bytes steps c end_ unstopped why well in
    let it = why.0 in record {
      well = tt;
      answers_is = over_answers b c yes;
      next_is = same_board (Some c) bytes steps new.starts old.starts new.log.limit old.log.limit new.log.past old.log.past (played_of new.links) (played_of old.links)
          it.starts it.limit it.past (ap played_of it.links)
          ∙ sym (refused_next b c refl yes);
    }

pub refused_is : (old new : State ScriptLinks) (refused : Option Unanswered) (bytes steps : ℕ) (c : BusEvent) (end_ : StepEnd) (s : Seat) → seat old refused bytes steps ≡ s → is_some refused ≡ false
    → IsCause refused old → Why old c end_ new → Does s c (over c) (seat new (first_refused c end_) bytes steps)
refused_is old new None bytes steps c end_ s view none unstopped why =
    subst (λ (t : Seat). Does t c (over c) (seat new (first_refused c end_) bytes steps)) view (refused_at old new bytes steps c end_ unstopped why)
refused_is old new (Some u) bytes steps c end_ s view none unstopped why = absurd (false≢true (sym none))
