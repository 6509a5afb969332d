-- Link steps make no event of the bus.
use Rattle.std.proofs.Common.{◌≡◌, ℕ, ◌/◌, ◌∷◌, refl, ◌∙◌}
use Rattle.chip_sheet.specs.declared.event.Entry.{Entry}
use Rattle.chip_sheet.specs.declared.event.Entry.TheVariants.{Bus, Link, Rest}
use Rattle.chip_sheet.specs.declared.socket.Due.{Due}
use Rattle.chip_sheet.specs.declared.socket.Due.TheVariants as due
use Rattle.chip_sheet.specs.Past.{Past}
use Rattle.chip_sheet.specs.Windows.{flight}
use Rattle.chip_sheet.specs.LinkCalls.{due_at}
use Rattle.chip_sheet.specs.LinkAnswers.{LinkAnswer, Done, DoneFrom, DoneWith, DoneBytes, DoneDatagram, Refused, TimedOut, End, Failed, entry_by}
use Rattle.board_sim.specs.Boards.{Board}
use Rattle.board_sim.specs.Sweeps.{linked, answered, rested}
use Rattle.board_sim.specs.Closes.{closed}
use Rattle.board_sim.specs.Exchanges.{asked_of, answers_of}
use Rattle.board_sim.proofs.BoardKept.{IsKept, rest_keeps, closing_keeps}

-- What the firmware knows of a board stays.
pub record Same (a b : Board) : Type 0 where
  pub asked : asked_of b.past ≡ asked_of a.past
  pub answers : answers_of b.past ≡ answers_of a.past
  pub wanted : b.wanted ≡ a.wanted
  pub starts : b.starts ≡ a.starts
  pub events : b.events ≡ a.events

-- No event of the bus.
abbrev pub IsQuiet : Entry → Type 0
IsQuiet (Bus e a) = ⊥
IsQuiet (Link n what) = Unit {0}
IsQuiet Rest = Unit {0}

pub quiet_by : (n flight : ℕ) (call : Due) (answer : LinkAnswer) → IsQuiet (entry_by n flight call answer)
quiet_by n flight (due.Connect c to) Done = tt
quiet_by n flight (due.Accept c port) (DoneFrom from) = tt
quiet_by n flight (due.Write c) (DoneWith count) = tt
quiet_by n flight (due.SendTo c port to) Done = tt
quiet_by n flight (due.Shut c) Done = tt
quiet_by n flight (due.Read c) (DoneBytes bytes) = tt
quiet_by n flight (due.ReadAway c) (DoneBytes bytes) = tt
quiet_by n flight (due.RecvFrom c port) (DoneDatagram from body) = tt
quiet_by n flight (due.Drop c) Done = tt
quiet_by n flight due.Nothing answer = tt
quiet_by n flight call Refused = tt
quiet_by n flight call TimedOut = tt
quiet_by n flight call End = tt
quiet_by n flight call Failed = tt
quiet_by n flight call answer = tt

pub asked_quiet : (entry : Entry) (past : Past) → IsQuiet entry → asked_of (entry ∷ past) ≡ asked_of past
asked_quiet (Bus e a) past it = absurd it
asked_quiet (Link n what) past it = refl
asked_quiet Rest past it = refl

pub answers_quiet : (entry : Entry) (past : Past) → IsQuiet entry → answers_of (entry ∷ past) ≡ answers_of past
answers_quiet (Bus e a) past it = absurd it
answers_quiet (Link n what) past it = refl
answers_quiet Rest past it = refl

link_same : (b : Board) (place : ℕ) → Same b (linked b place)
unfolding linked
link_same b place =
    let entry = entry_by (place / 2) (flight b.starts b.past (place / 2)) (due_at b.starts b.past place) (answered b place) in
    let quiet = quiet_by (place / 2) (flight b.starts b.past (place / 2)) (due_at b.starts b.past place) (answered b place) in
    record { asked = asked_quiet entry b.past quiet; answers = answers_quiet entry b.past quiet; wanted = refl; starts = refl; events = refl }

kept : IsKept Same
kept = record {
  same = λ b. record { asked = refl; answers = refl; wanted = refl; starts = refl; events = refl };
  still = λ a b c one two. record {
    asked = two.asked ∙ one.asked;
    answers = two.answers ∙ one.answers;
    wanted = two.wanted ∙ one.wanted;
    starts = two.starts ∙ one.starts;
    events = two.events ∙ one.events;
  };
  idle = λ b. record { asked = refl; answers = refl; wanted = refl; starts = refl; events = refl };
  link = link_same;
  count = λ b. record { asked = refl; answers = refl; wanted = refl; starts = refl; events = refl };
}

pub rest_same : (b : Board) → Same b (rested b).board
rest_same b = rest_keeps Same kept b

pub closing_same : (b : Board) → Same b (closed b)
closing_same b = closing_keeps Same kept b
