-- A run only adds to its history.
use Rattle.std.proofs.Common.{◌≡◌, ℕ, zero, suc, ◌/◌, [], ◌∷◌, ◌++◌, Option, None, Some, refl, sym, ap, ◌∙◌, subst, append_assoc}
use Rattle.board_bus.specs.declared.event.BusEvent.{BusEvent}
use Rattle.chip_sheet.specs.declared.event.Entry.{Entry}
use Rattle.chip_sheet.specs.declared.event.Entry.TheVariants.{Bus, Rest}
use Rattle.chip_sheet.specs.Past.{Past}
use Rattle.chip_sheet.specs.Answers.{answer}
use Rattle.chip_sheet.specs.Windows.{flight}
use Rattle.chip_sheet.specs.LinkCalls.{due_at}
use Rattle.chip_sheet.specs.LinkAnswers.{entry_by}
use Rattle.avr_core.specs.Ask.{Give, Call}
use Rattle.avr_space.specs.Peer.{OfBus}
use Rattle.avr_mcu.specs.State.{McuState, taken}
use Rattle.avr_mcu.specs.Step.{stepped}
use Rattle.avr_mcu.specs.declared.run.RunEnd as firmware
use Rattle.avr_mcu.specs.declared.run.RunEnd.TheVariants as firmwares
use Rattle.avr_run.specs.Steps.{played}
use Rattle.board_sim.specs.Boards.{Board, answers, next, is_refused}
use Rattle.board_sim.specs.Sweeps.{Swept, linked, answered, rested}
use Rattle.board_sim.specs.Schedule.{Outcome, turn, turns, finished, over_at}
use Rattle.board_sim.specs.declared.end.RunEnd.TheVariants as ends
use Rattle.board_sim_laws.specs.Grows.{Adds, TurnAdds, SweepAdds, ClosingAdds, RunAdds}
use Rattle.board_sim.proofs.Turns.{rest_by, turn_by, first_turn}
use Rattle.board_sim.proofs.BoardKept.{IsKept, chosen, rest_keeps, closing_keeps}

-- Boards by what they add.
abbrev Later : Board → Board → Type 0
Later a b = Adds a.past b.past

adds_none : (past : Past) → Adds past past
adds_none past = ([], refl)

adds_one : (entry : Entry) (past : Past) → Adds past (entry ∷ past)
adds_one entry past = (entry ∷ [], refl)

pub adds_still : (a b c : Past) → Adds a b → Adds b c → Adds a c
adds_still a b c one two = (two.0 ++ one.0, two.1 ∙ ap (λ (p : Past). two.0 ++ p) one.1 ∙ sym (append_assoc two.0 one.0 a))

link_adds : (b : Board) (place : ℕ) → Adds b.past (linked b place).past
unfolding linked
link_adds b place = adds_one (entry_by (place / 2) (flight b.starts b.past (place / 2)) (due_at b.starts b.past place) (answered b place)) b.past

kept : IsKept Later
kept = record {
  same = λ b. adds_none b.past;
  still = λ a b c one two. adds_still a.past b.past c.past one two;
  idle = λ b. adds_one Rest b.past;
  link = link_adds;
  count = λ b. adds_none b.past;
}

pub sweep_adds : SweepAdds
sweep_adds b = rest_keeps Later kept b

pub closing_adds : ClosingAdds
closing_adds b = closing_keeps Later kept b

-- The events of a step.
next_adds : (b : Board) (c : BusEvent) → Later b (next b c)
unfolding next
next_adds b c = chosen (Later b) (is_refused b c) _ _ (adds_none b.past) (adds_one (Bus c (answer b.starts b.past c)) b.past)

played_adds : {R : Type 0} (tree : OfBus R) (b : Board) → Later b (played answers next tree b).bus
played_adds (Give r) b = adds_none b.past
played_adds (Call c go) b =
    adds_still b.past (next b c).past (played answers next (go (answers b c)) (next b c)).bus.past (next_adds b c) (played_adds (go (answers b c)) (next b c))

pub turn_adds : TurnAdds
unfolding turn
turn_adds cycles s b = played_adds (stepped s) b

-- The end of a run.
finished_adds : (s : McuState) (b : Board) (end : firmware.RunEnd) → Adds b.past (finished s b end).past
unfolding finished
finished_adds s b firmwares.Break = closing_adds b
finished_adds s b firmwares.Sleep = closing_adds b
finished_adds s b firmwares.CycleLimit = closing_adds b
finished_adds s b (firmwares.Stop stop) = adds_none b.past
finished_adds s b (firmwares.Wants c) = adds_none b.past

rest_adds : (r : Swept) (more cycles : ℕ) (s : McuState) → Adds r.board.past (turns more cycles (taken s) r.board).past → Adds r.board.past (rest_by r more cycles s).past
rest_adds r more cycles s rest = chosen (λ (o : Outcome). Adds r.board.past o.past) r.cut (over_at s r.board ends.TraceFull) (turns more cycles (taken s) r.board) (adds_none r.board.past) rest

end_adds : (end : Option firmware.RunEnd) (more cycles : ℕ) (s : McuState) (b : Board) → Adds (rested b).board.past (turns more cycles (taken s) (rested b).board).past → Adds b.past (turn_by end more cycles s b).past
end_adds (Some end) more cycles s b rest = finished_adds s b end
end_adds None more cycles s b rest = adds_still b.past (rested b).board.past (rest_by (rested b) more cycles s).past (sweep_adds b) (rest_adds (rested b) more cycles s rest)

turns_none : (cycles : ℕ) (s : McuState) (b : Board) → turns zero cycles s b ≡ over_at s b ends.CycleLimit
unfolding turns
turns_none cycles s b = refl

pub run_adds : RunAdds
run_adds zero cycles s b = subst (λ (o : Outcome). Adds b.past o.past) (sym (turns_none cycles s b)) (adds_none b.past)
run_adds (suc more) cycles s b =
    let t = turn cycles s b in
    subst (λ (o : Outcome). Adds b.past o.past) (sym (first_turn more cycles s b))
    (adds_still b.past t.board.past (turn_by t.end more cycles t.state t.board).past (turn_adds cycles s b)
    (end_adds t.end more cycles t.state t.board (run_adds more cycles (taken t.state) (rested t.board).board)))

-- What is left of a run behind a step.
pub turn_left_adds : (end : Option firmware.RunEnd) (more cycles : ℕ) (s : McuState) (b : Board) → Adds b.past (turn_by end more cycles s b).past
turn_left_adds end more cycles s b = end_adds end more cycles s b (run_adds more cycles (taken s) (rested b).board)
