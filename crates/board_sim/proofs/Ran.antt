-- A run from reset up to its end is the schedule's.
use Rattle.std.proofs.Common.{◌≡◌, ◌⊎◌, inl, inr, ℕ, List, [], ◌++◌, Option, None, Some, refl, sym, ap, ◌∙◌, subst, append_assoc, append-nil}
use Rattle.wz_base.specs.Whole.{Appends, AppendsFront}
use Rattle.wz_base.proofs.Gathered.{appends_then, front_first}
use Rattle.avr_mcu.specs.Run.{byte_of}
use Rattle.avr_mcu.specs.State.{McuState, reset_state, printed}
use Rattle.avr_mcu.specs.declared.run.RunEnd as firmware
use Rattle.board_sim.specs.Boards.{Board}
use Rattle.board_sim.specs.Sweeps.{Swept, rested, cut_off}
use Rattle.board_sim.specs.Schedule.{Outcome, Standing, Turn, GoesTo, turn, sched, finished, over_at, behind}
use Rattle.board_sim.specs.Playing.{Printed, Prints, CutAt, WalkedTo}
use Rattle.board_sim.specs.Finishing.{Finishes, Leaves, RanTo, RanToByte, RanWhole}
use Rattle.board_sim.specs.declared.play.Cut.{Cut}
use Rattle.board_sim.specs.declared.play.Cut.TheVariants as cuts
use Rattle.board_sim.specs.declared.end.RunEnd.{RunEnd}
use Rattle.board_sim.specs.declared.end.RunEnd.TheVariants as ends
use Rattle.board_sim.proofs.Turns.{turn_by, rest_by, first_turn}
use Rattle.board_sim.proofs.Way.{way_left}
use Rattle.board_sim.proofs.Printing.{prints_more}
use Rattle.board_sim.proofs.Ending.{finished_serial, finished_cycles, finished_trail, finished_fault, finishes_step, finishes_full, finishes_fault, finishes_none, fault_memory}

-- What the run comes to from a standing on, by its next step.
record ComesTo (cycles : ℕ) (o : Outcome) (front : List ℕ) (t : Turn) : Type 0 where
  pub rest : ℕ
  pub is : o ≡ behind front (behind (byte_of (printed t.state)) (turn_by t.end rest cycles t.state t.board))

comes_to : (steps cycles : ℕ) (image : List ℕ) (b : Board) (z : Standing) → GoesTo steps cycles (record { state = reset_state image; board = b; serial = [] }) z
    → ComesTo cycles (sched cycles image b) z.serial (turn cycles z.state z.board)
comes_to steps cycles image b z goes =
    let left = way_left steps cycles image b z goes in
    record { rest = left.rest; is = left.is ∙ ap (behind z.serial) (first_turn left.rest cycles z.state z.board) }

ended_is : (cycles : ℕ) (o : Outcome) (front : List ℕ) (t : Turn) (e : firmware.RunEnd) → ComesTo cycles o front t → t.end ≡ Some e
    → o ≡ behind front (behind (byte_of (printed t.state)) (finished t.state t.board e))
ended_is cycles o front t e it is =
    it.is ∙ ap (λ (end : Option firmware.RunEnd). behind front (behind (byte_of (printed t.state)) (turn_by end it.rest cycles t.state t.board))) is

full_by : (r : Swept) (rest cycles : ℕ) (s : McuState) (left : Board) → r ≡ cut_off left → rest_by r rest cycles s ≡ over_at s left ends.TraceFull
full_by r rest cycles s left is = ap (λ (x : Swept). rest_by x rest cycles s) is

full_is : (cycles : ℕ) (o : Outcome) (front : List ℕ) (t : Turn) (left : Board) → ComesTo cycles o front t → t.end ≡ None → rested t.board ≡ cut_off left
    → o ≡ behind front (behind (byte_of (printed t.state)) (over_at t.state left ends.TraceFull))
full_is cycles o front t left it is full =
    it.is ∙ ap (λ (end : Option firmware.RunEnd). behind front (behind (byte_of (printed t.state)) (turn_by end it.rest cycles t.state t.board))) is
    ∙ ap (λ (x : Outcome). behind front (behind (byte_of (printed t.state)) x)) (full_by (rested t.board) it.rest cycles t.state left full)

-- A whole run.
whole_run : (o x : Outcome) (front piece : List ℕ) (end : RunEnd) (s : McuState) (left : Board) (old mid new : Printed) → o ≡ behind front (behind piece x) → Leaves x end left
    → s.devices.cycles ≡ x.cycles → s.trail ≡ x.trail → x.serial ≡ [] → Prints old front mid → Prints mid piece new → RanWhole o end s left old new
whole_run o x front piece end s left old mid new is leaves cycles trail none first second =
    let bytes : front ++ piece ≡ front ++ (piece ++ x.serial) = ap (λ (p : List ℕ). front ++ p) (sym (append-nil piece) ∙ ap (λ (e : List ℕ). piece ++ e) (sym none)) in
    let here : RanWhole (behind front (behind piece x)) end s left old new = record {
      leaves = record { end_is = leaves.end_is; past_is = leaves.past_is; links_are = leaves.links_are };
      cycles_are = cycles;
      trail_is = trail;
      prints = subst (λ (b : List ℕ). Prints old b new) bytes (prints_more old mid new front piece first second);
    } in
    subst (λ (y : Outcome). RanWhole y end s left old new) (sym is) here

-- What was printed begins what the whole run prints.
front_none : (o x : Outcome) (front piece : List ℕ) (old mid new : Printed) → o ≡ behind front (behind piece x) → Prints old front mid → Prints mid [] new
    → AppendsFront old.written o.serial new.written
front_none o x front piece old mid new is first second =
    let all : Appends old.written (front ++ []) new.written = appends_then old.written mid.written new.written front [] first.wrote second.wrote in
    subst (λ (y : Outcome). AppendsFront old.written y.serial new.written) (sym is)
    (front_first old.written new.written front (piece ++ x.serial) (subst (λ (b : List ℕ). Appends old.written b new.written) (append-nil front) all))

front_piece : (o x : Outcome) (front piece : List ℕ) (old mid new : Printed) → o ≡ behind front (behind piece x) → Prints old front mid → Prints mid piece new
    → AppendsFront old.written o.serial new.written
front_piece o x front piece old mid new is first second =
    let all : Appends old.written (front ++ piece) new.written = appends_then old.written mid.written new.written front piece first.wrote second.wrote in
    subst (λ (y : Outcome). AppendsFront old.written y.serial new.written) (sym is)
    (subst (λ (b : List ℕ). AppendsFront old.written b new.written) (append_assoc front piece x.serial) (front_first old.written new.written (front ++ piece) x.serial all))

front_either : (o x : Outcome) (front piece : List ℕ) (old mid new : Printed) → o ≡ behind front (behind piece x) → Prints old front mid → Prints mid [] new ⊎ Prints mid piece new
    → AppendsFront old.written o.serial new.written
front_either o x front piece old mid new is first (inl none) = front_none o x front piece old mid new is first none
front_either o x front piece old mid new is first (inr second) = front_piece o x front piece old mid new is first second

-- By the end.
to_ran : (end : RunEnd) (cycles : ℕ) (image : List ℕ) (b : Board) (s : McuState) (left : Board) (old new : Printed)
    → (end ≡ ends.WriteFault → RanToByte cycles image b left old.written new.written)
    → (end ≡ ends.NoMemory → AppendsFront old.written (sched cycles image b).serial new.written)
    → ((end ≡ ends.WriteFault → ⊥) → (end ≡ ends.NoMemory → ⊥) → RanWhole (sched cycles image b) end s left old new)
    → RanTo end cycles image b s left old new
to_ran ends.WriteFault cycles image b s left old new fault memory other = fault refl
to_ran ends.NoMemory cycles image b s left old new fault memory other = memory refl
to_ran end cycles image b s left old new fault memory other = other (λ e. cc) (λ e. cc)

-- By what cut it, where the step at which it was cut begins at `z`.
abbrev Cuts : Cut → RunEnd → ℕ → Standing → McuState → Board → Board → Printed → Printed → Type 0
Cuts cut end cycles z now b left mid new = CutAt cut cycles z.state z.board now b mid new × ((s : McuState) → Finishes end cut s b left)

record Stood (cycles : ℕ) (image : List ℕ) (b : Board) (old : Printed) (z : Standing) (mid : Printed) : Type 0 where
  pub steps : ℕ
  pub goes : GoesTo steps cycles (record { state = reset_state image; board = b; serial = [] }) z
  pub prints : Prints old z.serial mid

ran_step : (e : firmware.RunEnd) (end : RunEnd) (cycles : ℕ) (image : List ℕ) (b : Board) (z : Standing) (now : McuState) (b' left : Board) (old mid new : Printed)
    → Stood cycles image b old z mid → Cuts (cuts.Step e) end cycles z now b' left mid new → RanTo end cycles image b now left old new
ran_step e end cycles image b z now b' left old mid new stood (cut, finishes) =
    let t : Turn = turn cycles z.state z.board in
    let o : Outcome = sched cycles image b in
    let x : Outcome = finished t.state t.board e in
    let is = ended_is cycles o z.serial t e (comes_to stood.steps cycles image b z stood.goes) cut.0 in
    let leaves : (end ≡ ends.NoMemory → ⊥) → Leaves x end left = λ other.
    subst (λ (y : Board). Leaves (finished t.state y e) end left) cut.1.0 (finishes_step end e t.state b' left other (finishes t.state)) in
    to_ran end cycles image b now left old new
    (λ fault. absurd (finished_fault t.state t.board e (sym (leaves (fault_memory end fault)).end_is ∙ fault)))
    (λ memory. front_piece o x z.serial (byte_of (printed t.state)) old mid new is stood.prints cut.1.1.1)
    (λ fault other. whole_run o x z.serial (byte_of (printed t.state)) end now left old mid new is (leaves other)
    (ap (λ (n : McuState). n.devices.cycles) cut.1.1.0 ∙ finished_cycles t.state t.board e) (ap (λ (n : McuState). n.trail) cut.1.1.0 ∙ finished_trail t.state t.board e)
    (finished_serial t.state t.board e) stood.prints cut.1.1.1)

ran_full : (end : RunEnd) (cycles : ℕ) (image : List ℕ) (b : Board) (z : Standing) (now : McuState) (b' left : Board) (old mid new : Printed)
    → Stood cycles image b old z mid → Cuts cuts.TraceFull end cycles z now b' left mid new → RanTo end cycles image b now left old new
ran_full end cycles image b z now b' left old mid new stood (cut, finishes) =
    let t : Turn = turn cycles z.state z.board in
    let o : Outcome = sched cycles image b in
    let x : Outcome = over_at t.state b' ends.TraceFull in
    let is = full_is cycles o z.serial t b' (comes_to stood.steps cycles image b z stood.goes) cut.0 cut.1.0 in
    let ended : (end ≡ ends.NoMemory → ⊥) → (end ≡ ends.TraceFull) × (left ≡ b') = λ other. finishes_full end now b' left other (finishes now) in
    to_ran end cycles image b now left old new
    (λ fault. absurd (let h = sym (ended (fault_memory end fault)).0 ∙ fault in cc))
    (λ memory. front_piece o x z.serial (byte_of (printed t.state)) old mid new is stood.prints cut.1.1.1)
    (λ fault other. whole_run o x z.serial (byte_of (printed t.state)) end now left old mid new is
    (record { end_is = (ended other).0; past_is = ap (λ (y : Board). y.past) (ended other).1; links_are = ap (λ (y : Board). y.links) (ended other).1 })
    (ap (λ (n : McuState). n.devices.cycles) cut.1.1.0) (ap (λ (n : McuState). n.trail) cut.1.1.0) refl stood.prints cut.1.1.1)

ran_fault : (end : RunEnd) (cycles : ℕ) (image : List ℕ) (b : Board) (z : Standing) (now : McuState) (b' left : Board) (old mid new : Printed)
    → Stood cycles image b old z mid → Cuts cuts.WriteFault end cycles z now b' left mid new → RanTo end cycles image b now left old new
ran_fault end cycles image b z now b' left old mid new stood (cut, finishes) =
    let t : Turn = turn cycles z.state z.board in
    let o : Outcome = sched cycles image b in
    let comes = comes_to stood.steps cycles image b z stood.goes in
    let ended : (end ≡ ends.WriteFault) × (left ≡ b') = finishes_fault end now b' left (finishes now) in
    let wrote : Appends old.written (z.serial ++ []) new.written = appends_then old.written mid.written new.written z.serial [] stood.prints.wrote cut.1.1.1.wrote in
    to_ran end cycles image b now left old new
    (λ fault. record {
      on = record { steps = stood.steps; at = z; goes = stood.goes; wrote = subst (λ (p : List ℕ). Appends old.written p new.written) (append-nil z.serial) wrote };
      byte = cut.0;
      prints = cut.1.0;
      stays = ended.1 ∙ cut.1.1.0;
    })
    (λ memory. front_none o (turn_by t.end comes.rest cycles t.state t.board) z.serial (byte_of (printed t.state)) old mid new comes.is stood.prints cut.1.1.1)
    (λ fault other. absurd (fault ended.0))

ran_none : (end : RunEnd) (cycles : ℕ) (image : List ℕ) (b : Board) (z : Standing) (now : McuState) (b' left : Board) (old mid new : Printed)
    → Stood cycles image b old z mid → Cuts cuts.NoMemory end cycles z now b' left mid new → RanTo end cycles image b now left old new
ran_none end cycles image b z now b' left old mid new stood (cut, finishes) =
    let t : Turn = turn cycles z.state z.board in
    let o : Outcome = sched cycles image b in
    let comes = comes_to stood.steps cycles image b z stood.goes in
    let never : (end ≡ ends.NoMemory → ⊥) → ⊥ = λ other. finishes_none end now b' left other (finishes now) in
    to_ran end cycles image b now left old new
    (λ fault. absurd (never (fault_memory end fault)))
    (λ memory. front_either o (turn_by t.end comes.rest cycles t.state t.board) z.serial (byte_of (printed t.state)) old mid new comes.is stood.prints cut)
    (λ fault other. absurd (never other))

ran_by : (cut : Cut) (end : RunEnd) (cycles : ℕ) (image : List ℕ) (b : Board) (z : Standing) (now : McuState) (b' left : Board) (old mid new : Printed)
    → Stood cycles image b old z mid → Cuts cut end cycles z now b' left mid new → RanTo end cycles image b now left old new
ran_by (cuts.Step e) end cycles image b z now b' left old mid new stood it = ran_step e end cycles image b z now b' left old mid new stood it
ran_by cuts.TraceFull end cycles image b z now b' left old mid new stood it = ran_full end cycles image b z now b' left old mid new stood it
ran_by cuts.WriteFault end cycles image b z now b' left old mid new stood it = ran_fault end cycles image b z now b' left old mid new stood it
ran_by cuts.NoMemory end cycles image b z now b' left old mid new stood it = ran_none end cycles image b z now b' left old mid new stood it

pub ran_to : (cut : Cut) (end : RunEnd) (cycles : ℕ) (image : List ℕ) (s : McuState) (b : Board) (now : McuState) (b' left : Board) (old new : Printed)
    → s ≡ reset_state image → WalkedTo cut cycles s b now b' old new → ((s : McuState) → Finishes end cut s b' left) → RanTo end cycles image b now left old new
ran_to cut end cycles image s b now b' left old new is walked finishes =
    let stood : Stood cycles image b old walked.at walked.mid = record {
      steps = walked.steps;
      goes = subst (λ (x : McuState). GoesTo walked.steps cycles (record { state = x; board = b; serial = [] }) walked.at) is walked.goes;
      prints = walked.prints;
    } in
    ran_by cut end cycles image b walked.at now b' left old walked.mid new stood (walked.cuts, finishes)
