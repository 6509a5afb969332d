-- The ends of a run, and what its last step comes to.
use Rattle.std.proofs.Common.{◌≡◌, Bool, true, false, if◌then◌else◌, [], Option, None, Some, refl, sym, ap, ◌∙◌, subst}
use Rattle.board_bus.specs.declared.event.BusEvent.{BusEvent}
use Rattle.chip_sheet.specs.declared.stop.ChipStop.{ChipStop}
use Rattle.chip_sheet.specs.Stops.{stop}
use Rattle.avr_mcu.specs.State.{McuState}
use Rattle.avr_mcu.specs.declared.run.RunEnd as firmware
use Rattle.avr_mcu.specs.declared.run.RunEnd.TheVariants as firmwares
use Rattle.avr_sheet.specs.declared.stop.AvrStop.{AvrStop}
use Rattle.avr_run.specs.Told.{EndWants}
use Rattle.chip_shared.specs.declared.shared.StepEnd.{StepEnd}
use Rattle.chip_shared.specs.declared.shared.StepEnd.TheVariants as step_ends
use Rattle.board_sim.specs.Boards.{Board, is_full_at}
use Rattle.board_sim.specs.Closes.{closed}
use Rattle.board_sim.specs.Schedule.{Outcome, finished, over_at, unanswered, stopped_by}
use Rattle.board_sim.specs.Finishing.{Finishes, Leaves}
use Rattle.board_sim.specs.Seats.{Seat, seen, wanted_of, IsCause}
use Rattle.board_sim.specs.declared.peer.Unanswered.{Unanswered}
use Rattle.board_sim.specs.declared.play.Cut.{Cut}
use Rattle.board_sim.specs.declared.play.Cut.TheVariants as cuts
use Rattle.board_sim.specs.declared.end.RunEnd.{RunEnd}
use Rattle.board_sim.specs.declared.end.RunEnd.TheVariants as ends

-- A fact, by whether the run ended by a failed write, for want of memory, or otherwise.
pub by_kind : (P : Type 0) (end : RunEnd) → (end ≡ ends.WriteFault → P) → (end ≡ ends.NoMemory → P) → ((end ≡ ends.WriteFault → ⊥) → (end ≡ ends.NoMemory → ⊥) → P) → P
by_kind P ends.WriteFault fault memory other = fault refl
by_kind P ends.NoMemory fault memory other = memory refl
by_kind P end fault memory other = other (λ e. cc) (λ e. cc)

-- What a last step leaves has no more bytes, and the part's cycles and addresses.
pub finished_serial : (s : McuState) (b : Board) (e : firmware.RunEnd) → (finished s b e).serial ≡ []
unfolding finished
finished_serial s b firmwares.Break = refl
finished_serial s b firmwares.Sleep = refl
finished_serial s b firmwares.CycleLimit = refl
finished_serial s b (firmwares.Stop stop) = refl
finished_serial s b (firmwares.Wants c) = refl

pub finished_cycles : (s : McuState) (b : Board) (e : firmware.RunEnd) → s.devices.cycles ≡ (finished s b e).cycles
unfolding finished
finished_cycles s b firmwares.Break = refl
finished_cycles s b firmwares.Sleep = refl
finished_cycles s b firmwares.CycleLimit = refl
finished_cycles s b (firmwares.Stop stop) = refl
finished_cycles s b (firmwares.Wants c) = refl

pub finished_trail : (s : McuState) (b : Board) (e : firmware.RunEnd) → s.trail ≡ (finished s b e).trail
unfolding finished
finished_trail s b firmwares.Break = refl
finished_trail s b firmwares.Sleep = refl
finished_trail s b firmwares.CycleLimit = refl
finished_trail s b (firmwares.Stop stop) = refl
finished_trail s b (firmwares.Wants c) = refl

-- It does not end by a failed write.
stopped_fault : (at : Option ChipStop) → stopped_by at ≡ ends.WriteFault → ⊥
stopped_fault None is = cc
stopped_fault (Some s) is = cc

unanswered_fault : (full : Bool) (at : Option ChipStop) → (if full then ends.TraceFull else stopped_by at) ≡ ends.WriteFault → ⊥
unanswered_fault true at is = cc
unanswered_fault false at is = stopped_fault at is

pub finished_fault : (s : McuState) (b : Board) (e : firmware.RunEnd) → (finished s b e).end ≡ ends.WriteFault → ⊥
unfolding finished
finished_fault s b firmwares.Break is = cc
finished_fault s b firmwares.Sleep is = cc
finished_fault s b firmwares.CycleLimit is = cc
finished_fault s b (firmwares.Stop stop) is = cc
finished_fault s b (firmwares.Wants c) is = unanswered_fault (is_full_at b.events b.past) (stop b.starts b.past c) is

-- What is made of a cut run, where memory did not run out.
pub finishes_step : (end : RunEnd) (e : firmware.RunEnd) (s : McuState) (b left : Board) → (end ≡ ends.NoMemory → ⊥) → Finishes end (cuts.Step e) s b left → Leaves (finished s b e) end left
finishes_step ends.NoMemory e s b left other it = absurd (other refl)
finishes_step end e s b left other it = it

pub finishes_full : (end : RunEnd) (s : McuState) (b left : Board) → (end ≡ ends.NoMemory → ⊥) → Finishes end cuts.TraceFull s b left → (end ≡ ends.TraceFull) × (left ≡ b)
finishes_full ends.NoMemory s b left other it = absurd (other refl)
finishes_full end s b left other it = it

pub finishes_fault : (end : RunEnd) (s : McuState) (b left : Board) → Finishes end cuts.WriteFault s b left → (end ≡ ends.WriteFault) × (left ≡ b)
finishes_fault ends.NoMemory s b left it = absurd it
finishes_fault end s b left it = it

pub finishes_none : (end : RunEnd) (s : McuState) (b left : Board) → (end ≡ ends.NoMemory → ⊥) → Finishes end cuts.NoMemory s b left → ⊥
finishes_none ends.NoMemory s b left other it = other refl
finishes_none end s b left other it = it

-- A run ends by a failed write exactly where that cut it.
pub fault_cut : (cut : Cut) (end : RunEnd) (s : McuState) (b left : Board) → Finishes end cut s b left → cut ≡ cuts.WriteFault → end ≡ ends.WriteFault
fault_cut (cuts.Step e) end s b left it is = cc
fault_cut cuts.TraceFull end s b left it is = cc
fault_cut cuts.WriteFault end s b left it is = (finishes_fault end s b left it).0
fault_cut cuts.NoMemory end s b left it is = cc

-- A failed write is not for want of memory.
pub fault_memory : (end : RunEnd) → end ≡ ends.WriteFault → end ≡ ends.NoMemory → ⊥
fault_memory end fault memory = let h = sym fault ∙ memory in cc

pub fault_end : (cut : Cut) (end : RunEnd) (s : McuState) (b left : Board) → Finishes end cut s b left → end ≡ ends.WriteFault → cut ≡ cuts.WriteFault
fault_end (cuts.Step e) end s b left it is = absurd (finished_fault s b e (sym (finishes_step end e s b left (fault_memory end is) it).end_is ∙ is))
fault_end cuts.TraceFull end s b left it is = absurd (let h = sym (finishes_full end s b left (fault_memory end is) it).0 ∙ is in cc)
fault_end cuts.WriteFault end s b left it is = refl
fault_end cuts.NoMemory end s b left it is = absurd (finishes_none end s b left (fault_memory end is) it)

pub step_finishes : (end : RunEnd) (e : firmware.RunEnd) (s : McuState) (b left : Board) → ((end ≡ ends.NoMemory → ⊥) → Leaves (finished s b e) end left) → Finishes end (cuts.Step e) s b left
step_finishes ends.NoMemory e s b left it = tt
step_finishes end e s b left it = it (λ same. cc)

-- The run is over here, with this end.
leaves_over : (s : McuState) (b left : Board) (by end : RunEnd) → end ≡ by → left ≡ b → Leaves (over_at s b by) end left
leaves_over s b left by end is same = record { end_is = is; past_is = ap (λ (x : Board). x.past) same; links_are = ap (λ (x : Board). x.links) same }

over_leaves : (o : Outcome) (s : McuState) (b left : Board) (by end : RunEnd) → o ≡ over_at s b by → end ≡ by → left ≡ b → Leaves o end left
over_leaves o s b left by end is same stays = subst (λ (x : Outcome). Leaves x end left) (sym is) (leaves_over s b left by end same stays)

finished_break : (s : McuState) (b : Board) → finished s b firmwares.Break ≡ over_at s (closed b) ends.Break
unfolding finished
finished_break s b = refl

finished_sleep : (s : McuState) (b : Board) → finished s b firmwares.Sleep ≡ over_at s (closed b) ends.Sleep
unfolding finished
finished_sleep s b = refl

finished_limit : (s : McuState) (b : Board) → finished s b firmwares.CycleLimit ≡ over_at s (closed b) ends.CycleLimit
unfolding finished
finished_limit s b = refl

finished_stop : (s : McuState) (b : Board) (why : AvrStop) → finished s b (firmwares.Stop why) ≡ over_at s b (ends.Avr why)
unfolding finished
finished_stop s b why = refl

finished_wants : (s : McuState) (b : Board) (c : BusEvent) → finished s b (firmwares.Wants c) ≡ over_at s b (unanswered b c)
unfolding finished
finished_wants s b c = refl

-- Closing follows these ends.
closing_finishes : (e : firmware.RunEnd) (by end : RunEnd) (s : McuState) (b left : Board) → finished s b e ≡ over_at s (closed b) by
    → ((end ≡ ends.NoMemory → ⊥) → end ≡ by) → ((end ≡ ends.NoMemory → ⊥) → closed b ≡ left) → Finishes end (cuts.Step e) s b left
closing_finishes e by end s b left is same closes =
    step_finishes end e s b left (λ other. over_leaves (finished s b e) s (closed b) left by end is (same other) (sym (closes other)))

pub break_finishes : (end : RunEnd) (s : McuState) (b left : Board) → ((end ≡ ends.NoMemory → ⊥) → end ≡ ends.Break) → ((end ≡ ends.NoMemory → ⊥) → closed b ≡ left)
    → Finishes end (cuts.Step firmwares.Break) s b left
break_finishes end s b left same closes = closing_finishes firmwares.Break ends.Break end s b left (finished_break s b) same closes

pub sleep_finishes : (end : RunEnd) (s : McuState) (b left : Board) → ((end ≡ ends.NoMemory → ⊥) → end ≡ ends.Sleep) → ((end ≡ ends.NoMemory → ⊥) → closed b ≡ left)
    → Finishes end (cuts.Step firmwares.Sleep) s b left
sleep_finishes end s b left same closes = closing_finishes firmwares.Sleep ends.Sleep end s b left (finished_sleep s b) same closes

pub limit_finishes : (end : RunEnd) (s : McuState) (b left : Board) → ((end ≡ ends.NoMemory → ⊥) → end ≡ ends.CycleLimit) → ((end ≡ ends.NoMemory → ⊥) → closed b ≡ left)
    → Finishes end (cuts.Step firmwares.CycleLimit) s b left
limit_finishes end s b left same closes = closing_finishes firmwares.CycleLimit ends.CycleLimit end s b left (finished_limit s b) same closes

pub stop_finishes : (s : McuState) (b : Board) (why : AvrStop) → Finishes (ends.Avr why) (cuts.Step (firmwares.Stop why)) s b b
stop_finishes s b why = over_leaves (finished s b (firmwares.Stop why)) s b b (ends.Avr why) (ends.Avr why) (finished_stop s b why) refl refl

-- An event that got no answer ends the run.
wants_it : (e : firmware.RunEnd) (c : BusEvent) → EndWants e (Some c) → e ≡ firmwares.Wants c
wants_it (firmwares.Wants d) c it = cc
wants_it e c it = absurd (let never : Some c ≡ None → ⊥ = λ h. cc in never it)

unanswered_full : (b : Board) (c : BusEvent) → is_full_at b.events b.past ≡ true → unanswered b c ≡ ends.TraceFull
unanswered_full b c full = rw full refl

unanswered_stop : (b : Board) (c : BusEvent) (why : ChipStop) → is_full_at b.events b.past ≡ false → stop b.starts b.past c ≡ Some why → unanswered b c ≡ ends.Chip why
unanswered_stop b c why room is = rw (room, is) refl

wanting_finishes : (end : RunEnd) (e : firmware.RunEnd) (c : BusEvent) (s : McuState) (b : Board) → EndWants e (Some c) → unanswered b c ≡ end → Finishes end (cuts.Step e) s b b
wanting_finishes end e c s b wants is =
    step_finishes end e s b b (λ other.
    over_leaves (finished s b e) s b b (unanswered b c) end (ap (finished s b) (wants_it e c wants) ∙ finished_wants s b c) (sym is) refl)

-- By its cause.
abbrev ToldAs : StepEnd → RunEnd → Type 0
ToldAs (step_ends.Stopped why) end = end ≡ ends.Chip why
ToldAs step_ends.TraceFull end = end ≡ ends.TraceFull
ToldAs step_ends.NoMemory end = end ≡ ends.NoMemory

caused_finishes : (by : StepEnd) (end : RunEnd) (seat : Seat) (u : Unanswered) (e : firmware.RunEnd) (s : McuState) → seat.refused ≡ Some u → u.end ≡ by → ToldAs by end
    → IsCause (Some u) seat.now → EndWants e (Some u.event) → Finishes end (cuts.Step e) s (seen seat) (seen seat)
caused_finishes (step_ends.Stopped why) end seat u e s some is told cause wants =
    let h = rw is at cause in
    wanting_finishes end e u.event s (seen seat) wants (unanswered_stop (seen seat) u.event why h.0 h.1 ∙ sym told)
caused_finishes step_ends.TraceFull end seat u e s some is told cause wants =
    let h = rw is at cause in
    wanting_finishes end e u.event s (seen seat) wants (unanswered_full (seen seat) u.event h ∙ sym told)
caused_finishes step_ends.NoMemory end seat u e s some is told cause wants =
    subst (λ (x : RunEnd). Finishes x (cuts.Step e) s (seen seat) (seen seat)) (sym told) tt

pub refused_finishes : (by : StepEnd) (end : RunEnd) (seat : Seat) (u : Unanswered) (e : firmware.RunEnd) (s : McuState) → seat.refused ≡ Some u → u.end ≡ by → ToldAs by end
    → IsCause seat.refused seat.now → EndWants e (wanted_of seat.refused) → Finishes end (cuts.Step e) s (seen seat) (seen seat)
refused_finishes by end seat u e s some is told cause wants =
    caused_finishes by end seat u e s some is told (subst (λ (x : Option Unanswered). IsCause x seat.now) some cause)
    (subst (λ (x : Option Unanswered). EndWants e (wanted_of x)) some wants)
