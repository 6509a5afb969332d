-- A live run put together: the firmware's run stands in the history, and text and end are its.
use Rattle.std.proofs.Common.{◌≡◌, ◌⊎◌, inl, inr, ℕ, ◌<◌, ◌≤◌, true, false, List, [], ◌∷◌, ◌++◌, Option, None, Some, refl, sym, ap, ◌∙◌, subst, arith}
use Rattle.wz_base.specs.Outside.{RisesOnly}
use Rattle.wz_base.specs.Whole.{Appends}
use Rattle.wz_base.proofs.Gathered.{appends_none, appends_then, front_first, front_then}
use Rattle.atomic_table.specs.Seated.{TableId}
use Rattle.board_bus.specs.declared.event.BusAnswer.{BusAnswer}
use Rattle.board_bus.specs.declared.event.BusEvent.{BusEvent}
use Rattle.chip_sheet.specs.Legal.{Legal}
use Rattle.chip_sheet.specs.Life.{lives}
use Rattle.chip_sheet.specs.Past.{Past}
use Rattle.chip_sheet.specs.Streams.{Starts}
use Rattle.chip_sheet.specs.Windows.{flight}
use Rattle.chip_sheet.specs.declared.stop.ChipStop.{ChipStop}
use Rattle.chip_hist.specs.Log.{is_full}
use Rattle.chip_shared.specs.State.{State}
use Rattle.chip_shared.specs.Tied.{Tied}
use Rattle.link_trait.specs.Shown.{Shown}
use Rattle.chip_lock.specs.declared.over.Over.{Over}
use Rattle.chip_lock.specs.declared.over.Over.TheVariants.{Stopped, TraceFull, NoMemory, PollFault, Finished}
use Rattle.chip_lock.specs.Passes.{PassView, exchanges_of}
use Rattle.ready_loop.specs.Serving.{GivesFault, Serves}
use Rattle.avr_mcu.specs.Run.{Outcome, run}
use Rattle.avr_mcu.specs.State.{McuState, reset_state, printed}
use Rattle.avr_mcu.specs.declared.run.RunEnd as firmware
use Rattle.avr_mcu.specs.declared.run.RunEnd.TheVariants as firmwares
use Rattle.avr_run.specs.Told.{Told, SoFar, Ended, EndWants}
use Rattle.avr_run.proofs.Runs.{run-begins}
use Rattle.board_file.specs.Boards.{Setup}
use Rattle.board_sim.specs.Boards.{is_full_at}
use Rattle.board_sim.specs.Ends.{starts_of}
use Rattle.board_sim.specs.Exchanges.{asked_of, answers_of}
use Rattle.board_sim.specs.Finishing.{ReportsBehind}
use Rattle.board_sim.specs.Playing.{Printed, printing}
use Rattle.board_sim.specs.Report.{last_behind, report_of}
use Rattle.board_sim.specs.declared.end.RunEnd.{RunEnd}
use Rattle.board_sim.specs.declared.end.RunEnd.TheVariants as ends
use Rattle.board_sim.proofs.Ending.{by_kind, fault_memory}
use Rattle.board_sim.proofs.Left.{behind_fault, behind_none, behind_some, reports_fault, reports_none, reports_whole, report_same, both_causes, same_rises, still_rises}
use Rattle.board_run.specs.declared.firmware.Cut.{Cut}
use Rattle.board_run.specs.declared.firmware.Cut.TheVariants as cuts
use Rattle.board_run.specs.declared.wire.Unanswered.{Unanswered}
use Rattle.board_run.specs.Wires.{IsFirst, told_by, wanted_of}
use Rattle.board_run.specs.Sides.{IsQuietOther, OnlyFault}
use Rattle.board_run.specs.Going.{Goes, ToByte, WalkedToEnd, WalkedToByte}
use Rattle.board_run.specs.Printing.{PrintsLast}
use Rattle.board_run.specs.Ran.{RanTo, side}
use Rattle.board_run.specs.Leaving.{Begins, Leaves}
use Rattle.board_run.specs.Closing.{CausedBy, ClosesTo, EndedFor, EndsWith, IsOver, StallsOnly}
use Rattle.board_run.specs.Lives.{AsksAll, ComesBy, ComesTo, IsClosing, IsWhole, Left, Lives, LivesBy, NothingRan, OnlyStalled, StopsAtByte, StopsAtReport, StopsShort, StopsThere, firmware_run, live_report}

-- The run begins: nothing was asked yet.
begins_told : (cycles : ℕ) (start : McuState) (turn : TableId) (first : PassView) → printed start ≡ None → IsFirst turn first → SoFar cycles start [] start (told_by first.mine None)
begins_told cycles start turn first still is =
    subst (λ (mine : List _). SoFar cycles start [] start (told_by mine None)) (sym is.none_made) (run-begins cycles start still)

-- The run whose last step ended it.
ended_run : (cycles : ℕ) (end : firmware.RunEnd) (start : McuState) (turn : TableId) (first : PassView) (now : McuState) (told : Told) (old new : Printed) → printed start ≡ None → IsFirst turn first
    → (walked : WalkedToEnd cycles end start (told_by first.mine None) now told old new) → Ended cycles start walked.bytes now told end
ended_run cycles end start turn first now told old new still is walked = walked.to_end start [] (begins_told cycles start turn first still is)

pub cut_wants : (cycles : ℕ) (cut : Cut) (turn : TableId) (first : PassView) (start now : McuState) (pass : PassView) (refused : Option Unanswered) (old new : Printed) → printed start ≡ None
    → IsFirst turn first → Goes (Some cut) cycles start (told_by first.mine None) now (told_by pass.mine refused) old new → (e : firmware.RunEnd) → cut ≡ cuts.Step e → EndWants e (wanted_of refused)
cut_wants cycles cut turn first start now pass refused old new still is goes e same =
    (ended_run cycles e start turn first now (told_by pass.mine refused) old new still is (rw same at goes)).wants

-- The pass of the links.
pub other_quiet : (turn : TableId) (old new : PassView) → IsFirst turn old → Serves old new → IsQuietOther new
other_quiet turn old new is serves = record { no_bus = serves.quiet ∙ ap exchanges_of is.none_made; unfound = serves.found ∙ is.unfound }

pub other_gave : (turn : TableId) (before after : ℕ) (old new : PassView) → IsFirst turn old → GivesFault before after old new → OnlyFault before after new.gave
other_gave turn before after old new is (inl same) = inl (same ∙ is.ungiven)
other_gave turn before after old new is (inr fault) = inr fault

-- What is fixed of a run: its board, the history that it leaves, and how many waits of the poller had failed and have failed.
record Fixed : Type 0 where
  pub setup : Setup
  pub past : Past
  pub before : ℕ
  pub after : ℕ

-- The state that is left, on these terms.
record On {L : Type 0} (f : Fixed) (now : State L) : Type 0 where
  pub past : f.past ≡ now.log.past
  pub starts : now.starts ≡ starts_of f.setup
  pub limit : now.log.limit ≡ f.setup.events

abbrev Comes : Fixed → RunEnd → firmware.RunEnd → Type 0
Comes f end real = ComesBy end f.setup f.past real f.before f.after

full_on : {L : Type 0} (f : Fixed) (now : State L) → On f now → is_full now.log ≡ true → is_full_at f.setup.events f.past ≡ true
full_on f now on full =
    subst (λ (p : Past). is_full_at f.setup.events p ≡ true) (sym on.past) (subst (λ (n : ℕ). is_full_at n now.log.past ≡ true) on.limit full)

room_on : {L : Type 0} (f : Fixed) (now : State L) → On f now → is_full_at f.setup.events f.past ≡ false → is_full now.log ≡ false
room_on f now on room =
    subst (λ (n : ℕ). is_full_at n now.log.past ≡ false) (sym on.limit) (subst (λ (p : Past). is_full_at f.setup.events p ≡ false) on.past room)

stops_on : {L : Type 0} (f : Fixed) (now : State L) (c : BusEvent) (s : ChipStop) → On f now → StopsThere now.starts now.log.limit now.log.past c s
    → StopsThere (starts_of f.setup) f.setup.events f.past c s
stops_on f now c s on it =
    subst (λ (p : Past). StopsThere (starts_of f.setup) f.setup.events p c s) (sym on.past)
    (subst (λ (x : Starts × ℕ). StopsThere x.0 x.1 now.log.past c s) (λ j. (on.starts j, on.limit j)) it)

-- Why the run ended so, where an event got no answer.
comes_for : {L : Type 0} (f : Fixed) (now : State L) (why : Over) (c : BusEvent) (end : RunEnd) (real : firmware.RunEnd) → On f now → real ≡ firmwares.Wants c → EndedFor why end
    → CausedBy why now c f.before f.after → (end ≡ ends.NoMemory → ⊥) → Comes f end real
comes_for f now (Stopped s) c end real on is told cause other = rw told (c, (is, stops_on f now c s on cause))
comes_for f now TraceFull c end real on is told cause other = rw told (c, (is, full_on f now on cause))
comes_for f now NoMemory c end real on is told cause other = absurd (other told)
comes_for f now PollFault c end real on is told cause other = rw told (c, (is, cause))
comes_for f now Finished c end real on is told cause other = absurd told

-- Behind closing.
comes_own : (f : Fixed) (own end : RunEnd) (real : firmware.RunEnd) → ClosesTo own end → Comes f own real → (end ≡ ends.NoMemory → ⊥) → Comes f end real
comes_own f own end real (inl same) it other = subst (λ (e : RunEnd). Comes f e real) (sym same) it
comes_own f own end real (inr none) it other = absurd (other none)

wants_event : (c d : BusEvent) (real : firmware.RunEnd) → Some d ≡ Some c → real ≡ firmwares.Wants c → real ≡ firmwares.Wants d
wants_event c d real same is = cc

comes_by : {L : Type 0} (f : Fixed) (now : State L) (e : firmware.RunEnd) (refused : Option Unanswered) (end : RunEnd) (real : firmware.RunEnd) → On f now → real ≡ e → EndWants e (wanted_of refused)
    → EndsWith (cuts.Step e) refused now f.before f.after end → (end ≡ ends.NoMemory → ⊥) → Comes f end real
comes_by f now firmwares.Break refused end real on is wants it other = comes_own f ends.Break end real it is other
comes_by f now firmwares.Sleep refused end real on is wants it other = comes_own f ends.Sleep end real it is other
comes_by f now firmwares.CycleLimit refused end real on is wants it other = comes_own f ends.CycleLimit end real it is other
comes_by f now (firmwares.Stop why) refused end real on is wants it other = rw it is
comes_by f now (firmwares.Wants c) None end real on is wants it other = absurd it
comes_by f now (firmwares.Wants c) (Some u) end real on is wants it other =
    comes_for f now u.why u.event end real on (wants_event c u.event real wants is) it.0 it.1 other

-- The run ends by a failed write exactly where that cut it.
own_fault : (own end : RunEnd) → ClosesTo own end → (own ≡ ends.WriteFault → ⊥) → end ≡ ends.WriteFault → ⊥
own_fault own end (inl same) never is = never (sym same ∙ is)
own_fault own end (inr none) never is = fault_memory end is none

for_fault : (why : Over) (end : RunEnd) → EndedFor why end → end ≡ ends.WriteFault → ⊥
for_fault (Stopped s) end told is = let h : ends.Chip s ≡ ends.WriteFault = sym told ∙ is in cc
for_fault TraceFull end told is = let h : ends.TraceFull ≡ ends.WriteFault = sym told ∙ is in cc
for_fault NoMemory end told is = fault_memory end is told
for_fault PollFault end told is = let h : ends.PollFault ≡ ends.WriteFault = sym told ∙ is in cc
for_fault Finished end told is = told

step_fault : {L : Type 0} (e : firmware.RunEnd) (refused : Option Unanswered) (now : State L) (before after : ℕ) (end : RunEnd) → EndsWith (cuts.Step e) refused now before after end
    → end ≡ ends.WriteFault → ⊥
step_fault firmwares.Break refused now before after end it is = own_fault ends.Break end it (λ h. cc) is
step_fault firmwares.Sleep refused now before after end it is = own_fault ends.Sleep end it (λ h. cc) is
step_fault firmwares.CycleLimit refused now before after end it is = own_fault ends.CycleLimit end it (λ h. cc) is
step_fault (firmwares.Stop why) refused now before after end it is = let h : ends.Avr why ≡ ends.WriteFault = sym it ∙ is in cc
step_fault (firmwares.Wants c) None now before after end it is = it
step_fault (firmwares.Wants c) (Some u) now before after end it is = for_fault u.why end it.0 is

fault_cut : {L : Type 0} (cut : Cut) (refused : Option Unanswered) (now : State L) (before after : ℕ) (end : RunEnd) → EndsWith cut refused now before after end → cut ≡ cuts.WriteFault → end ≡ ends.WriteFault
fault_cut (cuts.Step e) refused now before after end it is = cc
fault_cut cuts.WriteFault refused now before after end it is = it

fault_end : {L : Type 0} (cut : Cut) (refused : Option Unanswered) (now : State L) (before after : ℕ) (end : RunEnd) → EndsWith cut refused now before after end → end ≡ ends.WriteFault → cut ≡ cuts.WriteFault
fault_end (cuts.Step e) refused now before after end it is = absurd (step_fault e refused now before after end it is)
fault_end cuts.WriteFault refused now before after end it is = refl

-- What is left, by its end.
to_lives : (end : RunEnd) (image : List ℕ) (setup : Setup) (before : ℕ) (left : Left) (old new : Option (List ℕ))
    → (end ≡ ends.WriteFault → StopsAtByte image setup left old new ⊎ StopsAtReport image setup before left old new)
    → (end ≡ ends.NoMemory → NothingRan left old new ⊎ StopsShort image setup left old new)
    → ((end ≡ ends.WriteFault → ⊥) → (end ≡ ends.NoMemory → ⊥) → IsWhole image setup before left old new)
    → LivesBy end image setup before left old new
to_lives ends.WriteFault image setup before left old new fault memory other = fault refl
to_lives ends.NoMemory image setup before left old new fault memory other = memory refl
to_lives end image setup before left old new fault memory other = other (λ e. cc) (λ e. cc)

-- The firmware's run, on the answers of the history.
record IsRun (image : List ℕ) (setup : Setup) (left : Left) (bytes trail : List ℕ) (e : firmware.RunEnd) : Type 0 where
  pub is : firmware_run image setup left.past ≡ record { asked = asked_of left.past; serial = bytes; cycles = left.cycles; trail = trail; end = e }

run_asked : (image : List ℕ) (setup : Setup) (left : Left) (bytes trail : List ℕ) (e : firmware.RunEnd) → IsRun image setup left bytes trail e → AsksAll image setup left.past
run_asked image setup left bytes trail e r = ap (λ (o : Outcome). o.asked) r.is

run_serial : (image : List ℕ) (setup : Setup) (left : Left) (bytes trail : List ℕ) (e : firmware.RunEnd) → IsRun image setup left bytes trail e → (firmware_run image setup left.past).serial ≡ bytes
run_serial image setup left bytes trail e r = ap (λ (o : Outcome). o.serial) r.is

run_cycles : (image : List ℕ) (setup : Setup) (left : Left) (bytes trail : List ℕ) (e : firmware.RunEnd) → IsRun image setup left bytes trail e → left.cycles ≡ (firmware_run image setup left.past).cycles
run_cycles image setup left bytes trail e r = sym (ap (λ (o : Outcome). o.cycles) r.is)

run_end : (image : List ℕ) (setup : Setup) (left : Left) (bytes trail : List ℕ) (e : firmware.RunEnd) → IsRun image setup left bytes trail e → (firmware_run image setup left.past).end ≡ e
run_end image setup left bytes trail e r = ap (λ (o : Outcome). o.end) r.is

run_report : (image : List ℕ) (setup : Setup) (left : Left) (bytes trail : List ℕ) (e : firmware.RunEnd) (starts : Starts) (past : Past) (last : Option ℕ) (cycles : ℕ) (end : RunEnd)
    → IsRun image setup left bytes trail e → starts ≡ starts_of setup → left.past ≡ past → last ≡ last_behind None bytes → left.cycles ≡ cycles
    → report_of starts past last cycles trail end ≡ live_report image setup left.past end
run_report image setup left bytes trail e starts past last cycles end r from same behind taken =
    let o : Outcome = firmware_run image setup left.past in
    report_same starts (starts_of setup) past left.past last (last_behind None o.serial) cycles o.cycles trail o.trail end end from (sym same)
    (behind ∙ sym (ap (λ (p : Outcome). last_behind None p.serial) r.is)) (sym taken ∙ sym (ap (λ (p : Outcome). p.cycles) r.is)) (sym (ap (λ (p : Outcome). p.trail) r.is)) refl

-- The firmware's run came to its end, with this text, and the report behind it.
ended_lives : (image : List ℕ) (setup : Setup) (before : ℕ) (left : Left) (end : RunEnd) (bytes trail : List ℕ) (e : firmware.RunEnd) (old mid new : Option (List ℕ))
    → IsRun image setup left bytes trail e → Appends old bytes mid → (end ≡ ends.WriteFault → ⊥)
    → ((end ≡ ends.NoMemory → ⊥) → ComesBy end setup left.past (firmware_run image setup left.past).end before left.faults)
    → ReportsBehind end (live_report image setup left.past end) left.end mid new → LivesBy left.end image setup before left old new
ended_lives image setup before left end bytes trail e old mid new r wrote never comes it =
    let o : Outcome = firmware_run image setup left.past in
    let text : List ℕ = live_report image setup left.past end in
    let asks = run_asked image setup left bytes trail e r in
    let cycles = run_cycles image setup left bytes trail e r in
    let all : Appends old o.serial mid = subst (λ (b : List ℕ). Appends old b mid) (sym (run_serial image setup left bytes trail e r)) wrote in
    by_kind (LivesBy left.end image setup before left old new) end
    (λ fault. absurd (never fault))
    (λ none.
    let so = behind_none end text left.end mid new none it in
    to_lives left.end image setup before left old new
    (λ fault. absurd (fault_memory left.end fault so.0))
    (λ memory. inr (record { asks = asks; end = end; wrote = front_first old new o.serial text (subst (λ (x : Option (List ℕ)). Appends old o.serial x) (sym so.1) all) }))
    (λ fault memory. absurd (memory so.0)))
    (λ fault none.
    let here = behind_some end text left.end mid new fault none it in
    to_lives left.end image setup before left old new
    (λ is. inr (record {
      asks = asks;
      end = end;
      comes = comes none;
      cycles = cycles;
      text = mid;
      printed_all = all;
      wrote = reports_fault end text left.end mid new is here;
    }))
    (λ is. inr (record { asks = asks; end = end; wrote = front_then old mid new o.serial text all (reports_none end text left.end mid new is here) }))
    (λ no_fault no_memory.
    let whole = reports_whole end text left.end mid new no_fault no_memory here in
    record {
      asks = asks;
      comes = subst (λ (x : RunEnd). ComesBy x setup left.past o.end before left.faults) (sym whole.0) (comes none);
      cycles = cycles;
      wrote = subst (λ (x : RunEnd). Appends old (o.serial ++ live_report image setup left.past x) new) (sym whole.0) (appends_then old mid new o.serial text all whole.1);
    }))

-- The events and answers of the state that is left are those of the firmware's pass.
record Matches (left : Left) (told : Told) : Type 0 where
  pub asked : asked_of left.past ≡ told.asked
  pub answers : answers_of left.past ≡ told.answers

is_run : (image : List ℕ) (setup : Setup) (left : Left) (bytes : List ℕ) (mcu : McuState) (told : Told) (e : firmware.RunEnd) → Matches left told → left.cycles ≡ mcu.devices.cycles
    → Ended setup.cycles (reset_state image) bytes mcu told e → IsRun image setup left bytes mcu.trail e
is_run image setup left bytes mcu told e same cycles ended = record {
  is =
      ap (run setup.cycles (reset_state image)) same.answers ∙ ended.is
      ∙ ap (λ (asked : List BusEvent). record { asked = asked; serial = bytes; cycles = mcu.devices.cycles; trail = mcu.trail; end = e }) (sym same.asked)
      ∙ ap (λ (n : ℕ). record { asked = asked_of left.past; serial = bytes; cycles = n; trail = mcu.trail; end = e }) (sym cycles);
}

-- A serial byte could not be written.
told_matches : (left : Left) (told : Told) → Matches left told → told ≡ record { asked = asked_of left.past; answers = answers_of left.past; wanted = told.wanted }
told_matches left told same =
    ap (λ (asked : List BusEvent). record { asked = asked; answers = told.answers; wanted = told.wanted }) (sym same.asked)
    ∙ ap (λ (answers : List BusAnswer). record { asked = asked_of left.past; answers = answers; wanted = told.wanted }) (sym same.answers)

comes_to : (cycles : ℕ) (start : McuState) (bytes : List ℕ) (s now : McuState) (told told' : Told) → SoFar cycles start [] s told → ToByte cycles bytes s told now told' → ComesTo cycles start bytes now told'
comes_to cycles start bytes s now told told' far (inl on) = inl (on start [] far)
comes_to cycles start bytes s now told told' far (inr last) = inr (last.0, last.1 start [] far)

byte_lives : (image : List ℕ) (setup : Setup) (before : ℕ) (left : Left) (mcu : McuState) (told first : Told) (old mid : Printed) (text : Option (List ℕ)) → Matches left told → left.cycles ≡ mcu.devices.cycles
    → SoFar setup.cycles (reset_state image) [] (reset_state image) first → WalkedToByte setup.cycles (reset_state image) first mcu told old mid → left.end ≡ ends.WriteFault → text ≡ mid.written
    → LivesBy left.end image setup before left old.written text
byte_lives image setup before left mcu told first old mid text same cycles far walked is wrote =
    let come = comes_to setup.cycles (reset_state image) (walked.bytes ++ walked.byte ∷ []) (reset_state image) mcu first told far walked.to_byte in
    to_lives left.end image setup before left old.written text
    (λ fault. inl (record {
      serial = walked.bytes;
      byte = walked.byte;
      state = mcu;
      wanted = told.wanted;
      comes = subst (ComesTo setup.cycles (reset_state image) (walked.bytes ++ walked.byte ∷ []) mcu) (told_matches left told same) come;
      last = subst (PrintsLast setup.cycles (reset_state image) walked.bytes walked.byte mcu) (told_matches left told same) (walked.last (reset_state image) [] far);
      cycles = cycles;
      wrote = subst (Appends old.written walked.bytes) (sym wrote) walked.prints.wrote;
    }))
    (λ none. absurd (fault_memory left.end is none))
    (λ fault none. absurd (fault is))

-- Ends behind which closing was made are told as they are.
closing_fault : (end : RunEnd) → IsClosing end → end ≡ ends.WriteFault → ⊥
closing_fault end closing is = rw is at closing

closing_none : (end : RunEnd) → IsClosing end → end ≡ ends.NoMemory → ⊥
closing_none end closing is = rw is at closing

closing_same : (end result : RunEnd) (text : List ℕ) (old new : Option (List ℕ)) → ReportsBehind end text result old new → IsClosing result → result ≡ end
closing_same end result text old new it closing =
    by_kind (result ≡ end) end
    (λ fault. (behind_fault end text result old new fault it).0 ∙ sym fault)
    (λ none. (behind_none end text result old new none it).0 ∙ sym none)
    (λ fault none. (reports_whole end text result old new (closing_fault result closing) (closing_none result closing) (behind_some end text result old new fault none it)).0)

only_stalled : {L : Type 0} (shown : L → Shown) (f : Fixed) (now : State L) (left : Left) → On f now → left.past ≡ f.past → left.links ≡ shown now.links → StallsOnly shown now
    → is_full_at f.setup.events left.past ≡ false → OnlyStalled f.setup left
only_stalled shown f now left on same links stalls room = λ n few some.
    let here : left.past ≡ now.log.past = same ∙ on.past in
    ap (λ (x : Shown). x.stalled n) links
    ∙ stalls (room_on f now on (subst (λ (p : Past). is_full_at f.setup.events p ≡ false) same room)) n few
    (subst (λ (p : Past). 0 < flight now.starts p n) here (subst (λ (x : Starts). 0 < flight x left.past n) (sym on.starts) some))
    ∙ ap (λ (p : Past). lives p n) (sym here)

-- What a run came to that began so, and what is left of it.
pub record Came {L : Type 0} (shown : L → Shown) (image : List ℕ) (setup : Setup) (before : ℕ) (first pass : PassView) (gave : Option Over) (cut : Cut) (refused : Option Unanswered)
    (mcu : McuState) (now : State L) (end : RunEnd) (old mid : Printed) (left : Left) : Type 0 where
  pub far : SoFar setup.cycles (reset_state image) [] (reset_state image) (told_by first.mine None)
  pub goes : Goes (Some cut) setup.cycles (reset_state image) (told_by first.mine None) mcu (told_by pass.mine refused) old mid
  pub only : OnlyFault before left.faults gave
  pub over : IsOver shown (record { told = told_by pass.mine refused; cut = cut; refused = refused; gave = gave }) end now
  pub starts : now.starts ≡ starts_of setup
  pub limit : now.log.limit ≡ setup.events
  pub leaves : Leaves shown now mcu left

pub came_by : {L : Type 0} (shown : L → Shown) (image : List ℕ) (setup : Setup) (before : ℕ) (first pass : PassView) (gave : Option Over) (cut : Cut) (refused : Option Unanswered)
    (mcu : McuState) (now : State L) (end : RunEnd) (old : Option (List ℕ)) (mid : Printed) (left : Left) (new : Option (List ℕ))
    → Came shown image setup before first pass gave cut refused mcu now end (printing old None) mid left
    → ReportsBehind end (report_of now.starts now.log.past mid.last mcu.devices.cycles mcu.trail end) left.end mid.written new → LivesBy left.end image setup before left old new
came_by shown image setup before first pass gave cut refused mcu now end old mid left new c it = by cut refl
  where
    told : Told
    told = told_by pass.mine refused

    same : Matches left told
    same = record { asked = ap asked_of c.leaves.past ∙ c.over.bus.events_are; answers = ap answers_of c.leaves.past ∙ c.over.bus.answers_are }

    f : Fixed
    f = record { setup = setup; past = left.past; before = before; after = left.faults }

    on : On f now
    on = record { past = c.leaves.past; starts = c.starts; limit = c.limit }

    with_ : (x : Cut) → cut ≡ x → EndsWith x refused now before left.faults end
    with_ x is = subst (λ (y : Cut). EndsWith y refused now before left.faults end) is (c.over.ends before left.faults c.only)

    walked : (x : Cut) → cut ≡ x → Goes (Some x) setup.cycles (reset_state image) (told_by first.mine None) mcu told (printing old None) mid
    walked x is = subst (λ (y : Cut). Goes (Some y) setup.cycles (reset_state image) (told_by first.mine None) mcu told (printing old None) mid) is c.goes

    by : (x : Cut) → cut ≡ x → LivesBy left.end image setup before left old new
    by (cuts.Step e) is =
        let w = walked (cuts.Step e) is in
        let ended : Ended setup.cycles (reset_state image) w.bytes mcu told e = w.to_end (reset_state image) [] c.far in
        let r = is_run image setup left w.bytes mcu told e same c.leaves.cycles ended in
        let ends_ = with_ (cuts.Step e) is in
        ended_lives image setup before left end w.bytes mcu.trail e old mid.written new r w.prints.wrote (step_fault e refused now before left.faults end ends_)
        (comes_by f now e refused end (firmware_run image setup left.past).end on (run_end image setup left w.bytes mcu.trail e r) ended.wants ends_)
        (subst (λ (text : List ℕ). ReportsBehind end text left.end mid.written new)
        (run_report image setup left w.bytes mcu.trail e now.starts now.log.past mid.last mcu.devices.cycles end r c.starts c.leaves.past w.prints.last c.leaves.cycles) it)
    by cuts.WriteFault is =
        let so = behind_fault end (report_of now.starts now.log.past mid.last mcu.devices.cycles mcu.trail end) left.end mid.written new (with_ cuts.WriteFault is) it in
        byte_lives image setup before left mcu told (told_by first.mine None) (printing old None) mid new same c.leaves.cycles c.far (walked cuts.WriteFault is) so.0 so.1

pub came_stalls : {L : Type 0} (shown : L → Shown) (image : List ℕ) (setup : Setup) (before : ℕ) (first pass : PassView) (gave : Option Over) (cut : Cut) (refused : Option Unanswered)
    (mcu : McuState) (now : State L) (end : RunEnd) (old mid : Printed) (left : Left) (text : List ℕ) (written new : Option (List ℕ))
    → Came shown image setup before first pass gave cut refused mcu now end old mid left → ReportsBehind end text left.end written new → IsClosing left.end
    → is_full_at setup.events left.past ≡ false → OnlyStalled setup left
came_stalls shown image setup before first pass gave cut refused mcu now end old mid left text written new c it closing room =
    only_stalled shown (record { setup = setup; past = left.past; before = before; after = left.faults }) now left (record { past = c.leaves.past; starts = c.starts; limit = c.limit }) refl c.leaves.links
    (c.over.stalls (subst IsClosing (closing_same end left.end text written new it closing) closing)) room

pub came_causes : {L : Type 0} (shown : L → Shown) (image : List ℕ) (setup : Setup) (before : ℕ) (first pass : PassView) (gave : Option Over) (cut : Cut) (refused : Option Unanswered)
    (mcu : McuState) (now : State L) (end : RunEnd) (old mid : Printed) (left : Left) (text : List ℕ) (written new : Option (List ℕ)) (f0 f1 f2 : ℕ)
    → Came shown image setup before first pass gave cut refused mcu now end old mid left → ReportsBehind end text left.end written new
    → RisesOnly (cut ≡ cuts.WriteFault) f0 f1 → ((end ≡ ends.WriteFault → ⊥) → RisesOnly (left.end ≡ ends.WriteFault) f1 f2) → (end ≡ ends.WriteFault → f2 ≡ f1)
    → RisesOnly (left.end ≡ ends.WriteFault) f0 f2
came_causes shown image setup before first pass gave cut refused mcu now end old mid left text written new f0 f1 f2 c it one two stays =
    let ended = c.over.ends before left.faults c.only in
    both_causes end left.end text f0 f1 f2 written new
    (same_rises (cut ≡ cuts.WriteFault) (end ≡ ends.WriteFault) f0 f1 (fault_cut cut refused now before left.faults end ended) (fault_end cut refused now before left.faults end ended) one)
    two stays it

pub came_lives : {L : Type 0} (shown : L → Shown) (image : List ℕ) (setup : Setup) (before : ℕ) (first pass : PassView) (gave : Option Over) (cut : Cut) (refused : Option Unanswered)
    (mcu : McuState) (now : State L) (end : RunEnd) (old : Option (List ℕ)) (mid : Printed) (left : Left) (new : Option (List ℕ)) (f0 f1 f2 : ℕ)
    → Came shown image setup before first pass gave cut refused mcu now end (printing old None) mid left
    → ReportsBehind end (report_of now.starts now.log.past mid.last mcu.devices.cycles mcu.trail end) left.end mid.written new
    → RisesOnly (cut ≡ cuts.WriteFault) f0 f1 → ((end ≡ ends.WriteFault → ⊥) → RisesOnly (left.end ≡ ends.WriteFault) f1 f2) → (end ≡ ends.WriteFault → f2 ≡ f1)
    → before ≤ left.faults → Lives image setup before left old new f0 f2
came_lives shown image setup before first pass gave cut refused mcu now end old mid left new f0 f1 f2 c it one two stays later =
    let text : List ℕ = report_of now.starts now.log.past mid.last mcu.devices.cycles mcu.trail end in
    record {
      legal = subst (λ (x : Starts). Legal x left.past) c.starts (subst (Legal now.starts) (sym c.leaves.past) c.leaves.legal);
      tied =
          subst (λ (x : Shown). Tied (starts_of setup) left.past x) (sym c.leaves.links)
          (subst (λ (x : Starts). Tied x left.past (shown now.links)) c.starts (subst (λ (p : Past). Tied now.starts p (shown now.links)) (sym c.leaves.past) c.leaves.tied));
      by = came_by shown image setup before first pass gave cut refused mcu now end old mid left new c it;
      stalled = came_stalls shown image setup before first pass gave cut refused mcu now end (printing old None) mid left text mid.written new c it;
      causes = came_causes shown image setup before first pass gave cut refused mcu now end (printing old None) mid left text mid.written new f0 f1 f2 c it one two stays;
      later = later;
    }

-- A run that began on a board's terms came to this.
pub came : {L : Type 0} (shown : L → Shown) (image : List ℕ) (setup : Setup) (turn : TableId) (before cycles : ℕ) (first second pass other : PassView) (cut : Cut) (refused : Option Unanswered)
    (start mcu : McuState) (now : State L) (end : RunEnd) (old mid : Printed) (left : Left)
    → Begins image setup start cycles first → IsFirst turn first → IsFirst turn second → printed start ≡ None → RanTo cycles cut (side start first None old) (side mcu pass refused mid)
    → GivesFault before left.faults second other → IsOver shown (record { told = told_by pass.mine refused; cut = cut; refused = refused; gave = other.gave }) end now
    → now.starts ≡ pass.starts → now.log.limit ≡ pass.limit → Leaves shown now mcu left
    → Came shown image setup before first pass other.gave cut refused mcu now end old mid left
came shown image setup turn before cycles first second pass other cut refused start mcu now end old mid left begins is is' still ran gives over starts limit leaves =
    let far : SoFar cycles start [] start (told_by first.mine None) = begins_told cycles start turn first still is in
    record {
      far = subst (λ (n : ℕ). SoFar n (reset_state image) [] (reset_state image) (told_by first.mine None)) begins.cycles_are
          (subst (λ (s : McuState). SoFar cycles s [] s (told_by first.mine None)) begins.reset far);
      goes = subst (λ (n : ℕ). Goes (Some cut) n (reset_state image) (told_by first.mine None) mcu (told_by pass.mine refused) old mid) begins.cycles_are
          (subst (λ (s : McuState). Goes (Some cut) cycles s (told_by first.mine None) mcu (told_by pass.mine refused) old mid) begins.reset ran.goes);
      only = other_gave turn before left.faults second other is' gives;
      over = over;
      starts = starts ∙ ran.stays.starts ∙ begins.starts;
      limit = limit ∙ ran.stays.limit ∙ begins.limit;
      leaves = leaves;
    }

-- There was no memory to begin with.
pub unmade_lives : (image : List ℕ) (setup : Setup) (before : ℕ) (left : Left) (old : Option (List ℕ)) (n : ℕ) → left.past ≡ [] → left.end ≡ ends.NoMemory → left.faults ≡ before
    → Tied (starts_of setup) [] left.links → Lives image setup before left old old n n
unmade_lives image setup before left old n past end faults tied = record {
  legal = subst (Legal (starts_of setup)) (sym past) tt;
  tied = subst (λ (p : Past). Tied (starts_of setup) p left.links) (sym past) tied;
  by = to_lives left.end image setup before left old old (λ fault. absurd (fault_memory left.end fault end)) (λ none. inl (record { past = past; wrote = appends_none old }))
      (λ fault none. absurd (none end));
  stalled = λ closing. absurd (closing_none left.end closing end);
  causes = still_rises (left.end ≡ ends.WriteFault) n (λ fault. fault_memory left.end fault end);
  later = omega (arith, faults);
}
