-- What the calls leave, from what their runs come to.
use Rattle.std.proofs.Common.{◌≡◌, ◌⊎◌, inl, inr, ℕ, List, [], Option, None, Some, IfSome, refl, sym, ap, ◌∙◌, subst, arith, append-nil}
use Rattle.wz_base.specs.Whole.{Appends, AppendsFront}
use Rattle.wz_base.specs.Outside.{RisesOnly}
use Rattle.wz_base.proofs.Gathered.{appends_then, appends_none, front_first, front_then, front_before}
use Rattle.chip_sheet.specs.Legal.{Legal}
use Rattle.chip_sheet.specs.Past.{Past}
use Rattle.chip_sheet.specs.Streams.{Starts}
use Rattle.chip_shared.specs.Tied.{Tied}
use Rattle.link_script.specs.Play.{shown}
use Rattle.link_script.specs.Links.{played_of}
use Rattle.link_script.specs.declared.script_links.ScriptLinks.{ScriptLinks}
use Rattle.avr_mcu.specs.State.{McuState}
use Rattle.board_file.specs.Boards.{Setup}
use Rattle.board_sim.specs.Boards.{Board}
use Rattle.board_sim.specs.Report.{last_behind, report_of}
use Rattle.board_sim.specs.Schedule.{Outcome, sched}
use Rattle.board_sim.specs.Seats.{Seat, seen}
use Rattle.board_sim.specs.Traced.{trace_text}
use Rattle.board_sim.specs.Playing.{Printed, printing}
use Rattle.board_sim.specs.Ends.{Leaves, StopsAtByte, StopsAtReport, StopsAtTrace, IsWhole, Holds, SimBy, TraceBy, Sims, TracesRun, outcome, report_text, sim_text, starts_of, fresh_board, traced}
use Rattle.board_sim.specs.Finishing.{IsLeft, RanTo, RanToByte, RanWhole, Reports, ReportsBehind}
use Rattle.board_sim.specs.declared.end.RunEnd.{RunEnd}
use Rattle.board_sim.specs.declared.end.RunEnd.TheVariants as ends
use Rattle.board_sim.specs.declared.end.SimEnd.{SimEnd}
use Rattle.board_sim.proofs.Ending.{by_kind, fault_memory}

-- A run, by its end.
ran_byte : (end : RunEnd) (cycles : ℕ) (image : List ℕ) (b : Board) (s : McuState) (left : Board) (old new : Printed) → end ≡ ends.WriteFault → RanTo end cycles image b s left old new
    → RanToByte cycles image b left old.written new.written
ran_byte end cycles image b s left old new is it = rw is at it

ran_front : (end : RunEnd) (cycles : ℕ) (image : List ℕ) (b : Board) (s : McuState) (left : Board) (old new : Printed) → end ≡ ends.NoMemory → RanTo end cycles image b s left old new
    → AppendsFront old.written (sched cycles image b).serial new.written
ran_front end cycles image b s left old new is it = rw is at it

ran_whole : (end : RunEnd) (cycles : ℕ) (image : List ℕ) (b : Board) (s : McuState) (left : Board) (old new : Printed) → (end ≡ ends.WriteFault → ⊥) → (end ≡ ends.NoMemory → ⊥)
    → RanTo end cycles image b s left old new → RanWhole (sched cycles image b) end s left old new
ran_whole ends.WriteFault cycles image b s left old new fault memory it = absurd (fault refl)
ran_whole ends.NoMemory cycles image b s left old new fault memory it = absurd (memory refl)
ran_whole end cycles image b s left old new fault memory it = it

-- What comes behind it, by its end.
pub behind_fault : (end : RunEnd) (text : List ℕ) (result : RunEnd) (old new : Option (List ℕ)) → end ≡ ends.WriteFault → ReportsBehind end text result old new
    → (result ≡ ends.WriteFault) × (new ≡ old)
behind_fault end text result old new is it = rw is at it

pub behind_none : (end : RunEnd) (text : List ℕ) (result : RunEnd) (old new : Option (List ℕ)) → end ≡ ends.NoMemory → ReportsBehind end text result old new
    → (result ≡ ends.NoMemory) × (new ≡ old)
behind_none end text result old new is it = rw is at it

pub behind_some : (end : RunEnd) (text : List ℕ) (result : RunEnd) (old new : Option (List ℕ)) → (end ≡ ends.WriteFault → ⊥) → (end ≡ ends.NoMemory → ⊥) → ReportsBehind end text result old new
    → Reports end text result old new
behind_some ends.WriteFault text result old new fault memory it = absurd (fault refl)
behind_some ends.NoMemory text result old new fault memory it = absurd (memory refl)
behind_some end text result old new fault memory it = it

some_behind : (end : RunEnd) (text : List ℕ) (result : RunEnd) (old new : Option (List ℕ)) → (end ≡ ends.WriteFault → ⊥) → (end ≡ ends.NoMemory → ⊥) → Reports end text result old new
    → ReportsBehind end text result old new
some_behind ends.WriteFault text result old new fault memory it = absurd (fault refl)
some_behind ends.NoMemory text result old new fault memory it = absurd (memory refl)
some_behind end text result old new fault memory it = it

-- A text behind a run, by the last end.
pub reports_fault : (end : RunEnd) (text : List ℕ) (result : RunEnd) (old new : Option (List ℕ)) → result ≡ ends.WriteFault → Reports end text result old new → AppendsFront old text new
reports_fault end text result old new is it = rw is at it

pub reports_none : (end : RunEnd) (text : List ℕ) (result : RunEnd) (old new : Option (List ℕ)) → result ≡ ends.NoMemory → Reports end text result old new → AppendsFront old text new
reports_none end text result old new is it = rw is at it

pub reports_whole : (end : RunEnd) (text : List ℕ) (result : RunEnd) (old new : Option (List ℕ)) → (result ≡ ends.WriteFault → ⊥) → (result ≡ ends.NoMemory → ⊥) → Reports end text result old new
    → (result ≡ end) × Appends old text new
reports_whole end text ends.WriteFault old new fault memory it = absurd (fault refl)
reports_whole end text ends.NoMemory old new fault memory it = absurd (memory refl)
reports_whole end text result old new fault memory it = it

pub whole_reports : (end : RunEnd) (text : List ℕ) (old new : Option (List ℕ)) → (end ≡ ends.WriteFault → ⊥) → Appends old text new → Reports end text end old new
whole_reports ends.WriteFault text old new fault it = absurd (fault refl)
whole_reports ends.NoMemory text old new fault it = subst (λ (t : List ℕ). AppendsFront old t new) (append-nil text) (front_first old new text [] it)
whole_reports end text old new fault it = (refl, it)

-- What was written of no text.
nothing_written : (text : List ℕ) (old new : Option (List ℕ)) → new ≡ old → AppendsFront old text new
nothing_written text old new same = subst (λ (x : Option (List ℕ)). AppendsFront old text x) (sym same) (front_first old old [] text (appends_none old))

-- The peers and the history that are left.
abbrev Kept : SimEnd → Outcome → Type 0
Kept r o = (kept : ScriptLinks) × ((r.links ≡ Some kept) × (played_of kept ≡ o.links))

kept_links : (seat : Seat) (s : McuState) (r : SimEnd) (o : Outcome) → IsLeft seat s r → (seen seat).links ≡ o.links → Kept r o
kept_links seat s r o left is = (seat.now.links, (left.links_are, is))

leaves_board : (past : Past) (links : Option ScriptLinks) (kept : ScriptLinks) (b : Board) → links ≡ Some kept → past ≡ b.past → played_of kept ≡ b.links → Leaves past links b
leaves_board past links kept b some is same = subst (λ (l : Option ScriptLinks). Leaves past l b) (sym some) (is, same)

-- Nothing comes behind a run that has no report.
pub none_behind : (end result : RunEnd) (text : List ℕ) (old new : Option (List ℕ)) → (end ≡ ends.WriteFault) ⊎ (end ≡ ends.NoMemory) → result ≡ end → new ≡ old
    → ReportsBehind end text result old new
none_behind end result text old new (inl fault) is same = rw fault (is ∙ fault, same)
none_behind end result text old new (inr none) is same = rw none (is ∙ none, same)

-- A report that was made comes behind it.
pub report_behind : (end by result : RunEnd) (starts : Starts) (p p' : Past) (last : Option ℕ) (cycles : ℕ) (trail : List ℕ) (old mid new : Option (List ℕ))
    → (end ≡ ends.WriteFault → ⊥) → (end ≡ ends.NoMemory → ⊥) → p' ≡ p → result ≡ by → new ≡ mid → Reports end (report_of starts p' last cycles trail end) by old mid
    → ReportsBehind end (report_of starts p last cycles trail end) result old new
report_behind end by result starts p p' last cycles trail old mid new fault none same is written it =
    some_behind end (report_of starts p last cycles trail end) result old new fault none
    (subst (λ (x : Option (List ℕ)). Reports end (report_of starts p last cycles trail end) result old x) (sym written)
    (subst (λ (x : RunEnd). Reports end (report_of starts p last cycles trail end) x old mid) (sym is)
    (subst (λ (x : Past). Reports end (report_of starts x last cycles trail end) by old mid) same it)))

-- Counts of faults.
pub still_rises : (P : Type 0) (n : ℕ) → (P → ⊥) → RisesOnly P n n
still_rises P n never = record { later = omega arith; rose = λ it. absurd (never it); still = λ other. refl }

pub same_rises : (P Q : Type 0) (before now : ℕ) → (P → Q) → (Q → P) → RisesOnly P before now → RisesOnly Q before now
same_rises P Q before now to from it = record { later = it.later; rose = λ q. it.rose (from q); still = λ other. it.still (λ p. other (to p)) }

pub none_rises : (end result : RunEnd) (before now : ℕ) → (end ≡ ends.WriteFault → ⊥) → result ≡ end → now ≡ before → RisesOnly (result ≡ ends.WriteFault) before now
none_rises end result before now other is same =
    subst (λ (n : ℕ). RisesOnly (result ≡ ends.WriteFault) before n) (sym same) (still_rises (result ≡ ends.WriteFault) before (λ fault. other (sym is ∙ fault)))

-- `sim`, by its end.
to_sim : (end : RunEnd) (image : List ℕ) (setup : Setup) (r : SimEnd) (old new : Option (List ℕ))
    → (end ≡ ends.WriteFault → StopsAtByte setup.cycles image (fresh_board setup) r.history.past r.links old new
    ⊎ StopsAtReport (outcome image setup) (report_text setup (outcome image setup)) r.history.past r.links old new)
    → (end ≡ ends.NoMemory → AppendsFront old (sim_text setup (outcome image setup)) new)
    → ((end ≡ ends.WriteFault → ⊥) → (end ≡ ends.NoMemory → ⊥) → IsWhole (outcome image setup) (sim_text setup (outcome image setup)) r old new)
    → SimBy end image setup r old new
to_sim ends.WriteFault image setup r old new fault memory other = fault refl
to_sim ends.NoMemory image setup r old new fault memory other = memory refl
to_sim end image setup r old new fault memory other = other (λ e. cc) (λ e. cc)

-- Its run stopped at a byte.
sim_byte : (image : List ℕ) (setup : Setup) (s : McuState) (seat : Seat) (r : SimEnd) (old mid new : Option (List ℕ)) → RanToByte setup.cycles image (fresh_board setup) (seen seat) old mid
    → IsLeft seat s r → r.end ≡ ends.WriteFault → new ≡ mid → SimBy r.end image setup r old new
sim_byte image setup s seat r old mid new ran left fault same =
    let here : RanToByte setup.cycles image (fresh_board setup) (seen seat) old new =
    subst (λ (x : Option (List ℕ)). RanToByte setup.cycles image (fresh_board setup) (seen seat) old x) (sym same) ran in
    to_sim r.end image setup r old new
    (λ is. inl (record {
      on = here.on;
      byte = here.byte;
      prints = here.prints;
      leaves = leaves_board r.history.past r.links seat.now.links _ left.links_are (left.past_is ∙ ap (λ (b : Board). b.past) here.stays) (ap (λ (b : Board). b.links) here.stays);
    }))
    (λ is. absurd (fault_memory r.end fault is))
    (λ not_fault not_none. absurd (not_fault fault))

-- Its run ended for want of memory.
sim_none : (image : List ℕ) (setup : Setup) (r : SimEnd) (old mid new : Option (List ℕ)) → AppendsFront old (outcome image setup).serial mid → r.end ≡ ends.NoMemory → new ≡ mid
    → SimBy r.end image setup r old new
sim_none image setup r old mid new ran none same =
    let o : Outcome = outcome image setup in
    let here : AppendsFront old o.serial new = subst (λ (x : Option (List ℕ)). AppendsFront old o.serial x) (sym same) ran in
    to_sim r.end image setup r old new
    (λ is. absurd (fault_memory r.end is none))
    (λ is. front_before old new o.serial (report_text setup o) here)
    (λ not_fault not_none. absurd (not_none none))

-- Its run is whole, and its report comes behind it.
pub report_same : (a a' : Starts) (p p' : Past) (l l' : Option ℕ) (c c' : ℕ) (t t' : List ℕ) (e e' : RunEnd) → a ≡ a' → p ≡ p' → l ≡ l' → c ≡ c' → t ≡ t' → e ≡ e'
    → report_of a p l c t e ≡ report_of a' p' l' c' t' e'
report_same a a' p p' l l' c c' t t' e e' h0 h1 h2 h3 h4 h5 = cc

sim_whole : (image : List ℕ) (setup : Setup) (end : RunEnd) (s : McuState) (seat : Seat) (last : Option ℕ) (r : SimEnd) (old mid new : Option (List ℕ))
    → RanWhole (outcome image setup) end s (seen seat) (printing old None) (printing mid last) → seat.now.starts ≡ starts_of setup → IsLeft seat s r
    → Reports end (report_of seat.now.starts seat.now.log.past last s.devices.cycles s.trail end) r.end mid new → SimBy r.end image setup r old new
sim_whole image setup end s seat last r old mid new ran from left it =
    let o : Outcome = outcome image setup in
    let text : List ℕ = report_of seat.now.starts seat.now.log.past last s.devices.cycles s.trail end in
    let is : text ≡ report_text setup o =
    report_same seat.now.starts (starts_of setup) seat.now.log.past o.past last (last_behind None o.serial) s.devices.cycles o.cycles s.trail o.trail end o.end
    from ran.leaves.past_is ran.prints.last ran.cycles_are ran.trail_is ran.leaves.end_is in
    let here : Reports end (report_text setup o) r.end mid new = subst (λ (t : List ℕ). Reports end t r.end mid new) is it in
    to_sim r.end image setup r old new
    (λ fault. inr (record {
      past_is = left.past_is ∙ ran.leaves.past_is;
      links_are = kept_links seat s r o left ran.leaves.links_are;
      text = mid;
      printed_all = ran.prints.wrote;
      wrote = reports_fault end (report_text setup o) r.end mid new fault here;
    }))
    (λ none. front_then old mid new o.serial (report_text setup o) ran.prints.wrote (reports_none end (report_text setup o) r.end mid new none here))
    (λ fault none.
    let whole = reports_whole end (report_text setup o) r.end mid new fault none here in
    record {
      end_is = whole.0 ∙ ran.leaves.end_is;
      past_is = left.past_is ∙ ran.leaves.past_is;
      links_are = kept_links seat s r o left ran.leaves.links_are;
      cycles_are = left.cycles_are ∙ ran.cycles_are;
      wrote = appends_then old mid new o.serial (report_text setup o) ran.prints.wrote whole.1;
    })

sim_by : (image : List ℕ) (setup : Setup) (end : RunEnd) (s : McuState) (seat : Seat) (last : Option ℕ) (r : SimEnd) (old mid new : Option (List ℕ))
    → RanTo end setup.cycles image (fresh_board setup) s (seen seat) (printing old None) (printing mid last) → seat.now.starts ≡ starts_of setup → IsLeft seat s r
    → ReportsBehind end (report_of seat.now.starts seat.now.log.past last s.devices.cycles s.trail end) r.end mid new → SimBy r.end image setup r old new
sim_by image setup end s seat last r old mid new ran from left it =
    let text : List ℕ = report_of seat.now.starts seat.now.log.past last s.devices.cycles s.trail end in
    by_kind (SimBy r.end image setup r old new) end
    (λ fault.
    let so = behind_fault end text r.end mid new fault it in
    sim_byte image setup s seat r old mid new (ran_byte end setup.cycles image (fresh_board setup) s (seen seat) (printing old None) (printing mid last) fault ran) left so.0 so.1)
    (λ none.
    let so = behind_none end text r.end mid new none it in
    sim_none image setup r old mid new (ran_front end setup.cycles image (fresh_board setup) s (seen seat) (printing old None) (printing mid last) none ran) so.0 so.1)
    (λ fault none.
    sim_whole image setup end s seat last r old mid new (ran_whole end setup.cycles image (fresh_board setup) s (seen seat) (printing old None) (printing mid last) fault none ran) from left
    (behind_some end text r.end mid new fault none it))

-- `trace`, by its end.
to_trace : (end : RunEnd) (image : List ℕ) (setup : Setup) (r : SimEnd) (old new : Option (List ℕ))
    → (end ≡ ends.WriteFault → StopsAtTrace (outcome image setup) (traced setup (outcome image setup)) r.history.past r.links old new)
    → (end ≡ ends.NoMemory → AppendsFront old (traced setup (outcome image setup)) new)
    → ((end ≡ ends.WriteFault → ⊥) → (end ≡ ends.NoMemory → ⊥) → IsWhole (outcome image setup) (traced setup (outcome image setup)) r old new)
    → TraceBy end image setup r old new
to_trace ends.WriteFault image setup r old new fault memory other = fault refl
to_trace ends.NoMemory image setup r old new fault memory other = memory refl
to_trace end image setup r old new fault memory other = other (λ e. cc) (λ e. cc)

trace_none : (image : List ℕ) (setup : Setup) (r : SimEnd) (old new : Option (List ℕ)) → r.end ≡ ends.NoMemory → new ≡ old → TraceBy r.end image setup r old new
trace_none image setup r old new none same =
    to_trace r.end image setup r old new
    (λ is. absurd (fault_memory r.end is none))
    (λ is. nothing_written (traced setup (outcome image setup)) old new same)
    (λ not_fault not_none. absurd (not_none none))

trace_whole : (image : List ℕ) (setup : Setup) (end : RunEnd) (s : McuState) (seat : Seat) (last : Option ℕ) (r : SimEnd) (old new : Option (List ℕ))
    → RanWhole (outcome image setup) end s (seen seat) (printing None None) (printing None last) → IsLeft seat s r
    → Reports end (trace_text (starts_of setup) r.history.past) r.end old new → TraceBy r.end image setup r old new
trace_whole image setup end s seat last r old new ran left it =
    let o : Outcome = outcome image setup in
    let here : Reports end (traced setup o) r.end old new =
    subst (λ (p : Past). Reports end (trace_text (starts_of setup) p) r.end old new) (left.past_is ∙ ran.leaves.past_is) it in
    to_trace r.end image setup r old new
    (λ fault. record {
      past_is = left.past_is ∙ ran.leaves.past_is;
      links_are = kept_links seat s r o left ran.leaves.links_are;
      wrote = reports_fault end (traced setup o) r.end old new fault here;
    })
    (λ none. reports_none end (traced setup o) r.end old new none here)
    (λ fault none.
    let whole = reports_whole end (traced setup o) r.end old new fault none here in
    record {
      end_is = whole.0 ∙ ran.leaves.end_is;
      past_is = left.past_is ∙ ran.leaves.past_is;
      links_are = kept_links seat s r o left ran.leaves.links_are;
      cycles_are = left.cycles_are ∙ ran.cycles_are;
      wrote = whole.1;
    })

trace_by : (image : List ℕ) (setup : Setup) (end : RunEnd) (s : McuState) (seat : Seat) (last : Option ℕ) (r : SimEnd) (old new : Option (List ℕ))
    → (end ≡ ends.WriteFault → ⊥) → RanTo end setup.cycles image (fresh_board setup) s (seen seat) (printing None None) (printing None last) → IsLeft seat s r
    → ReportsBehind end (trace_text (starts_of setup) r.history.past) r.end old new → TraceBy r.end image setup r old new
trace_by image setup end s seat last r old new sound ran left it =
    let text : List ℕ = trace_text (starts_of setup) r.history.past in
    by_kind (TraceBy r.end image setup r old new) end
    (λ fault. absurd (sound fault))
    (λ none. let so = behind_none end text r.end old new none it in trace_none image setup r old new so.0 so.1)
    (λ fault none.
    trace_whole image setup end s seat last r old new (ran_whole end setup.cycles image (fresh_board setup) s (seen seat) (printing None None) (printing None last) fault none ran) left
    (behind_some end text r.end old new fault none it))

-- What always holds.
some_tied : (links : Option ScriptLinks) (kept : ScriptLinks) (starts : Starts) (past : Past) → links ≡ Some kept → Tied starts past (shown (played_of kept))
    → IfSome links (λ l. Tied starts past (shown (played_of l)))
some_tied links kept starts past some it = subst (λ (x : Option ScriptLinks). IfSome x (λ l. Tied starts past (shown (played_of l)))) (sym some) it

some_made : (links : Option ScriptLinks) (kept : ScriptLinks) (P : Type 0) → links ≡ Some kept → links ≡ None → P
some_made links kept P some none = let h = sym some ∙ none in cc

left_holds : (setup : Setup) (s : McuState) (seat : Seat) (r : SimEnd) (before after : ℕ) → seat.now.starts ≡ starts_of setup → IsLeft seat s r → RisesOnly (r.end ≡ ends.WriteFault) before after
    → Holds setup r before after
left_holds setup s seat r before after from left causes = record {
  legal = subst (λ (x : Starts). Legal x r.history.past) from (subst (Legal seat.now.starts) (sym left.past_is) left.legal);
  tied = some_tied r.links seat.now.links (starts_of setup) r.history.past left.links_are
      (subst (λ (x : Starts). Tied x r.history.past (shown (played_of seat.now.links))) from
      (subst (λ (p : Past). Tied seat.now.starts p (shown (played_of seat.now.links))) (sym left.past_is) left.tied));
  made = some_made r.links seat.now.links (r.end ≡ ends.NoMemory) left.links_are;
  causes = causes;
}

-- The count of faults, behind the run and behind its report.
pub both_causes : (end result : RunEnd) (text : List ℕ) (before mid after : ℕ) (old new : Option (List ℕ)) → RisesOnly (end ≡ ends.WriteFault) before mid
    → ((end ≡ ends.WriteFault → ⊥) → RisesOnly (result ≡ ends.WriteFault) mid after) → (end ≡ ends.WriteFault → after ≡ mid) → ReportsBehind end text result old new
    → RisesOnly (result ≡ ends.WriteFault) before after
both_causes end result text before mid after old new first second stays it =
    let more : (end ≡ ends.WriteFault → ⊥) → RisesOnly (result ≡ ends.WriteFault) before after = λ other.
    subst (λ (n : ℕ). RisesOnly (result ≡ ends.WriteFault) n after) (first.still other) (second other) in
    by_kind (RisesOnly (result ≡ ends.WriteFault) before after) end
    (λ fault. subst (λ (n : ℕ). RisesOnly (result ≡ ends.WriteFault) before n) (sym (stays fault)) (record {
      later = first.later;
      rose = λ same. first.rose fault;
      still = λ other. absurd (other (behind_fault end text result old new fault it).0);
    }))
    (λ none. more (λ fault. fault_memory end fault none))
    (λ other none. more other)

-- The calls.
pub begun : (end : RunEnd) (setup : Setup) (image : List ℕ) (cycles : ℕ) (b : Board) (last : Option ℕ) (s : McuState) (left : Board) (old : Option (List ℕ)) (new : Printed)
    → cycles ≡ setup.cycles → b ≡ fresh_board setup → last ≡ None → RanTo end cycles image b s left (printing old last) new
    → RanTo end setup.cycles image (fresh_board setup) s left (printing old None) new
begun end setup image cycles b last s left old new same fresh none ran =
    subst (λ (l : Option ℕ). RanTo end setup.cycles image (fresh_board setup) s left (printing old l) new) none
    (subst (λ (x : Board). RanTo end setup.cycles image x s left (printing old last) new) fresh
    (subst (λ (n : ℕ). RanTo end n image b s left (printing old last) new) same ran))

pub sim_left : (image : List ℕ) (setup : Setup) (end : RunEnd) (s : McuState) (seat : Seat) (last : Option ℕ) (r : SimEnd) (old mid new : Option (List ℕ)) (before between after : ℕ)
    → RanTo end setup.cycles image (fresh_board setup) s (seen seat) (printing old None) (printing mid last) → seat.now.starts ≡ starts_of setup → IsLeft seat s r
    → ReportsBehind end (report_of seat.now.starts seat.now.log.past last s.devices.cycles s.trail end) r.end mid new
    → RisesOnly (end ≡ ends.WriteFault) before between → ((end ≡ ends.WriteFault → ⊥) → RisesOnly (r.end ≡ ends.WriteFault) between after) → (end ≡ ends.WriteFault → after ≡ between)
    → Sims image setup r old new before after
sim_left image setup end s seat last r old mid new before between after ran from left it first second stays =
    let text : List ℕ = report_of seat.now.starts seat.now.log.past last s.devices.cycles s.trail end in
    record {
      by = sim_by image setup end s seat last r old mid new ran from left it;
      holds = left_holds setup s seat r before after from left (both_causes end r.end text before between after mid new first second stays it);
    }

trace_left : (image : List ℕ) (setup : Setup) (end : RunEnd) (s : McuState) (seat : Seat) (last : Option ℕ) (r : SimEnd) (old new : Option (List ℕ)) (before after : ℕ)
    → (end ≡ ends.WriteFault → ⊥) → RanTo end setup.cycles image (fresh_board setup) s (seen seat) (printing None None) (printing None last) → seat.now.starts ≡ starts_of setup
    → IsLeft seat s r → ReportsBehind end (trace_text (starts_of setup) r.history.past) r.end old new → RisesOnly (r.end ≡ ends.WriteFault) before after
    → TracesRun image setup r old new before after
trace_left image setup end s seat last r old new before after sound ran from left it causes = record {
  by = trace_by image setup end s seat last r old new sound ran left it;
  holds = left_holds setup s seat r before after from left causes;
}

-- No memory for the part or the board.
none_holds : (setup : Setup) (r : SimEnd) (n : ℕ) → r.history.past ≡ [] → r.links ≡ None → r.end ≡ ends.NoMemory → Holds setup r n n
none_holds setup r n is none end = record {
  legal = subst (Legal (starts_of setup)) (sym is) tt;
  tied = subst (λ (x : Option ScriptLinks). IfSome x (λ l. Tied (starts_of setup) r.history.past (shown (played_of l)))) (sym none) tt;
  made = λ same. end;
  causes = still_rises (r.end ≡ ends.WriteFault) n (λ fault. fault_memory r.end fault end);
}

pub sim_unmade : (image : List ℕ) (setup : Setup) (r : SimEnd) (old : Option (List ℕ)) (n : ℕ) → r.history.past ≡ [] → r.links ≡ None → r.end ≡ ends.NoMemory → Sims image setup r old old n n
sim_unmade image setup r old n is none end = record {
  by = sim_none image setup r old old old (nothing_written (outcome image setup).serial old old refl) end refl;
  holds = none_holds setup r n is none end;
}

pub trace_unmade : (image : List ℕ) (setup : Setup) (r : SimEnd) (old : Option (List ℕ)) (n : ℕ) → r.history.past ≡ [] → r.links ≡ None → r.end ≡ ends.NoMemory → TracesRun image setup r old old n n
trace_unmade image setup r old n is none end = record {
  by = trace_none image setup r old old end refl;
  holds = none_holds setup r n is none end;
}

-- A run whose bytes nobody sees: no write of it fails.
never_rises : (P : Type 0) → RisesOnly P 0 0 → P → ⊥
never_rises P it p = let rose = it.rose p in absurd (omega (arith, rose))

left_with : (seat : Seat) (s : McuState) (r : SimEnd) (end : RunEnd) → IsLeft seat s r → IsLeft seat s (record r { end = end })
left_with seat s r end it = record { past_is = it.past_is; links_are = it.links_are; cycles_are = it.cycles_are; legal = it.legal; tied = it.tied }

pub trace_ends : (image : List ℕ) (setup : Setup) (end : RunEnd) (s : McuState) (seat : Seat) (last : Option ℕ) (r : SimEnd) (by : RunEnd) (starts : Starts) (old new : Option (List ℕ))
    (before after : ℕ) → RisesOnly (end ≡ ends.WriteFault) 0 0 → RanTo end setup.cycles image (fresh_board setup) s (seen seat) (printing None None) (printing None last)
    → seat.now.starts ≡ starts_of setup → starts ≡ starts_of setup → IsLeft seat s r → r.end ≡ end → ReportsBehind r.end (trace_text starts r.history.past) by old new
    → RisesOnly (by ≡ ends.WriteFault) before after → TracesRun image setup (record r { end = by }) old new before after
trace_ends image setup end s seat last r by starts old new before after sound ran from same left is it causes =
    trace_left image setup end s seat last (record r { end = by }) old new before after (never_rises (end ≡ ends.WriteFault) sound) ran from (left_with seat s r by left)
    (subst (λ (e : RunEnd). ReportsBehind e (trace_text (starts_of setup) r.history.past) by old new) is
    (subst (λ (x : Starts). ReportsBehind r.end (trace_text x r.history.past) by old new) same it)) causes
