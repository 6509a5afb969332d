-- Where nothing of the outside fails, a command ends as its words, the files and the firmware say.
use Rattle.std.proofs.Common.{◌≡◌, ◌≢◌, ◌≤◌, ◌<◌, ◌⊎◌, ℕ, Bool, true, false, List, length, Option, None, Some, IfSome, IfOk, IsSomeAnd, Result, Ok, Err, refl, sym, ap, ◌∙◌, subst, inl, inr, nat_le, if◌then◌else◌, arith}
use Rattle.chip_sheet.specs.Past.{Past}
use Rattle.link_trait.specs.Shown.{Shown}
use Rattle.link_script.specs.declared.script_links.ScriptLinks.{ScriptLinks}
use Rattle.wz_base.specs.Outside.{Rose, RisesOnly}
use Rattle.wz_base.specs.declared.reading.ReadError.{ReadError}
use Rattle.wz_base.specs.declared.reading.ReadError.TheVariants as errors
use Rattle.avr_mcu.specs.declared.run.RunEnd as firmware
use Rattle.avr_mcu.specs.declared.run.RunEnd.TheVariants as firmwares
use Rattle.board_file.specs.Boards.{Setup}
use Rattle.board_sim.specs.Schedule as schedule
use Rattle.board_sim.specs.Ends.{outcome}
use Rattle.board_sim.specs.declared.end.RunEnd.{RunEnd}
use Rattle.board_sim.specs.declared.end.RunEnd.TheVariants as runs
use Rattle.board_run.specs.Lives.{firmware_run, ComesBy, LivesBy}
use Rattle.board_quick.specs.declared.end.EndKind.{EndKind}
use Rattle.board_quick.specs.declared.end.EndKind.TheVariants.{WriteFault, NoMemory}
use Rattle.board_quick.specs.declared.end.QuickEnd.{QuickEnd}
use Rattle.board_top.specs.declared.end.TopEnd.{TopEnd}
use Rattle.board_quick.specs.declared.loading.LoadError.{LoadError}
use Rattle.board_quick.specs.declared.loading.LoadError.TheVariants as loads
use Rattle.board_quick.specs.declared.reading.TheConstants.{TEXT_LIMIT}
use Rattle.board_quick.specs.declared.words.BoardCommand.{BoardCommand}
use Rattle.board_quick.specs.declared.words.BoardCommand.TheVariants as boards
use Rattle.board_quick.specs.declared.words.TextCommand.{TextCommand}
use Rattle.board_quick.specs.Words.{Asked, Run, OnText, OnBoard, Gen, Help}
use Rattle.board_quick.specs.Reads.{Counts, Gave, Reading, WasRead}
use Rattle.board_quick.specs.Loads.{both_of, unread, ReadsBoth}
use Rattle.board_quick.specs.Runs.{end_of_run, ShowsRun}
use Rattle.board_quick.specs.Outcome.{Outcome, Ran, RanBoard, RanBoth, RanText, RanUnloaded, Reports, Shows}
use Rattle.board_top.specs.Tops.{EndsUnloaded, RanLive, ReportsElse, ReportsRun, ReportsTop, RunsLoaded}
use Rattle.board_top.specs.Complete.{board_end, both_end, read_of, text_end, unloaded_end, Completes, LiveEnds, RunEnds}
use Rattle.board_quick.proofs.Causes.{rose_since}
use Rattle.board_quick.proofs.Scheduled.{failed_run}

-- memory ran out, or the end is this
abbrev EndsAs : EndKind → EndKind → Type 0
EndsAs end is = (end ≡ NoMemory) ⊎ (end ≡ is)

-- what is read of a text within the limit, and of one beyond
within : (text : List ℕ) → length text ≤ TEXT_LIMIT → Ok text ≡ read_of (Some text)
within text fits = grind (arith, fits)

beyond : (text : List ℕ) → TEXT_LIMIT < length text → Err errors.TooLong ≡ read_of (Some text)
beyond text over = grind (arith, over)

-- memory ran out at a read, or it gave what is held
abbrev Sure : Reading → Option (List ℕ) → Type 0
Sure reading held = (reading ≡ Err errors.NoMemory) ⊎ (reading ≡ read_of held)

reads_sure : (held : Option (List ℕ)) (reading : Reading) → Gave held reading → IfOk reading (λ text. length text ≤ TEXT_LIMIT) → reading ≢ Err errors.ReadFault → Sure reading held
reads_sure held (Ok text) gave fits sure = inr (subst (λ (h : Option (List ℕ)). Ok text ≡ read_of h) (sym gave) (within text fits))
reads_sure held (Err errors.NoFile) gave fits sure = inr (subst (λ (h : Option (List ℕ)). Err errors.NoFile ≡ read_of h) (sym gave) refl)
reads_sure held (Err errors.ReadFault) gave fits sure = absurd (sure refl)
reads_sure None (Err errors.TooLong) gave fits sure = absurd gave
reads_sure (Some text) (Err errors.TooLong) gave fits sure = inr (beyond text gave)
reads_sure held (Err errors.NoMemory) gave fits sure = inl refl

told_sure : (files : Option (List ℕ → Option (List ℕ))) (held : List ℕ → Option (List ℕ)) (name : List ℕ) (before after : Counts) (reading : Reading) → files ≡ Some held
    → WasRead files name before after reading → (Rose before.faults after.faults → ⊥) → Sure reading (held name)
told_sure files held name before after reading told it sure =
    reads_sure (held name) reading (subst (λ (f : Option (List ℕ → Option (List ℕ))). IfSome f (λ h. Gave (h name) reading)) told it.may) it.fits (λ is. sure (it.failed.rose is))

-- what two operands come to
both_behind : (two : Option (List ℕ)) (text : List ℕ) (second one : Reading) → Ok text ≡ one → Sure second two
    → (both_of (Ok text) second ≡ Err loads.NoMemory) ⊎ (both_of (Ok text) second ≡ both_of one (read_of two))
both_behind two text second one same (inl none) = inl (ap (both_of (Ok text)) none)
both_behind two text second one same (inr is) = inr (subst (λ (r : Reading). both_of (Ok text) second ≡ both_of r (read_of two)) same (ap (both_of (Ok text)) is))

both_sure : (one two : Option (List ℕ)) (first second : Reading) → Sure first one → ((text : List ℕ) → first ≡ Ok text → Sure second two)
    → (both_of first second ≡ Err loads.NoMemory) ⊎ (both_of first second ≡ both_of (read_of one) (read_of two))
both_sure one two first second (inl none) more = inl (ap (λ f. both_of f second) none)
both_sure one two (Err e) second (inr same) more = inr (subst (λ (r : Reading). both_of (Err e) second ≡ both_of r (read_of two)) same refl)
both_sure one two (Ok text) second (inr same) more = both_behind two text second (read_of one) same (more text refl)

rose_before : (a b c : ℕ) → Rose a b → b ≤ c → Rose a c
rose_before a b c rose less = omega (arith, rose, less)

both_read : (files : Option (List ℕ → Option (List ℕ))) (held : List ℕ → Option (List ℕ)) (before after : Counts) (image board : List ℕ) (first second : Reading) → files ≡ Some held
    → ReadsBoth files before after image board first second → (Rose before.faults after.faults → ⊥)
    → (both_of first second ≡ Err loads.NoMemory) ⊎ (both_of first second ≡ both_of (read_of (held image)) (read_of (held board)))
both_read files held before after image board (Ok text) second told it sure =
    both_sure (held image) (held board) (Ok text) second
    (told_sure files held image before it.between (Ok text) told it.read_first (λ rose. sure (rose_before before.faults it.between.faults after.faults rose it.read_second.failed.later)))
    (λ text' is. told_sure files held board it.between after second told it.read_second (λ rose. sure (rose_since before.faults it.between.faults after.faults it.read_first.failed.later rose)))
both_read files held before after image board (Err e) second told it sure =
    both_sure (held image) (held board) (Err e) second
    (told_sure files held image before it.between (Err e) told it.read_first (λ rose. sure (rw it.read_second rose)))
    (λ text is. cc)

-- a command without a run
shows_as : (o : Outcome) (end : EndKind) (past : Past) (old new : Option (List ℕ)) → Shows o end past old new → end ≢ WriteFault → EndsAs end o.end
shows_as o WriteFault past old new it whole = absurd (whole refl)
shows_as o NoMemory past old new it whole = inl refl
shows_as o end past old new it whole = inr it.0

ran_as : (o : Outcome) (r : QuickEnd) (old new : Option (List ℕ)) (faults faults' : ℕ) → Ran o r old new faults faults' → r.end ≢ WriteFault → EndsAs r.end o.end
ran_as o r old new faults faults' ran whole = shows_as o r.end r.history.past old new ran.shows whole

-- a scripted run
run_as : (cut : Type 0) (o : schedule.Outcome) (text : List ℕ) (end : EndKind) (past : Past) (script : Option ScriptLinks) (old new : Option (List ℕ)) → ShowsRun cut o text end past script old new
    → end ≢ WriteFault → EndsAs end (end_of_run o.end)
run_as cut o text WriteFault past script old new it whole = absurd (whole refl)
run_as cut o text NoMemory past script old new it whole = inl refl
run_as cut o text end past script old new it whole = inr it.end_is

unloaded_as : (error : LoadError) (r : QuickEnd) (old new : Option (List ℕ)) (faults faults' : ℕ) → RanUnloaded error r old new faults faults' → r.end ≢ WriteFault → EndsAs r.end (unloaded_end error)
unloaded_as (loads.Refused refusal) r old new faults faults' ran whole = ran_as _ r old new faults faults' ran whole
unloaded_as loads.NoMemory r old new faults faults' ran whole = inl ran.end

both_as : (what : BoardCommand) (image : List ℕ) (setup : Setup) (r : QuickEnd) (old new : Option (List ℕ)) (faults faults' : ℕ) → RanBoth what image setup r old new faults faults' → r.end ≢ WriteFault
    → EndsAs r.end (both_end what image setup)
both_as boards.Sim image setup r old new faults faults' ran whole = run_as _ _ _ r.end _ _ old new ran.shows whole
both_as boards.Trace image setup r old new faults faults' ran whole = run_as _ _ _ r.end _ _ old new ran.shows whole
both_as boards.Check image setup r old new faults faults' ran whole = ran_as _ r old new faults faults' ran whole

board_as : (what : BoardCommand) (loaded : Result (List ℕ × Setup) LoadError) (r : QuickEnd) (old new : Option (List ℕ)) (faults faults' : ℕ) → RanBoard what loaded r old new faults faults'
    → r.end ≢ WriteFault → EndsAs r.end (board_end what loaded)
board_as what (Ok both) r old new faults faults' ran whole = both_as what both.0 both.1 r old new faults faults' ran whole
board_as what (Err error) r old new faults faults' ran whole = unloaded_as error r old new faults faults' ran whole

text_as : (what : TextCommand) (reading : Reading) (r : QuickEnd) (old new : Option (List ℕ)) (faults faults' : ℕ) → RanText what reading r old new faults faults' → r.end ≢ WriteFault
    → EndsAs r.end (text_end what reading)
text_as what (Ok text) r old new faults faults' ran whole = ran_as _ r old new faults faults' ran whole
text_as what (Err e) r old new faults faults' ran whole = unloaded_as (unread 1 e) r old new faults faults' ran whole

no_memory : (end : EndKind) → EndsAs end NoMemory → end ≡ NoMemory
no_memory end (inl is) = is
no_memory end (inr is) = is

text_sure : (what : TextCommand) (held : Option (List ℕ)) (reading : Reading) (end : EndKind) → Sure reading held → EndsAs end (text_end what reading) → EndsAs end (text_end what (read_of held))
text_sure what held reading end (inl none) ends = inl (no_memory end (subst (λ (r : Reading). EndsAs end (text_end what r)) none ends))
text_sure what held reading end (inr same) ends = subst (λ (r : Reading). EndsAs end (text_end what r)) same ends

board_sure : (what : BoardCommand) (loaded held : Result (List ℕ × Setup) LoadError) (end : EndKind) → (loaded ≡ Err loads.NoMemory) ⊎ (loaded ≡ held) → EndsAs end (board_end what loaded)
    → EndsAs end (board_end what held)
board_sure what loaded held end (inl none) ends = inl (no_memory end (subst (λ (l : Result (List ℕ × Setup) LoadError). EndsAs end (board_end what l)) none ends))
board_sure what loaded held end (inr same) ends = subst (λ (l : Result (List ℕ × Setup) LoadError). EndsAs end (board_end what l)) same ends

-- the words of no live run
reports_end : (files : Option (List ℕ → Option (List ℕ))) (held : List ℕ → Option (List ℕ)) (before after : Counts) (form : Option Asked) (r : QuickEnd) (past : Past) (old new : Option (List ℕ)) (faults faults' : ℕ)
    → files ≡ Some held → Reports files before after form r old new faults faults' → (Rose before.faults after.faults → ⊥) → r.end ≢ WriteFault → (r.end ≡ NoMemory) ⊎ Completes held form past r.end
reports_end files held before after None r past old new faults faults' told it sure whole = ran_as _ r old new faults faults' it.ran whole
reports_end files held before after (Some Help) r past old new faults faults' told it sure whole = ran_as _ r old new faults faults' it.ran whole
reports_end files held before after (Some (Gen number)) r past old new faults faults' told it sure whole = run_as _ _ _ r.end _ _ old new it.ran.shows whole
reports_end files held before after (Some (Run image board)) r past old new faults faults' told it sure whole = absurd it
reports_end files held before after (Some (OnText what name)) r past old new faults faults' told it sure whole =
    text_sure what (held name) it.reading r.end (told_sure files held name before after it.reading told it.read sure) (text_as what it.reading r old new faults faults' it.ran whole)
reports_end files held before after (Some (OnBoard what image board)) r past old new faults faults' told it sure whole =
    board_sure what _ _ r.end (both_read files held before after image board it.first it.second told it.reads sure) (board_as what _ r old new faults faults' it.ran whole)

-- a live run, by why it ended
live_end : (e : RunEnd) (setup : Setup) (past : Past) (end : firmware.RunEnd) (before now : ℕ) → ComesBy e setup past end before now → (Rose before now → ⊥) → LiveEnds end setup past (end_of_run e)
live_end runs.Break setup past end before now it sure = rw it refl
live_end runs.Sleep setup past end before now it sure = rw it refl
live_end runs.CycleLimit setup past end before now it sure = rw it refl
live_end (runs.Avr why) setup past end before now it sure = rw it refl
live_end (runs.Chip why) setup past end before now it sure = rw it.1.0 (inl (why, (refl, it.1.1)))
live_end runs.TraceFull setup past end before now it sure = rw it.1.0 (inr (refl, it.1.1))
live_end runs.PollFault setup past end before now it sure = absurd (sure it.1.1)
live_end runs.WriteFault setup past end before now it sure = absurd it
live_end runs.NoMemory setup past end before now it sure = absurd it

lives_end : (e : RunEnd) (image : List ℕ) (setup : Setup) (before : ℕ) (past : Past) (links : Shown) (faults cycles : ℕ) (old new : Option (List ℕ))
    → LivesBy e image setup before (record { past = past; links = links; faults = faults; cycles = cycles; end = e }) old new → end_of_run e ≢ WriteFault → (Rose before faults → ⊥)
    → (end_of_run e ≡ NoMemory) ⊎ LiveEnds (firmware_run image setup past).end setup past (end_of_run e)
lives_end runs.WriteFault image setup before past links faults cycles old new by whole sure = absurd (whole refl)
lives_end runs.NoMemory image setup before past links faults cycles old new by whole sure = inl refl
lives_end e image setup before past links faults cycles old new by whole sure = inr (live_end e setup past _ before faults by.comes sure)

-- the end of a run, by what its operands come to
abbrev RunsTo : Result (List ℕ × Setup) LoadError → Past → EndKind → Type 0
RunsTo loaded past end = (end ≡ NoMemory) ⊎ RunEnds loaded past end

ran_to : {L P : Type 0} (shown : L → Shown) (failed : P → ℕ) (both : List ℕ × Setup) (poller : P) (r : TopEnd L P) (old new : Option (List ℕ)) (faults faults' : ℕ)
    → RanLive shown failed both.0 both.1 poller r old new faults faults' → r.end ≢ WriteFault → (Rose (failed poller) (failed r.poller) → ⊥) → RunsTo (Ok both) r.history.past r.end
ran_to shown failed both poller r old new faults faults' it whole sure =
    rw it.end_is (lives_end it.end both.0 both.1 (failed poller) r.history.past (shown r.links) (failed r.poller) it.cycles old new it.lives.by (λ is. whole (it.end_is ∙ is)) sure)

unloaded_to : {L P : Type 0} (error : LoadError) (links : L) (poller : P) (r : TopEnd L P) (old new : Option (List ℕ)) (faults faults' : ℕ) → EndsUnloaded error links poller r old new faults faults'
    → r.end ≢ WriteFault → EndsAs r.end (unloaded_end error)
unloaded_to error links poller r old new faults faults' it whole =
    rw it.beside.end_is (unloaded_as error it.left old new faults faults' it.ran (λ is. whole (it.beside.end_is ∙ is)))

loaded_to : {L P : Type 0} (shown : L → Shown) (failed : P → ℕ) (loaded : Result (List ℕ × Setup) LoadError) (links : L) (poller : P) (r : TopEnd L P) (old new : Option (List ℕ)) (faults faults' : ℕ)
    → RunsLoaded shown failed loaded links poller r old new faults faults' → r.end ≢ WriteFault → (Rose (failed poller) (failed r.poller) → ⊥) → RunsTo loaded r.history.past r.end
loaded_to shown failed (Ok both) links poller r old new faults faults' (inl ran) whole sure = ran_to shown failed both poller r old new faults faults' ran whole sure
loaded_to shown failed (Ok both) links poller r old new faults faults' (inr none) whole sure =
    inl (no_memory r.end (unloaded_to loads.NoMemory links poller r old new faults faults' none whole))
loaded_to shown failed (Err error) links poller r old new faults faults' ran whole sure = unloaded_to error links poller r old new faults faults' ran whole

run_sure : (loaded held : Result (List ℕ × Setup) LoadError) (past : Past) (end : EndKind) → (loaded ≡ Err loads.NoMemory) ⊎ (loaded ≡ held) → RunsTo loaded past end → RunsTo held past end
run_sure loaded held past end (inl none) to = inl (no_memory end (subst (λ (l : Result (List ℕ × Setup) LoadError). RunsTo l past end) none to))
run_sure loaded held past end (inr same) to = subst (λ (l : Result (List ℕ × Setup) LoadError). RunsTo l past end) same to

else_end : {L P : Type 0} (files : Option (List ℕ → Option (List ℕ))) (held : List ℕ → Option (List ℕ)) (before after : Counts) (form : Option Asked) (links : L) (poller : P) (r : TopEnd L P)
    → (old new : Option (List ℕ)) (faults faults' : ℕ) → files ≡ Some held → ReportsElse files before after form links poller r old new faults faults' → (Rose before.faults after.faults → ⊥)
    → r.end ≢ WriteFault → (r.end ≡ NoMemory) ⊎ Completes held form r.history.past r.end
else_end files held before after form links poller r old new faults faults' told it sure whole =
    rw it.beside.end_is (reports_end files held before after form it.left r.history.past old new faults faults' told it.reports sure (λ is. whole (it.beside.end_is ∙ is)))

pub completed : {L P : Type 0} (shown : L → Shown) (failed : P → ℕ) (files : Option (List ℕ → Option (List ℕ))) (held : List ℕ → Option (List ℕ)) (before after : Counts) (form : Option Asked) (links : L) (poller : P)
    → (r : TopEnd L P) (old new : Option (List ℕ)) (faults faults' : ℕ) → files ≡ Some held → ReportsTop shown failed files before after form links poller r old new faults faults'
    → (Rose before.faults after.faults → ⊥) → r.end ≢ WriteFault → (Rose (failed poller) (failed r.poller) → ⊥) → (r.end ≡ NoMemory) ⊎ Completes held form r.history.past r.end
completed shown failed files held before after (Some (Run image board)) links poller r old new faults faults' told it sure whole waits =
    run_sure _ _ r.history.past r.end (both_read files held before after image board it.first it.second told it.reads sure)
    (loaded_to shown failed _ links poller r old new faults faults' it.ran whole waits)
completed shown failed files held before after None links poller r old new faults faults' told it sure whole waits =
    else_end files held before after None links poller r old new faults faults' told it sure whole
completed shown failed files held before after (Some (OnText what name)) links poller r old new faults faults' told it sure whole waits =
    else_end files held before after (Some (OnText what name)) links poller r old new faults faults' told it sure whole
completed shown failed files held before after (Some (OnBoard what image board)) links poller r old new faults faults' told it sure whole waits =
    else_end files held before after (Some (OnBoard what image board)) links poller r old new faults faults' told it sure whole
completed shown failed files held before after (Some (Gen number)) links poller r old new faults faults' told it sure whole waits =
    else_end files held before after (Some (Gen number)) links poller r old new faults faults' told it sure whole
completed shown failed files held before after (Some Help) links poller r old new faults faults' told it sure whole waits =
    else_end files held before after (Some Help) links poller r old new faults faults' told it sure whole
