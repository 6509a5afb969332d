-- What `top` leaves: what `quick` does, with links and poller as they were, or a live run.
use Rattle.std.specs.Prelude.{◌≡◌, ◌⊎◌, ℕ, List, Option, None, Some, Result, Ok, Err}
use Rattle.link_trait.specs.Shown.{Shown}
use Rattle.board_file.specs.Boards.{Setup}
use Rattle.board_sim.specs.declared.end.RunEnd.{RunEnd}
use Rattle.board_run.specs.Lives.{Lives}
use Rattle.board_quick.specs.declared.end.QuickEnd.{QuickEnd}
use Rattle.board_top.specs.declared.end.TopEnd.{TopEnd}
use Rattle.board_quick.specs.declared.loading.LoadError.{LoadError}
use Rattle.board_quick.specs.declared.loading.LoadError.TheVariants.{NoMemory}
use Rattle.board_quick.specs.Words.{Asked, Run}
use Rattle.board_quick.specs.Reads.{Counts, Reading}
use Rattle.board_quick.specs.Loads.{both_of, ReadsBoth}
use Rattle.board_quick.specs.Runs.{end_of_run}
use Rattle.board_quick.specs.Outcome.{RanUnloaded, Reports}

-- No live run began: links and poller are as they were, and all else is this.
pub record IsBeside {L P : Type 0} (left : QuickEnd) (links : L) (poller : P) (r : TopEnd L P) : Type 0 where
  pub end_is : r.end ≡ left.end
  pub history_is : r.history ≡ left.history
  pub script_is : r.script ≡ left.script
  pub links_are : r.links ≡ links
  pub poller_is : r.poller ≡ poller

-- A live run of an image on a board, over links that show this and a poller of which so many waits have failed: its history, links and
-- poller are what `Lives` says, its end has the same name, and it has no scripted peers.
pub record RanLive {L P : Type 0} (shown : L → Shown) (failed : P → ℕ) (image : List ℕ) (setup : Setup) (poller : P) (r : TopEnd L P)
    (old new : Option (List ℕ)) (faults faults_now : ℕ) : Type 0 where
  pub end : RunEnd
  pub cycles : ℕ
  pub lives : Lives image setup (failed poller) (record { past = r.history.past; links = shown r.links; faults = failed r.poller; cycles = cycles; end = end }) old new faults faults_now
  pub end_is : r.end ≡ end_of_run end
  pub script_is : r.script ≡ None

-- A `run` that ended before any live run, since its operands were not loaded.
pub record EndsUnloaded {L P : Type 0} (error : LoadError) (links : L) (poller : P) (r : TopEnd L P) (old new : Option (List ℕ)) (faults faults_now : ℕ) : Type 0 where
  pub left : QuickEnd
  pub ran : RanUnloaded error left old new faults faults_now
  pub beside : IsBeside left links poller r

-- What a `run` leaves, by what its operands come to: a live run, before which memory may run out, or what they are refused for.
abbrev pub RunsLoaded : {L P : Type 0} → (L → Shown) → (P → ℕ) → Result (List ℕ × Setup) LoadError → L → P → TopEnd L P → Option (List ℕ) → Option (List ℕ) → ℕ → ℕ → Type 0
RunsLoaded shown failed (Ok both) links poller r old new faults faults_now =
    RanLive shown failed both.0 both.1 poller r old new faults faults_now ⊎ EndsUnloaded NoMemory links poller r old new faults faults_now
RunsLoaded shown failed (Err error) links poller r old new faults faults_now = EndsUnloaded error links poller r old new faults faults_now

-- A `run` of an image and a board, by the names of their files, over files whose counts were these before and after.
pub record ReportsRun {L P : Type 0} (shown : L → Shown) (failed : P → ℕ) (files : Option (List ℕ → Option (List ℕ))) (before after : Counts) (image board : List ℕ)
    (links : L) (poller : P) (r : TopEnd L P) (old new : Option (List ℕ)) (faults faults_now : ℕ) : Type 0 where
  pub first : Reading
  pub second : Reading
  pub reads : ReadsBoth files before after image board first second
  pub ran : RunsLoaded shown failed (both_of first second) links poller r old new faults faults_now

-- Words that are no live run: what `quick` leaves.
pub record ReportsElse {L P : Type 0} (files : Option (List ℕ → Option (List ℕ))) (before after : Counts) (form : Option Asked)
    (links : L) (poller : P) (r : TopEnd L P) (old new : Option (List ℕ)) (faults faults_now : ℕ) : Type 0 where
  pub left : QuickEnd
  pub reports : Reports files before after form left old new faults faults_now
  pub beside : IsBeside left links poller r

-- What the words come to over these files, this sink, these links and this poller.
abbrev pub ReportsTop : {L P : Type 0} → (L → Shown) → (P → ℕ) → Option (List ℕ → Option (List ℕ)) → Counts → Counts → Option Asked
    → L → P → TopEnd L P → Option (List ℕ) → Option (List ℕ) → ℕ → ℕ → Type 0
ReportsTop shown failed files before after (Some (Run image board)) links poller r old new faults faults_now =
    ReportsRun shown failed files before after image board links poller r old new faults faults_now
ReportsTop shown failed files before after form links poller r old new faults faults_now =
    ReportsElse files before after form links poller r old new faults faults_now
