-- A script's lines, as the steps of all of them one after another.
use Rattle.std.specs.Prelude.{◌≡◌, ℕ, List, [], ◌∷◌, ◌++◌}
use Rattle.chip_sheet.specs.Past.{Past}
use Rattle.chip_sheet.specs.Streams.{Starts}
use Rattle.chip_sheet.specs.Replay.{Step, Ending, AllTaken, StoppedBy, NotDue, told}
use Rattle.board_gen.specs.declared.fault.ScriptKind.TheVariants as kind
use Rattle.board_gen.specs.declared.end.ScriptStop.{ScriptStop}
use Rattle.board_gen.specs.declared.end.ScriptStop.TheVariants.{Done, Fault, Chip, WriteFault, NoMemory}
use Rattle.board_gen.specs.Shown.{Shown, shown_from}

-- The steps of all lines.
abbrev pub all_steps : List (List Step) → List Step
all_steps [] = []
all_steps (steps ∷ more) = steps ++ all_steps more

-- A script that runs comes to this end where its steps come to that one.
abbrev pub EndsAs : ScriptStop → Ending → Type 0
EndsAs Done ending = ending ≡ AllTaken
EndsAs (Fault fault) ending = (fault.kind ≡ kind.NotDue) × (ending ≡ NotDue)
EndsAs (Chip s) ending = ending ≡ StoppedBy s
EndsAs WriteFault ending = ⊥
EndsAs NoMemory ending = ⊥

-- The history and the end are those of the steps.
pub record IsTold (starts : Starts) (past : Past) (steps : List Step) (it : Shown) : Type 0 where
  pub happened : it.past ≡ (told starts past steps).past
  pub ends : EndsAs it.end (told starts past steps).ending

abbrev pub LinesAreTold : Type 0
LinesAreTold =
    (starts : Starts) (past : Past) (n : ℕ) (lines : List (List Step)) → IsTold starts past (all_steps lines) (shown_from starts past n lines)
