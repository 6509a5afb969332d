-- What a trace's faults and verdicts say, in the words of whole lists.
use Rattle.std.specs.Prelude.{◌≡◌, ◌≢◌, ℕ, List, [], ◌∷◌, ◌++◌, length, reverse, Option, None, Some}
use Rattle.chip_sheet.specs.declared.event.Entry.{Entry}
use Rattle.chip_sheet.specs.declared.event.Entry.TheVariants.{Bus, Link, Rest}
use Rattle.chip_sheet.specs.Past.{Past}
use Rattle.chip_sheet.specs.Streams.{Starts}
use Rattle.chip_sheet.specs.Answers.{answer}
use Rattle.chip_sheet.specs.Stops.{stop}
use Rattle.chip_sheet.specs.Legal.{Legal, FitsAfter}
use Rattle.board_gen.specs.EachLine.{FaultIsFirst, ReadsEach}
use Rattle.board_judge.specs.declared.end.JudgeFault.{JudgeFault}
use Rattle.board_judge.specs.declared.end.JudgeFault.TheVariants.{Differs, Unfit, Stops}
use Rattle.board_judge.specs.Entries.{entry_read}
use Rattle.board_judge.specs.Judged.{answer_byte, judged}

-- A fault is at the first line that is no entry.
abbrev pub FaultsAreFirst : Type 0
FaultsAreFirst = FaultIsFirst entry_read

-- Where lines are read, each entry is that of its line.
abbrev pub ReadsEachLine : Type 0
ReadsEachLine = ReadsEach entry_read

-- This is wrong with an entry after this past: the chip answers otherwise, with the bytes of both answers; the link event does not
-- fit; or the event has this stop.
abbrev pub IsWrong : Starts → Past → Entry → JudgeFault → Type 0
IsWrong starts past (Bus e a) (Differs place expected found) =
    (stop starts past e ≡ None) × (a ≢ answer starts past e) × (expected ≡ answer_byte (answer starts past e)) × (found ≡ answer_byte a)
IsWrong starts past (Bus e a) (Unfit place) = ⊥
IsWrong starts past (Bus e a) (Stops place s) = stop starts past e ≡ Some s
IsWrong starts past (Link n what) (Differs place expected found) = ⊥
IsWrong starts past (Link n what) (Unfit place) = FitsAfter starts past (Link n what) → ⊥
IsWrong starts past (Link n what) (Stops place s) = ⊥
IsWrong starts past Rest fault = ⊥

abbrev pub place_of : JudgeFault → ℕ
place_of (Differs place expected found) = place
place_of (Unfit place) = place
place_of (Stops place s) = place

-- The fault is at the first place that is not allowed.
pub record FirstWrong (starts : Starts) (entries : List Entry) (past : Past) (fault : JudgeFault) : Type 0 where
  pub before : List Entry
  pub wrong : Entry
  pub behind : List Entry
  pub parts : entries ≡ before ++ wrong ∷ behind
  pub place : place_of fault ≡ length before
  pub happened : past ≡ reverse before
  pub legal : Legal starts (reverse before)
  pub is : IsWrong starts (reverse before) wrong fault

-- A verdict on entries, the oldest first.
abbrev pub Holds : Starts → List Entry → Past → Option JudgeFault → Type 0
Holds starts entries past None = (past ≡ reverse entries) × Legal starts (reverse entries)
Holds starts entries past (Some fault) = FirstWrong starts entries past fault

abbrev pub VerdictsHold : Type 0
VerdictsHold =
    (starts : Starts) (entries : List Entry) → Holds starts entries (judged starts [] entries).past (judged starts [] entries).fault

-- A history that is allowed is judged so, whole.
abbrev pub LegalsAreDone : Type 0
LegalsAreDone =
    (starts : Starts) (entries : List Entry) → Legal starts (reverse entries) → judged starts [] entries ≡ record { past = reverse entries; fault = None }
