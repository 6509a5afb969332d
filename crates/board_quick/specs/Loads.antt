-- An image and a board, read from two files and judged.
use Rattle.std.specs.Prelude.{◌≡◌, ◌⊎◌, ℕ, List, Option, Result, Ok, Err, MatchResult}
use Rattle.wz_base.specs.declared.reading.ReadError.{ReadError}
use Rattle.wz_base.specs.declared.reading.ReadError.TheVariants as errors
use Rattle.board_file.specs.Boards.{Setup}
use Rattle.board_quick.specs.declared.end.Refusal.{Refusal}
use Rattle.board_quick.specs.declared.end.Refusal.TheVariants as refusals
use Rattle.board_quick.specs.declared.loading.LoadError.{LoadError}
use Rattle.board_quick.specs.declared.loading.LoadError.TheVariants.{Refused, NoMemory}
use Rattle.board_quick.specs.Checked.{judged}
use Rattle.board_quick.specs.Reads.{Counts, Reading, WasRead}

-- Why the operand of this number gives no text.
abbrev pub unread : ℕ → ReadError → LoadError
unread operand errors.NoFile = Refused (refusals.NoFile operand)
unread operand errors.ReadFault = Refused (refusals.ReadFault operand)
unread operand errors.TooLong = Refused (refusals.TooLong operand)
unread operand errors.NoMemory = NoMemory

-- An image and a board, or the refusal of a text.
abbrev pub or_refused : Result (List ℕ × Setup) Refusal → Result (List ℕ × Setup) LoadError
or_refused (Ok both) = Ok both
or_refused (Err refusal) = Err (Refused refusal)

-- What two operands come to, by what was read of each.
abbrev pub both_of : Reading → Reading → Result (List ℕ × Setup) LoadError
both_of (Ok image) (Ok board) = or_refused (judged image board)
both_of (Ok image) (Err e) = Err (unread 2 e)
both_of (Err e) second = Err (unread 1 e)

-- What was read of the files of an image and of a board. The board is read once the image was read, and else nothing more was asked of the
-- files.
pub record ReadsBoth (files : Option (List ℕ → Option (List ℕ))) (before after : Counts) (image board : List ℕ) (first second : Reading) : Type 0 where
  pub between : Counts
  pub read_first : WasRead files image before between first
  pub read_second : MatchResult first (λ text. WasRead files board between after second) (λ e. after ≡ between)

-- What loading gives that comes to this: that, or memory ran out.
abbrev pub Gives : {A : Type 0} → Result A LoadError → Result A LoadError → Type 0
Gives what result = (result ≡ what) ⊎ (result ≡ Err NoMemory)

-- What loading the files of an image and of a board gives.
pub record Loads (files : Option (List ℕ → Option (List ℕ))) (before after : Counts) (image board : List ℕ) (result : Result (List ℕ × Setup) LoadError) : Type 0 where
  pub first : Reading
  pub second : Reading
  pub reads : ReadsBoth files before after image board first second
  pub gives : Gives (both_of first second) result
