-- The first fault of a script's lines.
use Rattle.std.specs.Prelude.{ℕ, List}
use Rattle.board_gen.specs.EachLine.{EachRead, FaultIsFirst, ReadsEach}
use Rattle.board_gen.specs.Tokens.{line_steps}

-- Each text between spaces of each line is a token.
abbrev pub AllRead : List (List ℕ) → Type 0
AllRead = EachRead line_steps

-- A fault is at the first line with a text that is no token.
abbrev pub FaultsAreFirst : Type 0
FaultsAreFirst = FaultIsFirst line_steps

-- Where lines are read, the steps of each are those of its tokens.
abbrev pub ReadsEachLine : Type 0
ReadsEachLine = ReadsEach line_steps
