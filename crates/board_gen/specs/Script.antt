-- Scripts: a line `start TX RX` where it is wanted, and lines of tokens.
use Rattle.std.specs.Prelude.{ℕ, ◌==◌, List, [], ◌∷◌, map, take, Option, None, Some, Result, Ok, Err, codes, if◌then◌else◌}
use Rattle.std.specs.List.{slice_split, position}
use Rattle.std.specs.Str.{bytes_eq}
use Rattle.std.specs.Str.Lines.{lines_of_parts}
use Rattle.chip_sheet.specs.Streams.{Starts}
use Rattle.chip_sheet.specs.Replay.{Step}
use Rattle.board_gen.specs.declared.fault.ScriptFault.{ScriptFault}
use Rattle.board_gen.specs.declared.fault.ScriptKind.TheVariants.{BadHead}
use Rattle.board_read.specs.Numbers.{pointer}
use Rattle.board_gen.specs.EachLine.{read_from}
use Rattle.board_gen.specs.Tokens.{tokens, line_steps}

abbrev pub cut_at : Option ℕ → List ℕ → List ℕ
cut_at None part = part
cut_at (Some i) part = take i part

-- What a part between line feeds is without its comment, which begins at the first # and ends with the part: 35 is #.
abbrev pub uncommented : List ℕ → List ℕ
uncommented part = cut_at (position (λ b. b == 35) part) part

-- The parts between line feeds, without their comments: 10 is a line feed.
abbrev pub parts : List ℕ → List (List ℕ)
parts text = map uncommented (slice_split (λ b. b == 10) text)

-- The lines of a script. Comments are taken away first; then each line ends with LF or CR LF, and the last one may have no
-- end.
abbrev pub script_lines : List ℕ → List (List ℕ)
script_lines text = lines_of_parts (parts text)

-- Both pointers 0, where a script has no line with them.
abbrev pub no_starts : Starts
no_starts = record { tx = 0; rx = 0 }

-- What a script says: where the pointers start, and the steps of each of its lines, the first of which has this number.
pub record Scripted : Type 0 where
  pub starts : Starts
  pub number : ℕ
  pub lines : List (List Step)

-- The steps of lines, the first of which has the number n; or the first fault.
abbrev pub lines_from : ℕ → List (List ℕ) → Result (List (List Step)) ScriptFault
lines_from = read_from line_steps

-- How a script begins: with the pointers, with a word `start` and something else behind it, or with neither.
pub data Head : Type 0 where
  NoHead : Head
  Pointers : Starts → Head
  Unreadable : Head

abbrev pub pointers : Option ℕ → Option ℕ → Head
pointers (Some tx) (Some rx) = Pointers (record { tx = tx; rx = rx })
pointers tx rx = Unreadable

abbrev pub behind_start : List (List ℕ) → Head
behind_start [] = Unreadable
behind_start (tx ∷ []) = Unreadable
behind_start (tx ∷ rx ∷ []) = pointers (pointer tx) (pointer rx)
behind_start (tx ∷ rx ∷ more ∷ others) = Unreadable

-- What the tokens of the first line say.
abbrev pub head : List (List ℕ) → Head
head [] = NoHead
head (word ∷ more) = if bytes_eq word (codes "start") then behind_start more else NoHead

abbrev pub scripted : Starts → ℕ → Result (List (List Step)) ScriptFault → Result Scripted ScriptFault
scripted starts n (Ok lines) = Ok (record { starts = starts; number = n; lines = lines })
scripted starts n (Err fault) = Err fault

-- The script of lines that begin so: a line with the pointers has no steps, and those behind it are counted from 2.
abbrev pub headed : Head → List ℕ → List (List ℕ) → Result Scripted ScriptFault
headed NoHead first more = scripted no_starts 1 (lines_from 1 (first ∷ more))
headed (Pointers starts) first more = scripted starts 2 (lines_from 2 more)
headed Unreadable first more = Err (record { line = 1; kind = BadHead })

abbrev pub of_lines : List (List ℕ) → Result Scripted ScriptFault
of_lines [] = Ok (record { starts = no_starts; number = 1; lines = [] })
of_lines (first ∷ more) = headed (head (tokens first)) first more

-- The script that a text is, or its first fault.
abbrev pub script_of : List ℕ → Result Scripted ScriptFault
script_of text = of_lines (script_lines text)
