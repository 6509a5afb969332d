-- The words of the command line, those after the program's name.
use Rattle.std.specs.Prelude.{ℕ, nat_le, Bool, true, false, not, ◌==◌, ◌&&◌, List, [], ◌∷◌, length, Option, None, Some, option_map, codes, if◌then◌else◌}
use Rattle.std.specs.Str.{bytes_eq}
use Rattle.board_read.specs.Numbers.{at_most, number_behind}
use Rattle.board_quick.specs.declared.words.TextCommand.{TextCommand}
use Rattle.board_quick.specs.declared.words.TextCommand.TheVariants as text
use Rattle.board_quick.specs.declared.words.BoardCommand.{BoardCommand}
use Rattle.board_quick.specs.declared.words.BoardCommand.TheVariants as board
use Rattle.board_quick.specs.declared.words.Command.{Command}
use Rattle.board_quick.specs.declared.words.Command.TheVariants as command

-- A written form: a live run of an image on a board, each by its name as bytes; what else is asked of one file, or of an image and a
-- board; a generated run, by its number; or `--help`.
pub data Asked : Type 0 where
  Run : (image : List ℕ) → (board : List ℕ) → Asked
  OnText : TextCommand → (name : List ℕ) → Asked
  OnBoard : BoardCommand → (image : List ℕ) → (board : List ℕ) → Asked
  Gen : (number : ℕ) → Asked
  Help : Asked

-- The written form that a command is.
abbrev pub asked : Command → Asked
asked (command.Run image board) = Run image.now board.now
asked (command.OnText what name) = OnText what name.now
asked (command.OnBoard what image board) = OnBoard what image.now board.now
asked (command.Gen number) = Gen number
asked command.Help = Help

-- What the first word asks of one file: `bus SCRIPT`, `judge TRACE` or `list HEX`.
abbrev pub text_command : List ℕ → Option TextCommand
text_command word =
    if bytes_eq word (codes "bus") then Some text.Bus else
    (if bytes_eq word (codes "judge") then Some text.Judge else
    (if bytes_eq word (codes "list") then Some text.List else None))

-- What the first word asks of an image and a board but a live run: `sim HEX BOARD`, `trace HEX BOARD` or `check HEX BOARD`.
abbrev pub board_command : List ℕ → Option BoardCommand
board_command word =
    if bytes_eq word (codes "sim") then Some board.Sim else
    (if bytes_eq word (codes "trace") then Some board.Trace else
    (if bytes_eq word (codes "check") then Some board.Check else None))

-- An operand is not empty and does not start with a dash.
abbrev pub is_operand : List ℕ → Bool
is_operand [] = false
is_operand (b ∷ word) = not (b == 45)

abbrev pub on_text : List ℕ → List ℕ → Option Asked
on_text word name = if is_operand name then option_map (λ what. OnText what name) (text_command word) else None

-- What three words are whose last two may be operands: `run HEX BOARD`, or another command on an image and a board.
abbrev pub on_both : List ℕ → List ℕ → List ℕ → Option Asked
on_both word image board =
    if bytes_eq word (codes "run") then Some (Run image board) else option_map (λ what. OnBoard what image board) (board_command word)

abbrev pub on_board : List ℕ → List ℕ → List ℕ → Option Asked
on_board word image board = if is_operand image && is_operand board then on_both word image board else None

-- The number that a word writes: one to twenty digits of at most 2^64 - 1. It may begin with zeros.
abbrev pub number : List ℕ → Option ℕ
number word = if nat_le 1 (length word) && nat_le (length word) 20 then at_most 18446744073709551615 (number_behind 0 word) else None

-- What two words are: `gen N`, or a command on one file.
abbrev pub two_words : List ℕ → List ℕ → Option Asked
two_words word operand = if bytes_eq word (codes "gen") then option_map Gen (number operand) else on_text word operand

-- The written form that the words are. All else is none.
abbrev pub command_of : List (List ℕ) → Option Asked
command_of [] = None
command_of (word ∷ []) = if bytes_eq word (codes "--help") then Some Help else None
command_of (word ∷ operand ∷ []) = two_words word operand
command_of (word ∷ image ∷ board ∷ []) = on_board word image board
command_of (a ∷ b ∷ c ∷ d ∷ more) = None

-- The words ask for a live run.
abbrev pub asks_live : Option Asked → Bool
asks_live (Some (Run image board)) = true
asks_live form = false

-- What `--help` prints: each written form that is built, on a line of its own.
abbrev pub forms : List ℕ
forms = codes "run HEX BOARD\nsim HEX BOARD\ntrace HEX BOARD\ncheck HEX BOARD\nbus SCRIPT\njudge TRACE\nlist HEX\ngen N\n--help\n"
