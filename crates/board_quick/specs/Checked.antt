-- A firmware image and a board, each judged by its text.
use Rattle.std.specs.Prelude.{ℕ, not, ◌==◌, List, [], ◌∷◌, ◌++◌, length, count_by, codes, Option, None, Some, Result, Ok, Err}
use Rattle.std.specs.Fmt.{decimal}
use Rattle.flash.specs.Image.{erased}
use Rattle.ihex.specs.declared.fault.HexFault.{HexFault}
use Rattle.ihex.specs.Flash.{written}
use Rattle.ihex.specs.Text.{data_in, fault_in}
use Rattle.board_file.specs.declared.fault.BoardFault.{BoardFault}
use Rattle.board_file.specs.Boards.{Setup, board_of}
use Rattle.board_quick.specs.declared.end.Refusal.{Refusal}
use Rattle.board_quick.specs.declared.end.Refusal.TheVariants.{Hex, Board}

-- The image that an Intel HEX text without a fault says.
abbrev pub image_of : List ℕ → List ℕ
image_of text = written erased (data_in text)

-- The image that a text says, with this first fault, if it has one.
abbrev pub judged_image : List ℕ → Option HexFault → Result (List ℕ) Refusal
judged_image text None = Ok (image_of text)
judged_image text (Some fault) = Err (Hex fault)

-- A board beside an image.
abbrev pub beside : List ℕ → Result Setup BoardFault → Result (List ℕ × Setup) Refusal
beside image (Ok setup) = Ok (image, setup)
beside image (Err fault) = Err (Board fault)

-- The board's text is judged where the image's has no fault.
abbrev pub with_board : Result (List ℕ) Refusal → List ℕ → Result (List ℕ × Setup) Refusal
with_board (Ok image) board = beside image (board_of board)
with_board (Err refusal) board = Err refusal

-- The image and the board that two texts say, or the first fault: that of the image's text stands before that of the board's.
abbrev pub judged : List ℕ → List ℕ → Result (List ℕ × Setup) Refusal
judged image board = with_board (judged_image image (fault_in image)) board

-- How many bytes of flash are not erased.
abbrev pub programmed : List ℕ → ℕ
programmed image = count_by (λ b. not (b == 255)) image

-- What `check` prints: the bytes of flash other than FF, and the board's listens, routes and peers.
abbrev pub check_text : List ℕ → Setup → List ℕ
check_text image setup =
    codes "ok " ++ (decimal (programmed image) ++ 32 ∷ (decimal (length setup.routes.listens) ++ 32 ∷ (decimal (length setup.routes.routes) ++ 32 ∷ (decimal (length setup.peers) ++ 10 ∷ []))))
