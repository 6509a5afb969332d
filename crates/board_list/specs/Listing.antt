-- The listing of a flash image: a line for each instruction, from word 0 to the last word other than FFFF.
use Rattle.std.specs.Prelude.{◌≡◌, ◌≢◌, ◌<◌, ◌≤◌, ◌-◌, ℕ, zero, suc, ◌+◌, ◌/◌, ◌%◌, ◌==◌, nat_lt, List, [], ◌∷◌, ◌++◌, codes, Result, Ok, Err, if◌then◌else◌}
use Rattle.flash.specs.Image.{word_at}
use Rattle.avr_table.specs.declared.instr.Instr.{Instr}
use Rattle.avr_table.specs.declared.fault.DecodeFault.{DecodeFault}
use Rattle.avr_table.specs.Decoded.{decoded}
use Rattle.avr_table.specs.Words.{words_of}
use Rattle.avr_enc.specs.Text.{text_of}
use Rattle.board_text.specs.Answers.{digit}

-- A word as four hexadecimal digits, in upper case.
abbrev pub word_text : ℕ → List ℕ
word_text n = digit (n / 4096 % 16) ∷ digit (n / 256 % 16) ∷ digit (n / 16 % 16) ∷ digit (n % 16) ∷ []

-- The word at a place of flash; past the end it is FFFF.
abbrev pub flash_word : List ℕ → ℕ → ℕ
flash_word image at = if nat_lt at 16384 then word_at image at else 0xFFFF

-- The number of the first n words up to the last one other than FFFF.
unfoldable pub used_below : List ℕ → ℕ → ℕ
used_below image zero = 0
used_below image (suc n) = if word_at image n == 0xFFFF then used_below image n else suc n

-- The number of words up to the last one other than FFFF.
unfoldable pub used : List ℕ → ℕ
used image = used_below image 16384

-- The listing ends here: the word before it is not FFFF, and each word of flash from it on is.
pub record IsEnd (image : List ℕ) (words n : ℕ) : Type 0 where
  pub within : n ≤ words
  pub last : 0 < n → word_at image (n - 1) ≢ 0xFFFF
  pub erased : (at : ℕ) → n ≤ at → at < words → word_at image at ≡ 0xFFFF

-- The listing ends behind the last word of flash other than FFFF.
abbrev pub EndsBehindTheLastWord : Type 0
EndsBehindTheLastWord = (image : List ℕ) → IsEnd image 16384 (used image)

-- What the word at a place says.
unfoldable pub said_at : List ℕ → ℕ → Result Instr DecodeFault
said_at image at = decoded (flash_word image at) (flash_word image (at + 1))

-- How many words a line takes: those of its instruction, and one where the word is no instruction.
abbrev pub words_said : Result Instr DecodeFault → ℕ
words_said (Ok instr) = words_of instr
words_said (Err fault) = 1

-- The head of a line: the number of its word, and its word, or its two words.
abbrev pub short_head : ℕ → ℕ → List ℕ
short_head at word = word_text at ++ 58 ∷ 32 ∷ word_text word ++ 32 ∷ []

abbrev pub long_head : ℕ → ℕ → ℕ → List ℕ
long_head at word next = word_text at ++ 58 ∷ 32 ∷ word_text word ++ 32 ∷ word_text next ++ 32 ∷ []

unfoldable pub head_text : List ℕ → ℕ → ℕ → List ℕ
head_text image at words =
    if words == 2 then long_head at (flash_word image at) (flash_word image (at + 1)) else
    short_head at (flash_word image at)

-- The rest of a line: the instruction's text.
abbrev pub tail_text : Result Instr DecodeFault → List ℕ
tail_text (Ok instr) = text_of instr ++ 10 ∷ []
tail_text (Err fault) = codes ".word\n"

-- The line at a place.
abbrev pub entry_text : List ℕ → ℕ → Result Instr DecodeFault → List ℕ
entry_text image at said = head_text image at (words_said said) ++ tail_text said

-- The lines from a place on, at most n of them.
unfoldable pub listed : List ℕ → ℕ → ℕ → List ℕ
listed image zero at = []
listed image (suc n) at =
    if nat_lt at (used image) then
    entry_text image at (said_at image at) ++ listed image n (at + words_said (said_at image at)) else
    []

-- The whole listing; each line takes a word at least.
unfoldable pub listing : List ℕ → List ℕ
listing image = listed image (used image) 0
