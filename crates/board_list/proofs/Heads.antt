-- The head of a line, by the number of its words.
use Rattle.std.proofs.Common.{◌≡◌, ◌≢◌, ◌+◌, ℕ, List}
use Rattle.std.proofs.lemmas.Bool.{cond-true, cond-false, eq-eqb, ne_eqb}
use Rattle.board_list.specs.Listing.{flash_word, head_text, long_head, short_head}

pub head_long : (image : List ℕ) (at words : ℕ) → words ≡ 2 → head_text image at words ≡ long_head at (flash_word image at) (flash_word image (at + 1))
unfolding head_text
head_long image at words two = cond-true _ _ _ (eq-eqb _ _ two)

pub head_short : (image : List ℕ) (at words : ℕ) → words ≢ 2 → head_text image at words ≡ short_head at (flash_word image at)
unfolding head_text
head_short image at words other = cond-false _ _ _ (ne_eqb _ _ other)
