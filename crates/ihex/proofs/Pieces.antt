-- Text written one piece after another.
use Rattle.std.proofs.Common.{◌≡◌, ℕ, ◌+◌, ◌<◌, ◌≤◌, ◌/◌, ◌%◌, ◌*◌, sum, Bool, true, cond, eqb, List, [], ◌∷◌, ◌++◌, length, get_or, drop, sym, ap, ◌∙◌, append_assoc, append-nil}
use Rattle.std.proofs.lemmas.List.{drop_more, drop_all}
use Rattle.ihex.specs.Store.{upper, digits_of, head_of, checksum, record_line, row_of, row_line}
use Rattle.std.specs.List.{list_all}

-- the digits of one more byte
pub digits_more : (text bytes : List ℕ) (i : ℕ) → i < length bytes → text ++ digits_of (drop i bytes) ≡ (text ++ upper (get_or bytes i 0 / 16) ∷ upper (get_or bytes i 0 % 16) ∷ []) ++ digits_of (drop (i + 1) bytes)
digits_more text bytes i below =
    ap (λ (rest : List ℕ). text ++ digits_of rest) (drop_more bytes i 0 below)
    ∙ sym (append_assoc text (upper (get_or bytes i 0 / 16) ∷ upper (get_or bytes i 0 % 16) ∷ []) (digits_of (drop (i + 1) bytes)))

pub digits_all : (text bytes : List ℕ) (i : ℕ) → length bytes ≤ i → text ++ digits_of (drop i bytes) ≡ text
digits_all text bytes i last = ap (λ (rest : List ℕ). text ++ digits_of rest) (drop_all i bytes last) ∙ append-nil text

-- the line of a record, piece by piece
pub record_text : (old a b d e f row : List ℕ) (at check m n : ℕ) → a ≡ old ++ 58 ∷ [] → b ≡ a ++ digits_of (head_of at) → d ≡ b ++ digits_of row → e ≡ d ++ digits_of (check ∷ []) → f ≡ e ++ 10 ∷ []
    → m ≡ sum (head_of at) → n ≡ sum row → check ≡ checksum (m + n) → f ≡ old ++ record_line at row
unfolding record_line
record_text old a b d e f row at check m n ha hb hd he hf hm hn hc =
    let total : check ≡ checksum (sum (head_of at) + sum row) = hc ∙ ap checksum (ap (λ (x : ℕ). x + n) hm ∙ ap (λ (y : ℕ). sum (head_of at) + y) hn) in
    let last : e ≡ d ++ digits_of (checksum (sum (head_of at) + sum row) ∷ []) = he ∙ ap (λ (v : ℕ). d ++ digits_of (v ∷ [])) total in
    let all : f ≡ ((((old ++ 58 ∷ []) ++ digits_of (head_of at)) ++ digits_of row) ++ digits_of (checksum (sum (head_of at) + sum row) ∷ [])) ++ 10 ∷ [] =
    hf ∙ ap (λ (t : List ℕ). t ++ 10 ∷ []) (last ∙ ap (λ (t : List ℕ). t ++ digits_of (checksum (sum (head_of at) + sum row) ∷ [])) (hd ∙ ap (λ (t : List ℕ). t ++ digits_of row) (hb ∙ ap (λ (t : List ℕ). t ++ digits_of (head_of at)) ha))) in
    all ∙ simp append_assoc

-- a row of FF has no line
pub row_none : (text image : List ℕ) (k : ℕ) → list_all (λ b. eqb b 255) (row_of image k) ≡ true → text ≡ text ++ row_line image k
unfolding row_line
row_none text image k e = sym (ap (λ (o : Bool). text ++ cond o [] (record_line (16 * k) (row_of image k))) e ∙ append-nil text)
