-- An image that takes one word more.
use Rattle.std.proofs.Common.{◌≡◌, ℕ, suc, ◌+◌, ◌-◌, ◌*◌, ◌/◌, ◌%◌, ◌<◌, ◌≤◌, List, [], ◌∷◌, ◌++◌, length, take, set, get_or, refl, sym, ap, ◌∙◌, arith, append_assoc}
use Rattle.std.proofs.Math.Seq.{take-suc, take-length}
use Rattle.std.proofs.lemmas.List.{set-append_right, length-take-le}
use Rattle.flash.specs.Image.{filled}
use Rattle.board_echo.specs.Assembly.{bytes_of, image_of}

filled_more : (n : ℕ) → filled (suc n) 255 ≡ 255 ∷ filled n 255
unfolding filled
filled_more n = refl

bytes_length : (ws : List ℕ) → length (bytes_of ws) ≡ 2 * length ws
bytes_length [] = refl
bytes_length (w ∷ ws) = let rest = bytes_length ws in omega (arith, rest)

bytes_more : (xs : List ℕ) (w : ℕ) → bytes_of (xs ++ w ∷ []) ≡ bytes_of xs ++ w % 256 ∷ w / 256 ∷ []
bytes_more [] w = refl
bytes_more (x ∷ xs) w = ap (λ l. x % 256 ∷ x / 256 ∷ l) (bytes_more xs w)

two_set : (front rest : List ℕ) (at a b : ℕ) → length front ≡ at → set (set (front ++ 255 ∷ 255 ∷ rest) at a) (at + 1) b ≡ front ++ a ∷ b ∷ rest
two_set front rest at a b is =
    let none : at - at ≡ 0 = omega arith in
    let one : at + 1 - at ≡ 1 = omega arith in
    ap (λ l. set l (at + 1) b) (set-append_right front (255 ∷ 255 ∷ rest) at at a is (omega arith))
    ∙ ap (λ k. set (front ++ set (255 ∷ 255 ∷ rest) k a) (at + 1) b) none
    ∙ set-append_right front (a ∷ 255 ∷ rest) at (at + 1) b is (omega arith)
    ∙ ap (λ k. front ++ set (a ∷ 255 ∷ rest) k b) one

-- the image of the first words
abbrev pub so_far : List ℕ → ℕ → List ℕ
so_far words i = bytes_of (take i words) ++ filled (32768 - 2 * i) 255

-- one word more
pub goes_on : (words : List ℕ) (i w : ℕ) → i < length words → length words ≤ 16384 → w ≡ get_or words i 0
    → set (set (so_far words i) (2 * i) (w % 256)) (2 * i + 1) (w / 256) ≡ so_far words (suc i)
goes_on words i w below few is =
    let left : 32768 - 2 * i ≡ suc (suc (32768 - 2 * suc i)) = omega (arith, below, few) in
    let rest : filled (32768 - 2 * i) 255 ≡ 255 ∷ 255 ∷ filled (32768 - 2 * suc i) 255 =
    ap (λ n. filled n 255) left ∙ filled_more (suc (32768 - 2 * suc i)) ∙ ap (λ l. 255 ∷ l) (filled_more (32768 - 2 * suc i)) in
    let long : length (bytes_of (take i words)) ≡ 2 * i =
    bytes_length (take i words) ∙ ap (λ n. 2 * n) (length-take-le i words (omega (arith, below))) in
    let more : bytes_of (take (suc i) words) ≡ bytes_of (take i words) ++ w % 256 ∷ w / 256 ∷ [] =
    ap bytes_of (take-suc words i 0 below ∙ ap (λ x. take i words ++ x ∷ []) (sym is)) ∙ bytes_more (take i words) w in
    ap (λ l. set (set (bytes_of (take i words) ++ l) (2 * i) (w % 256)) (2 * i + 1) (w / 256)) rest
    ∙ two_set (bytes_of (take i words)) (filled (32768 - 2 * suc i) 255) (2 * i) (w % 256) (w / 256) long
    ∙ sym (append_assoc (bytes_of (take i words)) (w % 256 ∷ w / 256 ∷ []) (filled (32768 - 2 * suc i) 255))
    ∙ ap (λ l. l ++ filled (32768 - 2 * suc i) 255) (sym more)

-- all words
pub goes_to_end : (words : List ℕ) → so_far words (length words) ≡ image_of words
goes_to_end words = ap (λ l. bytes_of l ++ filled (32768 - 2 * length words) 255) (take-length words)
