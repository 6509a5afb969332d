-- Answers that are added to a line one after another, with a space between.
use Rattle.std.proofs.Common.{◌≡◌, ℕ, List, [], ◌∷◌, ◌++◌, refl, sym, ap, ◌∙◌, append_assoc}
use Rattle.std.specs.List.{filter_map, join_with_byte}
use Rattle.board_bus.specs.declared.event.BusAnswer.{BusAnswer}
use Rattle.board_bus.specs.declared.event.BusAnswer.TheVariants.{Done, Out, Level}
use Rattle.board_text.specs.Answers.{printed, joined}
use Rattle.board_text.specs.Adding.{spaced, with_printed}

-- the pieces that are left, behind what stands on the line
abbrev behind : List ℕ → List (List ℕ) → List ℕ
behind text [] = text
behind [] (piece ∷ pieces) = join_with_byte 32 (piece ∷ pieces)
behind (b ∷ text) (piece ∷ pieces) = (b ∷ text) ++ 32 ∷ join_with_byte 32 (piece ∷ pieces)

-- one piece more is on the line
behind-piece : (text : List ℕ) (c : ℕ) (piece : List ℕ) (pieces : List (List ℕ)) → behind text ((c ∷ piece) ∷ pieces) ≡ behind (spaced text ++ c ∷ piece) pieces
behind-piece [] c piece [] = refl
behind-piece [] c piece (next ∷ pieces) = refl
behind-piece (b ∷ text) c piece [] = sym (append_assoc (b ∷ text) (32 ∷ []) (c ∷ piece))
behind-piece (b ∷ text) c piece (next ∷ pieces) =
    let rest = join_with_byte 32 (next ∷ pieces) in
    sym (append_assoc (b ∷ text) (32 ∷ c ∷ piece) (32 ∷ rest))
    ∙ ap (λ (front : List ℕ). front ++ 32 ∷ rest) (sym (append_assoc (b ∷ text) (32 ∷ []) (c ∷ piece)))

-- an answer more is on the line
behind-answer : (text : List ℕ) (a : BusAnswer) (rest : List BusAnswer) → behind text (filter_map printed (a ∷ rest)) ≡ behind (with_printed text (printed a)) (filter_map printed rest)
behind-answer text Done rest = refl
behind-answer text (Out v) rest = behind-piece text _ _ (filter_map printed rest)
behind-answer text (Level high) rest = behind-piece text _ _ (filter_map printed rest)

behind-none : (pieces : List (List ℕ)) → behind [] pieces ≡ join_with_byte 32 pieces
behind-none [] = refl
behind-none (piece ∷ pieces) = refl

-- some answers and then the others
behind-both : (text : List ℕ) (xs ys : List BusAnswer) → behind text (filter_map printed (xs ++ ys)) ≡ behind (behind text (filter_map printed xs)) (filter_map printed ys)
behind-both text [] ys = refl
behind-both text (a ∷ xs) ys =
    behind-answer text a (xs ++ ys)
    ∙ behind-both (with_printed text (printed a)) xs ys
    ∙ ap (λ (front : List ℕ). behind front (filter_map printed ys)) (sym (behind-answer text a xs))

-- one answer more
pub joined_more : (before : List BusAnswer) (a : BusAnswer) → joined (before ++ a ∷ []) ≡ with_printed (joined before) (printed a)
joined_more before a =
    sym (behind-none (filter_map printed (before ++ a ∷ [])))
    ∙ behind-both [] before (a ∷ [])
    ∙ ap (λ (front : List ℕ). behind front (filter_map printed (a ∷ []))) (behind-none (filter_map printed before))
    ∙ behind-answer (joined before) a []
